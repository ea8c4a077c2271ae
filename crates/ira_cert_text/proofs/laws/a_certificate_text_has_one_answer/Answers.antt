use Rattle.ira_cert_text.proofs.CertAnswers.{certificate_or_fault, one_fault}
use Rattle.ira_cert_text.proofs.EarlyFaults.{not_out_of_memory}
use Rattle.ira_cert_text.proofs.TextsAnswered.{each_answered}
use Rattle.ira_cert_text.proofs.laws.a_certificate_text_has_one_answer.Goals as goal

pub returns-clause-answered : goal.returns-clause-answered
returns-clause-answered c = each_answered

pub returns-clause-certificate_or_fault : goal.returns-clause-certificate_or_fault
returns-clause-certificate_or_fault c = certificate_or_fault

pub returns-clause-one_fault : goal.returns-clause-one_fault
returns-clause-one_fault c = one_fault

pub returns-clause-memory : goal.returns-clause-memory
returns-clause-memory c = not_out_of_memory
