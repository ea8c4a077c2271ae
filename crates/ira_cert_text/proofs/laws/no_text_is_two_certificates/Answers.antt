use Rattle.ira_cert_text.proofs.CertAnswers.{one_certificate}
use Rattle.ira_cert_text.proofs.laws.no_text_is_two_certificates.Goals as goal

pub returns : goal.returns
returns c = one_certificate
