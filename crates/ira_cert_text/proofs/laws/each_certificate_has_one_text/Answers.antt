use Rattle.ira_cert_text.proofs.Spelled.{one_text}
use Rattle.ira_cert_text.proofs.laws.each_certificate_has_one_text.Goals as goal

pub returns : goal.returns
returns c = one_text
