use Rattle.std.proofs.Common.{◌≡◌, ◌↔◌, ℕ, refl, IsTrue, length, nat_le, arith}
use Rattle.std.proofs.lemmas.Bool.Decides.{nat_tests}
use Rattle.ira_event.specs.Limits.{MAX_TEXT}
use Rattle.ira_cert_text.specs.Certificate.{Certificate, IsCertificate}
use Rattle.ira_cert_text.specs.CertText.{cert_text, IsCertText}
use Rattle.ira_cert_text.proofs.Spelled.{cert_text_is}
use Rattle.ira_cert_text.proofs.certificate.Certificate.readable.Goals as goal

-- within the limits only the length is left to see
by_length : (c : Certificate) (len : ℕ) → IsCertificate c → len ≡ length (cert_text c)
    → IsTrue (nat_le len MAX_TEXT) ↔ IsCertText (cert_text c) c
by_length c len within is =
    (λ y. cert_text_is c within (grind (arith, nat_tests, y, is)), λ h. grind (arith, nat_tests, h.short, is))

pub returns-then-is_in_range : goal.returns-then-is_in_range
returns-then-is_in_range g c =
    by_length c.args.self.now c.text_len.result (c.if-is_in_range.ensures.0 refl) c.text_len.ensures
