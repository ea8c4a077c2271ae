use Rattle.std.proofs.Common.{◌≡◌, ◌↔◌, ◌≤◌, ℕ, Bool, List, All, IsTrue, length, subst, arith}
use Rattle.ira_event.specs.RingSize.{IsRingSize}
use Rattle.ira_cert_text.specs.Limits.{MAX_SECTIONS}
use Rattle.ira_cert_text.specs.Certificate.{Section, Certificate, IsSection, IsCertificate}
use Rattle.ira_cert_text.proofs.certificate.Certificate.is_in_range.Goals as goal

-- a certificate that is seen so is within the limits exactly where its sections are
in_range : (c : Certificate) (nodes n : ℕ) (sections : List Section) (told : Bool)
    → record { nodes = nodes; sections = sections } ≡ c → IsRingSize nodes → n ≡ nodes → length sections ≤ MAX_SECTIONS
    → (IsTrue told ↔ All (IsSection n) sections) → IsTrue told ↔ IsCertificate c
in_range c nodes n sections told view size same few each =
    let its : IsTrue told ↔ All (IsSection nodes) sections =
    subst (λ m. IsTrue told ↔ All (IsSection m) sections) same each in
    subst (λ (x : Certificate). IsTrue told ↔ IsCertificate x) view (
      λ y.
          record { size = size; count = few; sections = its.0 y },
      λ h. its.1 h.sections,
    )

pub returns-then-len-le-MAX_SECTIONS : goal.returns-then-len-le-MAX_SECTIONS
returns-then-len-le-MAX_SECTIONS g c =
    in_range c.args.self.now c.self.inside.nodes c.get.result c.self.inside.sections.items _ c.self.view_is
    c.get.ensures.valid c.get.ensures.value (omega (arith, c.len.ensures, c.if-len-le-MAX_SECTIONS.true))
    (rw c.deref.ensures.value at c.are_in_range.ensures)
