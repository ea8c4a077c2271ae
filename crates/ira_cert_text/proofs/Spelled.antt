-- A certificate within the limits is spelled as it is written out.
use Rattle.std.proofs.Common.{◌≡◌, ◌≤◌, ℕ, List, [], ◌∷◌, ◌++◌, ◌↔◌, All, length, refl, sym, ap, subst, ◌∙◌, arith}
use Rattle.std.proofs.Common.{append_assoc}
use Rattle.std.specs.Prelude.{codes, decimal}
use Rattle.std.specs.List.{flat_map}
use Rattle.std.proofs.lemmas.List.Elements.{All-head, All-tail}
use Rattle.ira_event.specs.Limits.{MAX_NODES, MAX_TEXT}
use Rattle.ira_event.proofs.Spelled.{numeral_is_decimal, decimal_is_numeral}
use Rattle.ira_cert_text.specs.declared.cert_step.CertStep.{CertStep}
use Rattle.ira_cert_text.specs.Certificate.{Section, Certificate, IsStep, IsSection, IsCertificate}
use Rattle.ira_cert_text.specs.CertText.{IsStepLine, AreStepLines, IsSectionText, AreSectionTexts, IsCertText}
use Rattle.ira_cert_text.specs.CertText.{step_text, section_text, cert_text}

module _ (nodes : ℕ) (few : nodes ≤ MAX_NODES) where
  step_line_spelled : (line : List ℕ) (s : CertStep) → IsStep nodes s → IsStepLine line s
      → line ++ codes "\n" ≡ step_text s
  step_line_spelled line s within h =
      let spelled : line ≡ codes "drop " ++ decimal s.node ++ codes " " ++ decimal s.pos ++ codes " by "
      ++ decimal s.other ++ codes " " ++ decimal s.other_pos =
      h.parts
      ∙ rw (
        numeral_is_decimal h.node s.node h.node_is (omega (arith, within.node, few)),
        numeral_is_decimal h.pos s.pos h.pos_is (omega (arith, within.pos)),
        numeral_is_decimal h.other s.other h.other_is (omega (arith, within.other, few)),
        numeral_is_decimal h.other_pos s.other_pos h.other_pos_is (omega (arith, within.other_pos)),
      ) refl in
      ap (λ w. w ++ codes "\n") spelled

  step_line_is : (s : CertStep) → IsStep nodes s → (line : List ℕ) × (line ++ codes "\n" ≡ step_text s)
      × IsStepLine line s
  step_line_is s within = (
    codes "drop " ++ decimal s.node ++ codes " " ++ decimal s.pos ++ codes " by " ++ decimal s.other ++ codes " "
        ++ decimal s.other_pos,
    refl,
    record {
      node = decimal s.node;
      pos = decimal s.pos;
      other = decimal s.other;
      other_pos = decimal s.other_pos;
      node_is = decimal_is_numeral s.node (omega (arith, within.node, few));
      pos_is = decimal_is_numeral s.pos (omega (arith, within.pos));
      other_is = decimal_is_numeral s.other (omega (arith, within.other, few));
      other_pos_is = decimal_is_numeral s.other_pos (omega (arith, within.other_pos));
      parts = refl;
    },
  )

  step_lines_spelled : (text : List ℕ) (ss : List CertStep) → All (IsStep nodes) ss → AreStepLines text ss
      → text ≡ flat_map step_text ss
  step_lines_spelled text [] within h = h
  step_lines_spelled text (s ∷ ss) within h =
      h.2 ∙ ap (λ w. w ++ h.1) (step_line_spelled h.0 s (All-head (IsStep nodes) s ss within) h.3)
      ∙ ap (λ w. step_text s ++ w) (step_lines_spelled h.1 ss (All-tail (IsStep nodes) s ss within) h.4)

  step_lines_are : (ss : List CertStep) → All (IsStep nodes) ss → AreStepLines (flat_map step_text ss) ss
  step_lines_are [] within = refl
  step_lines_are (s ∷ ss) within =
      let first = step_line_is s (All-head (IsStep nodes) s ss within) in (
        first.0,
        flat_map step_text ss,
        ap (λ w. w ++ flat_map step_text ss) (sym first.1),
        first.2,
        step_lines_are ss (All-tail (IsStep nodes) s ss within),
      )

  section_spelled : (text : List ℕ) (s : Section) → IsSection nodes s → IsSectionText text s → text ≡ section_text s
  section_spelled text s within h =
      let spent : h.spent ≡ codes "spent " ++ decimal s.spent =
      h.spent_is.1 ∙ ap (λ w. codes "spent "
      ++ w) (numeral_is_decimal h.spent_is.0 s.spent h.spent_is.2 (omega (arith, within.spent, few))) in
      h.parts ∙ rw (
        step_lines_spelled h.steps s.steps within.steps h.steps_are,
        spent,
      ) (append_assoc (codes "section\n" ++ flat_map step_text s.steps) (codes "spent "
      ++ decimal s.spent) (codes "\n"))

  section_is : (s : Section) → IsSection nodes s → IsSectionText (section_text s) s
  section_is s within = record {
    steps = flat_map step_text s.steps;
    spent = codes "spent " ++ decimal s.spent;
    steps_are = step_lines_are s.steps within.steps;
    spent_is = (decimal s.spent, refl, decimal_is_numeral s.spent (omega (arith, within.spent, few)));
    parts = sym (append_assoc (codes "section\n" ++ flat_map step_text s.steps) (codes "spent "
        ++ decimal s.spent) (codes "\n"));
  }

  sections_spelled : (text : List ℕ) (ss : List Section) → All (IsSection nodes) ss → AreSectionTexts text ss
      → text ≡ flat_map section_text ss
  sections_spelled text [] within h = h
  sections_spelled text (s ∷ ss) within h =
      h.2 ∙ ap (λ w. w ++ h.1) (section_spelled h.0 s (All-head (IsSection nodes) s ss within) h.3)
      ∙ ap (λ w. section_text s ++ w) (sections_spelled h.1 ss (All-tail (IsSection nodes) s ss within) h.4)

  sections_are : (ss : List Section) → All (IsSection nodes) ss → AreSectionTexts (flat_map section_text ss) ss
  sections_are [] within = refl
  sections_are (s ∷ ss) within = (
    section_text s,
    flat_map section_text ss,
    refl,
    section_is s (All-head (IsSection nodes) s ss within),
    sections_are ss (All-tail (IsSection nodes) s ss within),
  )

pub cert_text_spelled : (text : List ℕ) (c : Certificate) → IsCertText text c → text ≡ cert_text c
cert_text_spelled text c h =
    let v = h.valid in
    let head : h.head ≡ codes "ircert 1\n" ++ codes "nodes " ++ decimal c.nodes ++ codes "\n" =
    h.head_is.1 ∙ rw (numeral_is_decimal h.head_is.0 c.nodes h.head_is.2 (omega (arith, v.size.1))) refl in
    h.parts ∙ rw (head, sections_spelled c.nodes v.size.1 h.sections c.sections v.sections h.sections_are) refl

pub cert_text_is : (c : Certificate) → IsCertificate c → length (cert_text c) ≤ MAX_TEXT → IsCertText (cert_text c) c
cert_text_is c v short = record {
  head = codes "ircert 1\n" ++ codes "nodes " ++ decimal c.nodes ++ codes "\n";
  sections = flat_map section_text c.sections;
  head_is = (decimal c.nodes, refl, decimal_is_numeral c.nodes (omega (arith, v.size.1)));
  sections_are = sections_are c.nodes v.size.1 c.sections v.sections;
  parts = refl;
  short = short;
  valid = v;
}

pub one_text : (text : List ℕ) (c : Certificate)
    → IsCertText text c ↔ (IsCertificate c × (length (cert_text c) ≤ MAX_TEXT) × (text ≡ cert_text c))
one_text text c = (
  λ h. let e = cert_text_spelled text c h in (h.valid, subst (λ t. length t ≤ MAX_TEXT) e h.short, e),
  λ h. subst (λ t. IsCertText t c) (sym h.2) (cert_text_is c h.0 h.1),
)
