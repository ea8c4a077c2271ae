-- Sections that are added to the text of a certificate.
use Rattle.std.proofs.Common.{◌≡◌, ℕ, ◌+◌, ◌≤◌, inl, inr, List, [], ◌∷◌, ◌++◌, All, length, sym, ap, ◌∙◌, arith}
use Rattle.std.proofs.Common.{length-append, append_assoc}
use Rattle.std.specs.Prelude.{codes}
use Rattle.std.proofs.lemmas.Grind.{flat_map-append}
use Rattle.std.proofs.lemmas.List.Elements.{All-cons, All-head, All-nil, All-tail}
use Rattle.ira_event.specs.Limits.{MAX_TEXT}
use Rattle.ira_cert_text.specs.Certificate.{Section, Certificate, IsSection}
use Rattle.ira_cert_text.specs.CertDraft.{ArePastLimits, AreWithinLimits, text_before_end}
use Rattle.ira_cert_text.specs.CertText.{IsCertText, cert_text, section_text}
use Rattle.ira_cert_text.proofs.Spelled.{cert_text_is}

all_front : {X : Type 0} (P : X → Type 0) (xs ys : List X) → All P (xs ++ ys) → All P xs
all_front P [] ys h = All-nil P
all_front P (x ∷ xs) ys h = All-cons P x xs (All-head P x (xs ++ ys) h) (all_front P xs ys (All-tail P x (xs ++ ys) h))

pub all_last : {X : Type 0} (P : X → Type 0) (xs : List X) (x : X) → All P (xs ++ x ∷ []) → P x
all_last P [] x h = All-head P x [] h
all_last P (y ∷ xs) x h = all_last P xs x (All-tail P y (xs ++ x ∷ []) h)

text_more : (nodes : ℕ) (sections : List Section) (s : Section)
    → text_before_end nodes (sections ++ s ∷ []) ≡ text_before_end nodes sections ++ section_text s
text_more nodes sections s = grind (arith, flat_map-append, append_assoc)

-- what is past the limits stays so
pub past_more : (nodes : ℕ) (sections : List Section) (s : Section) → ArePastLimits nodes sections
    → ArePastLimits nodes (sections ++ s ∷ [])
past_more nodes sections s h = elim h [
  | inl many ↦ inl (omega (arith, length-append sections (s ∷ []), many))
  | inr (inl out) ↦ inr (inl (λ all. out (all_front (IsSection nodes) sections (s ∷ []) all)))
  | inr (inr long) ↦ inr (inr (omega (
    arith,
    ap (λ (t : List ℕ). length t) (text_more nodes sections s),
    length-append (text_before_end nodes sections) (section_text s),
    long,
  )))
]

end_more : (c : Certificate) → cert_text c ≡ text_before_end c.nodes c.sections ++ codes "end\n"
end_more c = grind (arith, append_assoc)

-- those within the limits are the certificate's, with its end line
pub whole_text : (c : Certificate) (count : ℕ) (front text : List ℕ) → AreWithinLimits c.nodes count c.sections front
    → text ≡ front ++ codes "end\n" → length front + 4 ≤ MAX_TEXT → (text ≡ cert_text c) × IsCertText (cert_text c) c
whole_text c count front text within is short =
    let whole : text ≡ cert_text c = is ∙ ap (λ (t : List ℕ). t ++ codes "end\n") within.text_is ∙ sym (end_more c) in
    let long : length text ≡ length front + 4 =
    ap (λ (t : List ℕ). length t) is ∙ length-append front (codes "end\n") in (
      whole,
      cert_text_is c (record {
        size = within.size;
        count = omega (arith, within.count_is, within.few);
        sections = within.in_range;
      })
          (omega (arith, ap (λ (t : List ℕ). length t) whole, long, short)),
    )
