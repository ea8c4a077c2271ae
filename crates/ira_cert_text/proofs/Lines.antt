-- A line that is read is spelled so and stands at the front, and a line of the grammar that stands there is read.
use Rattle.std.proofs.Common.{◌≡◌, ◌<◌, ◌≤◌, ℕ, List, ◌++◌, Option, Some, None, refl, sym, ap, subst, ◌∙◌, arith}
use Rattle.std.proofs.Common.{append_assoc}
use Rattle.std.specs.Prelude.{codes}
use Rattle.std.specs.Option.{option_map}
use Rattle.std.proofs.lemmas.Option.{same_Some}
use Rattle.ira_event.specs.Scan.{kept, after_word, then_or}
use Rattle.ira_event.specs.LogScan.{number_line}
use Rattle.ira_event.specs.NextLine.{HasNoLineFeed}
use Rattle.ira_event.proofs.Pieces.{Lacks-append}
use Rattle.ira_event.proofs.Numerals.{Lacks-numeral}
use Rattle.ira_event.proofs.RecordLines.{bind_some, map_some, word-takes, Kept, kept-takes, kept-again}
use Rattle.ira_event.proofs.RecordLines.{number_line-takes}
use Rattle.ira_cert_text.specs.declared.cert_line.SpelledStep.{SpelledStep}
use Rattle.ira_cert_text.specs.declared.cert_line.SpelledLine.{SpelledLine}
use Rattle.ira_cert_text.specs.declared.cert_line.SpelledLine.TheVariants.{Step, Spent}
use Rattle.ira_cert_text.specs.declared.cert_step.CertStep.{CertStep}
use Rattle.ira_cert_text.specs.Certificate.{IsStep}
use Rattle.ira_cert_text.specs.CertScan.{as_step, step_at, section_line_at}
use Rattle.ira_cert_text.specs.CertText.{IsStepLine, IsSpentLine}

-- ---- numbers as they are kept

abbrev pub kept_step : CertStep → SpelledStep
kept_step s = record { node = kept s.node; pos = kept s.pos; other = kept s.other; other_pos = kept s.other_pos }

below_kept : (n most : ℕ) → most ≤ 4294967295 → kept n < most → n < most
below_kept n most small h = omega arith

up_to_kept : (n most : ℕ) → most < 4294967295 → kept n ≤ most → n ≤ most
up_to_kept n most small h = omega arith

-- a step is in range exactly where its kept numbers are, and then these are its own
pub step_kept_same : (nodes : ℕ) (s : CertStep) → nodes ≤ 255 → IsStep nodes s → as_step (kept_step s) ≡ s
step_kept_same nodes s small h =
    let node : kept s.node ≡ s.node = omega (arith, h.node, small) in
    let pos : kept s.pos ≡ s.pos = omega (arith, h.pos) in
    let other : kept s.other ≡ s.other = omega (arith, h.other, small) in
    let other_pos : kept s.other_pos ≡ s.other_pos = omega (arith, h.other_pos) in
    rw (node, pos, other, other_pos) refl

pub step_of_kept : (nodes : ℕ) (s : CertStep) → nodes ≤ 255 → IsStep nodes (as_step (kept_step s)) → IsStep nodes s
step_of_kept nodes s small h = record {
  node = below_kept s.node nodes (omega (arith, small)) h.node;
  pos = up_to_kept s.pos _ (omega arith) h.pos;
  other = below_kept s.other nodes (omega (arith, small)) h.other;
  other_pos = up_to_kept s.other_pos _ (omega arith) h.other_pos;
}

-- ---- a step's line

pub step-again : (text : List ℕ) (s : CertStep) (rest : List ℕ) → IsStepLine text s
    → section_line_at (text ++ codes "\n" ++ rest) ≡ Some (Step (kept_step s), rest)
unfolding step_at
step-again text s rest h =
    let after_other_pos = codes "\n" ++ rest in
    let after_other = codes " " ++ (h.other_pos ++ after_other_pos) in
    let after_pos = codes " by " ++ (h.other ++ after_other) in
    let after_node = codes " " ++ (h.pos ++ after_pos) in
    let regrouped : text ++ codes "\n" ++ rest ≡ codes "drop " ++ (h.node ++ after_node) =
    ap (λ w. w ++ codes "\n" ++ rest) h.parts ∙ simp append_assoc in
    ap section_line_at regrouped ∙ rw (
      kept-again h.node s.node after_node h.node_is refl,
      kept-again h.pos s.pos after_pos h.pos_is refl,
      kept-again h.other s.other after_other h.other_is refl,
      kept-again h.other_pos s.other_pos after_other_pos h.other_pos_is refl,
    ) refl

pub spent-again : (text : List ℕ) (n : ℕ) (rest : List ℕ) → IsSpentLine text n
    → section_line_at (text ++ codes "\n" ++ rest) ≡ Some (Spent (kept n), rest)
spent-again text n rest h =
    let regrouped : text ++ codes "\n" ++ rest ≡ codes "spent " ++ (h.0 ++ (codes "\n" ++ rest)) =
    ap (λ w. w ++ codes "\n" ++ rest) h.1 ∙ simp append_assoc in
    ap section_line_at regrouped ∙ rw (kept-again h.0 n (codes "\n" ++ rest) h.2 refl) refl

-- ---- lines have no line feed

pub step_is_one_line : (line : List ℕ) (s : CertStep) → IsStepLine line s → HasNoLineFeed line
step_is_one_line line s h =
    let n = Lacks-numeral 10 h.node s.node (omega arith) h.node_is in
    let p = Lacks-numeral 10 h.pos s.pos (omega arith) h.pos_is in
    let o = Lacks-numeral 10 h.other s.other (omega arith) h.other_is in
    let q = Lacks-numeral 10 h.other_pos s.other_pos (omega arith) h.other_pos_is in
    let a = Lacks-append 10 (codes "drop ") h.node refl n in
    let b = Lacks-append 10 (codes "drop " ++ h.node) (codes " ") a refl in
    let c = Lacks-append 10 (codes "drop " ++ h.node ++ codes " ") h.pos b p in
    let d = Lacks-append 10 (codes "drop " ++ h.node ++ codes " " ++ h.pos) (codes " by ") c refl in
    let e = Lacks-append 10 (codes "drop " ++ h.node ++ codes " " ++ h.pos ++ codes " by ") h.other d o in
    let f = Lacks-append 10 (codes "drop " ++ h.node ++ codes " " ++ h.pos ++ codes " by "
    ++ h.other) (codes " ") e refl in
    let g = Lacks-append 10 (codes "drop " ++ h.node ++ codes " " ++ h.pos ++ codes " by " ++ h.other
    ++ codes " ") h.other_pos f q in
    subst (λ t. HasNoLineFeed t) (sym h.parts) g

pub spent_is_one_line : (line : List ℕ) (n : ℕ) → IsSpentLine line n → HasNoLineFeed line
spent_is_one_line line n h =
    subst (λ t. HasNoLineFeed t) (sym h.1)
    (Lacks-append 10 (codes "spent ") h.0 refl (Lacks-numeral 10 h.0 n (omega arith) h.2))

-- ---- lines from the front

abbrev pub Says : List ℕ → SpelledLine → Type 0
Says line (Step s) = (s' : CertStep) × IsStepLine line s' × (s ≡ kept_step s')
Says line (Spent n) = (n' : ℕ) × IsSpentLine line n' × (n ≡ kept n')

-- the line that stands at the front
pub record FirstLine (text : List ℕ) (p : SpelledLine × List ℕ) : Type 0 where
  pub line : List ℕ
  pub parts : text ≡ line ++ codes "\n" ++ p.1
  pub whole : HasNoLineFeed line
  pub says : Says line p.0

-- the step that was taken from the front, after its word, with its line's end
record StepScanned (text : List ℕ) (p : SpelledStep × List ℕ) : Type 0 where
  numbers : List ℕ
  s : CertStep
  parts : text ≡ numbers ++ codes "\n" ++ p.1
  is : IsStepLine (codes "drop " ++ numbers) s
  kept_is : p.0 ≡ kept_step s

step_parts : (text a b c d e f g rest node pos other other_pos : List ℕ) → text ≡ node ++ a → a ≡ codes " " ++ b
    → b ≡ pos ++ c → c ≡ codes " by " ++ d → d ≡ other ++ e → e ≡ codes " " ++ f → f ≡ other_pos ++ g
    → g ≡ codes "\n" ++ rest
    → text ≡ (node ++ codes " " ++ pos ++ codes " by " ++ other ++ codes " " ++ other_pos) ++ codes "\n" ++ rest
step_parts text a b c d e f g rest node pos other other_pos p q r s t u v w =
    p ∙ ap (λ x. node ++ x) (q
    ∙ ap (λ x. codes " " ++ x) (r
    ∙ ap (λ x. pos ++ x) (s ∙ ap (λ x. codes " by " ++ x) (t
    ∙ ap (λ x. other ++ x) (u ∙ ap (λ x. codes " " ++ x) (v ∙ ap (λ x. other_pos ++ x) w)))))) ∙ simp append_assoc

step_kept : (a b c d a' b' c' d' : ℕ) (s : SpelledStep) → record { node = a; pos = b; other = c; other_pos = d } ≡ s
    → a ≡ kept a' → b ≡ kept b' → c ≡ kept c' → d ≡ kept d'
    → s ≡ kept_step (record { node = a'; pos = b'; other = c'; other_pos = d' })
step_kept a b c d a' b' c' d' s is p q r t = cc

step_built : (text : List ℕ) (p : SpelledStep × List ℕ) (n m o q : ℕ × List ℕ) (a b c rest : List ℕ) → Kept text n
    → n.1 ≡ codes " " ++ a → Kept a m → m.1 ≡ codes " by " ++ b → Kept b o → o.1 ≡ codes " " ++ c → Kept c q
    → q.1 ≡ codes "\n" ++ rest
    → record { node = n.0; pos = m.0; other = o.0; other_pos = q.0 } ≡ p.0 → rest ≡ p.1 → StepScanned text p
step_built text p n m o q a b c rest node s1 pos by other s2 other_pos end one two = record {
  numbers = node.text ++ codes " " ++ pos.text ++ codes " by " ++ other.text ++ codes " " ++ other_pos.text;
  s = record { node = node.n; pos = pos.n; other = other.n; other_pos = other_pos.n };
  parts = step_parts text n.1 a m.1 b o.1 c q.1 p.1 node.text pos.text other.text other_pos.text node.parts s1 pos.parts
      by other.parts s2 other_pos.parts (end ∙ ap (λ w. codes "\n" ++ w) two);
  is = record {
    node = node.text;
    pos = pos.text;
    other = other.text;
    other_pos = other_pos.text;
    node_is = node.is;
    pos_is = pos.is;
    other_is = other.is;
    other_pos_is = other_pos.is;
    parts = refl;
  };
  kept_is = step_kept n.0 m.0 o.0 q.0 node.n pos.n other.n other_pos.n p.0 one node.kept_is pos.kept_is other.kept_is
      other_pos.kept_is;
}

step-takes : (text : List ℕ) (p : SpelledStep × List ℕ) → step_at text ≡ Some p → StepScanned text p
unfolding step_at
step-takes text p e =
    let n = bind_some _ _ _ e in
    let a = bind_some _ _ _ n.2 in
    let m = bind_some _ _ _ a.2 in
    let b = bind_some _ _ _ m.2 in
    let o = bind_some _ _ _ b.2 in
    let c = bind_some _ _ _ o.2 in
    let q = bind_some _ _ _ c.2 in
    let r = bind_some _ _ _ q.2 in
    let x = same_Some _ _ r.2 in
    step_built text p n.0 m.0 o.0 q.0 a.0 b.0 c.0 r.0 (kept-takes text n.0 n.1) (word-takes (codes " ") n.0.1 a.0 a.1)
    (kept-takes a.0 m.0 m.1) (word-takes (codes " by ") m.0.1 b.0 b.1)
    (kept-takes b.0 o.0 o.1) (word-takes (codes " ") o.0.1 c.0 c.1) (kept-takes c.0 q.0 q.1)
    (word-takes (codes "\n") q.0.1 r.0 r.1)
    (ap (λ (y : SpelledStep × List ℕ). y.0) x) (ap (λ (y : SpelledStep × List ℕ). y.1) x)

past_word : (word text numbers rest after : List ℕ) → after_word word text ≡ Some after
    → after ≡ numbers ++ codes "\n" ++ rest → text ≡ (word ++ numbers) ++ codes "\n" ++ rest
past_word word text numbers rest after e p = word-takes word text after e ∙ ap (λ w. word ++ w) p ∙ simp append_assoc

line-cases : (text : List ℕ) (p : SpelledLine × List ℕ) (a b : Option (List ℕ)) → after_word (codes "drop ") text ≡ a
    → after_word (codes "spent ") text ≡ b
    → then_or a (λ r. option_map (λ p. (Step p.0, p.1)) (step_at r))
    (then_or b (λ r. option_map (λ p. (Spent p.0, p.1)) (number_line r)) None) ≡ Some p → FirstLine text p
line-cases text p (Some r) b ea eb e =
    let m = map_some (step_at r) (λ p. (Step p.0, p.1)) p e in
    let t = step-takes r m.0 m.1 in
    subst (FirstLine text) m.2 (record {
      line = codes "drop " ++ t.numbers;
      parts = past_word (codes "drop ") text t.numbers m.0.1 r ea t.parts;
      whole =
          step_is_one_line (codes "drop " ++ t.numbers) t.s t.is;
      says = (t.s, t.is, t.kept_is);
    })
line-cases text p None (Some r) ea eb e =
    let m = map_some (number_line r) (λ p. (Spent p.0, p.1)) p e in
    let t = number_line-takes r m.0 m.1 in
    subst (FirstLine text) m.2 (record {
      line = codes "spent " ++ t.0;
      parts = past_word (codes "spent ") text t.0 m.0.1 r eb t.2;
      whole =
          spent_is_one_line (codes "spent " ++ t.0) t.1 (t.0, refl, t.3);
      says = (t.1, (t.0, refl, t.3), t.4);
    })
line-cases text p None None ea eb e = absurd cc

pub line-takes : (text : List ℕ) (p : SpelledLine × List ℕ) → section_line_at text ≡ Some p → FirstLine text p
line-takes text p e = line-cases text p _ _ refl refl e
