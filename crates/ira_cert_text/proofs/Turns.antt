-- Where the good lines after a head end: in one place, whatever is said of what follows.
use Rattle.std.proofs.Common.{◌≡◌, ◌≢◌, ◌≤◌, ◌<◌, ℕ, ◌+◌, zero, suc, List, [], ◌∷◌, ◌++◌, Option, Some, None, All}
use Rattle.std.proofs.Common.{length, refl, sym, ap, subst, ◌∙◌, arith, append_assoc, length-append}
use Rattle.std.specs.Prelude.{codes}
use Rattle.std.proofs.lemmas.List.{append-nil}
use Rattle.std.proofs.lemmas.List.Elements.{All-head, All-tail}
use Rattle.std.proofs.lemmas.Option.{same_Some}
use Rattle.ira_event.specs.Limits.{MAX_NODES}
use Rattle.ira_event.specs.NextLine.{HasNoLineFeed}
use Rattle.ira_event.specs.Scan.{kept}
use Rattle.ira_event.proofs.Pieces.{line_same, first_differs}
use Rattle.ira_cert_text.specs.declared.cert_step.CertStep.{CertStep}
use Rattle.ira_cert_text.specs.declared.cert_line.SpelledStep.{SpelledStep}
use Rattle.ira_cert_text.specs.declared.cert_line.SpelledLine.{SpelledLine}
use Rattle.ira_cert_text.specs.declared.cert_line.SpelledLine.TheVariants.{Step, Spent}
use Rattle.ira_cert_text.specs.Limits.{MAX_SECTIONS, MAX_STEPS}
use Rattle.ira_cert_text.specs.Certificate.{Section, IsStep, IsSection}
use Rattle.ira_cert_text.specs.CertScan.{as_step}
use Rattle.ira_cert_text.specs.CertText.{IsStepLine, AreStepLines, IsSpentLine, IsSectionText, AreSectionTexts}
use Rattle.ira_cert_text.proofs.Lines.{kept_step, step_kept_same, step_of_kept, step-again, spent-again}
use Rattle.ira_cert_text.proofs.Lines.{step_is_one_line, spent_is_one_line}

-- ---- a line is one step, or one spent node

step_is : (a b : SpelledStep) (r s : List ℕ)
    → ◌≡◌ {A = Option (SpelledLine × List ℕ)} (Some (Step a, r)) (Some (Step b, s)) → a ≡ b
step_is a b r s e = let q : Step a ≡ Step b = ap (λ (x : SpelledLine × List ℕ). x.0) (same_Some _ _ e) in cc

spent_is : (a b : ℕ) (r s : List ℕ) → ◌≡◌ {A = Option (SpelledLine × List ℕ)} (Some (Spent a, r)) (Some (Spent b, s))
    → a ≡ b
spent_is a b r s e = let q : Spent a ≡ Spent b = ap (λ (x : SpelledLine × List ℕ). x.0) (same_Some _ _ e) in cc

kept_steps_same : (line : List ℕ) (s t : CertStep) → IsStepLine line s → IsStepLine line t → kept_step s ≡ kept_step t
kept_steps_same line s t h k = step_is _ _ _ _ (sym (step-again line s [] h) ∙ step-again line t [] k)

kept_spent_same : (line : List ℕ) (m n : ℕ) → IsSpentLine line m → IsSpentLine line n → kept m ≡ kept n
kept_spent_same line m n h k = spent_is _ _ _ _ (sym (spent-again line m [] h) ∙ spent-again line n [] k)

pub step_no_spent : (line : List ℕ) (s : CertStep) (n : ℕ) → IsStepLine line s → IsSpentLine line n → ⊥
step_no_spent line s n h k = first_differs 100 115 _ _ refl (sym h.parts ∙ k.1)

-- ---- from line to line

module _ (nodes : ℕ) (small : nodes ≤ MAX_NODES) where
  pub step_good : (line : List ℕ) (s t : CertStep) → IsStepLine line s → IsStepLine line t → IsStep nodes s
      → IsStep nodes t
  step_good line s t h k good =
      let keeps : IsStep nodes (as_step (kept_step s)) =
      subst (IsStep nodes) (sym (step_kept_same nodes s (omega (arith, small)) good)) good in
      step_of_kept nodes t (omega (arith, small))
      (subst (λ x. IsStep nodes (as_step x)) (kept_steps_same line s t h k) keeps)

  step_same : (line : List ℕ) (s t : CertStep) → IsStepLine line s → IsStepLine line t → IsStep nodes s → IsStep nodes t
      → s ≡ t
  step_same line s t h k good fine =
      sym (step_kept_same nodes s (omega (arith, small)) good) ∙ ap as_step (kept_steps_same line s t h k)
      ∙ step_kept_same nodes t (omega (arith, small)) fine

  pub spent_good : (line : List ℕ) (m n : ℕ) → IsSpentLine line m → IsSpentLine line n → m < nodes → n < nodes
  spent_good line m n h k good = omega (arith, kept_spent_same line m n h k, good, small)

  spent_same : (line : List ℕ) (m n : ℕ) → IsSpentLine line m → IsSpentLine line n → m < nodes → n < nodes → m ≡ n
  spent_same line m n h k good fine = omega (arith, kept_spent_same line m n h k, good, fine, small)

  -- the sections that are closed, and the steps of the open one, where one is open
  abbrev pub Stage : Type 0
  Stage = List Section × Option (List CertStep)

  abbrev pub section_of : List CertStep → ℕ → Section
  section_of steps spent = record { steps = steps; spent = spent }

  -- what a good line makes of the stage before it
  pub data Turn (a : Stage) (line : List ℕ) (b : Stage) : Type 0 where
    opens : a.1 ≡ None → line ≡ codes "section" → length a.0 ≢ MAX_SECTIONS → b ≡ (a.0, Some []) → Turn a line b
    drops : (steps : List CertStep) (s : CertStep) → a.1 ≡ Some steps → IsStepLine line s → length steps ≢ MAX_STEPS
        → IsStep nodes s → b ≡ (a.0, Some (steps ++ s ∷ [])) → Turn a line b
    closes : (steps : List CertStep) (n : ℕ) → a.1 ≡ Some steps → IsSpentLine line n → n < nodes
        → b ≡ (a.0 ++ section_of steps n ∷ [], None) → Turn a line b

  pub turn_is_one_line : (a : Stage) (line : List ℕ) (b : Stage) → Turn a line b → HasNoLineFeed line
  turn_is_one_line a line b (opens p q r s) = subst (λ t. HasNoLineFeed t) (sym q) refl
  turn_is_one_line a line b (drops steps s p q r g t) = step_is_one_line line s q
  turn_is_one_line a line b (closes steps n p q r s) = spent_is_one_line line n q

  none_is_some : (o : Option (List CertStep)) (xs : List CertStep) → o ≡ None → o ≡ Some xs → ⊥
  none_is_some o xs p q = let e = sym p ∙ q in absurd cc

  turns_same : (a : Stage) (line : List ℕ) (b c : Stage) → Turn a line b → Turn a line c → b ≡ c
  turns_same a line b c (opens p q r s) (opens p' q' r' s') = s ∙ sym s'
  turns_same a line b c (opens p q r s) (drops steps t p' q' r' g' s') = absurd (none_is_some a.1 steps p p')
  turns_same a line b c (opens p q r s) (closes steps n p' q' r' s') = absurd (none_is_some a.1 steps p p')
  turns_same a line b c (drops steps t p q r g s) (opens p' q' r' s') = absurd (none_is_some a.1 steps p' p)
  turns_same a line b c (drops steps t p q r g s) (drops steps' t' p' q' r' g' s') =
      let one : steps ≡ steps' = same_Some _ _ (sym p ∙ p') in
      let two : t ≡ t' = step_same line t t' q q' g g' in
      s ∙ ap (λ x. (a.0, Some (x ++ t ∷ []))) one ∙ ap (λ x. (a.0, Some (steps' ++ x ∷ []))) two ∙ sym s'
  turns_same a line b c (drops steps t p q r g s) (closes steps' n p' q' r' s') = absurd (step_no_spent line t n q q')
  turns_same a line b c (closes steps n p q r s) (opens p' q' r' s') = absurd (none_is_some a.1 steps p' p)
  turns_same a line b c (closes steps n p q r s) (drops steps' t p' q' r' g' s') = absurd (step_no_spent line t n q' q)
  turns_same a line b c (closes steps n p q r s) (closes steps' n' p' q' r' s') =
      let one : steps ≡ steps' = same_Some _ _ (sym p ∙ p') in
      let two : n ≡ n' = spent_same line n n' q q' r r' in
      s ∙ ap (λ x. (a.0 ++ section_of x n ∷ [], None)) one ∙ ap (λ x. (a.0 ++ section_of steps' x ∷ [], None)) two
      ∙ sym s'

  -- so many good lines lead from this stage and text to that stage and what is left of the text
  abbrev pub TurnsTo : ℕ → Stage → List ℕ → Stage → List ℕ → Type 0
  TurnsTo zero a text b rest = (a ≡ b) × (text ≡ rest)
  TurnsTo (suc k) a text b rest =
      (line : List ℕ) × (more : List ℕ) × (c : Stage) × (text ≡ line ++ codes "\n" ++ more) × Turn a line c
      × TurnsTo k c more b rest

  -- no good line stands in front
  abbrev pub Stops : Stage → List ℕ → Type 0
  Stops a text = (line more : List ℕ) (b : Stage) → text ≡ line ++ codes "\n" ++ more → Turn a line b → ⊥

  pub stops_same : (j k : ℕ) (a b c : Stage) (text r s : List ℕ) → TurnsTo j a text b r → TurnsTo k a text c s
      → Stops b r
      → Stops c s → (b ≡ c) × (r ≡ s)
  stops_same zero zero a b c text r s h l p q = (sym h.0 ∙ l.0, sym h.1 ∙ l.1)
  stops_same zero (suc k) a b c text r s h l p q =
      absurd (p l.0 l.1 l.2 (sym h.1 ∙ l.3) (subst (λ x. Turn x l.0 l.2) h.0 l.4))
  stops_same (suc j) zero a b c text r s h l p q =
      absurd (q h.0 h.1 h.2 (sym l.1 ∙ h.3) (subst (λ x. Turn x h.0 h.2) l.0 h.4))
  stops_same (suc j) (suc k) a b c text r s h l p q =
      let lines = line_same h.0 l.0 h.1 l.1 (turn_is_one_line a h.0 h.2 h.4) (turn_is_one_line a l.0 l.2 l.4) (sym h.3
      ∙ l.3) in
      let stage : h.2 ≡ l.2 = turns_same a l.0 h.2 l.2 (subst (λ x. Turn a x h.2) lines.0 h.4) l.4 in
      stops_same j k l.2 b c l.1 r s
      (subst (λ x. TurnsTo j l.2 x b r) lines.1 (subst (λ x. TurnsTo j x h.1 b r) stage h.5))
      l.5 p q

  pub leads_on : (j : ℕ) (a b c : Stage) (text r : List ℕ) (s : List ℕ) → TurnsTo j a text b r
      → (k : ℕ) × TurnsTo k b r c s
      → (k : ℕ) × TurnsTo k a text c s
  leads_on zero a b c text r s h l =
      (l.0, subst (λ x. TurnsTo l.0 a x c s) (sym h.1) (subst (λ x. TurnsTo l.0 x r c s) (sym h.0) l.1))
  leads_on (suc j) a b c text r s h l =
      let later = leads_on j h.2 b c h.1 r s h.5 l in
      (suc later.0, (h.0, h.1, h.2, h.3, h.4, later.1))

  -- ---- the lines of steps and sections

  pub steps_lead : (closed : List Section) (done steps : List CertStep) (lines rest : List ℕ) → AreStepLines lines steps
      → length done + length steps ≤ MAX_STEPS → All (IsStep nodes) steps
      → (k : ℕ) × TurnsTo k (closed, Some done) (lines ++ rest) (closed, Some (done ++ steps)) rest
  steps_lead closed done [] lines rest h few good =
      (zero, (ap (λ x. (closed, Some x)) (sym (append-nil done)), ap (λ w. w ++ rest) h))
  steps_lead closed done (s ∷ ss) lines rest h few good =
      let next : done ++ s ∷ [] ++ ss ≡ done ++ (s ∷ ss) = append_assoc done (s ∷ []) ss in
      let later = steps_lead closed (done ++ s ∷ []) ss h.1 rest h.4 (omega (arith, few, length-append done (s ∷ [])))
      (All-tail (IsStep nodes) s ss good) in (
        suc later.0,
        (
          h.0,
          h.1 ++ rest,
          (closed, Some (done ++ s ∷ [])),
          ap (λ w. w ++ rest) h.2 ∙ simp append_assoc,
          drops done s refl h.3 (omega (arith, few)) (All-head (IsStep nodes) s ss good) refl,
          subst (λ x. TurnsTo later.0 (closed, Some (done ++ s ∷ [])) (h.1 ++ rest) (closed, Some x) rest) next later.1,
        ),
      )

  section_leads : (closed : List Section) (s : Section) (text rest : List ℕ) → IsSectionText text s
      → length closed ≢ MAX_SECTIONS → IsSection nodes s
      → (k : ℕ) × TurnsTo k (closed, None) (text ++ rest) (closed ++ s ∷ [], None) rest
  section_leads closed s text rest h few good =
      let spent = h.spent ++ codes "\n" ++ rest in
      let steps = steps_lead closed [] s.steps h.steps spent h.steps_are (omega (arith, good.count)) good.steps in
      let last : (k : ℕ) × TurnsTo k (closed, Some s.steps) spent (closed ++ s ∷ [], None) rest = (
        suc zero,
        (
          h.spent,
          rest,
          (closed ++ s ∷ [], None),
          refl,
          closes s.steps s.spent refl h.spent_is good.spent refl,
          (refl, refl),
        ),
      ) in
      let inner = leads_on steps.0 (closed, Some []) (closed, Some s.steps) (
        closed ++ s ∷ [],
        None,
      ) (h.steps ++ spent) spent rest steps.1 last in (
        suc inner.0,
        (
          codes "section",
          h.steps ++ spent,
          (closed, Some []),
          ap (λ w. w ++ rest) h.parts ∙ simp append_assoc,
          opens refl refl few refl,
          inner.1,
        ),
      )

  pub sections_lead : (closed ss : List Section) (text rest : List ℕ) → AreSectionTexts text ss
      → length closed + length ss ≤ MAX_SECTIONS → All (IsSection nodes) ss
      → (k : ℕ) × TurnsTo k (closed, None) (text ++ rest) (closed ++ ss, None) rest
  sections_lead closed [] text rest h few good =
      (zero, (ap (λ x. (x, None)) (sym (append-nil closed)), ap (λ w. w ++ rest) h))
  sections_lead closed (s ∷ ss) text rest h few good =
      let next : closed ++ s ∷ [] ++ ss ≡ closed ++ (s ∷ ss) = append_assoc closed (s ∷ []) ss in
      let first = section_leads closed s h.0 (h.1 ++ rest) h.3 (omega (arith, few))
      (All-head (IsSection nodes) s ss good) in
      let later = sections_lead (closed ++ s ∷ []) ss h.1 rest h.4 (omega (arith, few, length-append closed (s ∷ [])))
      (All-tail (IsSection nodes) s ss good) in
      let both = leads_on first.0 (closed, None) (closed ++ s ∷ [], None) (
        closed ++ s ∷ [] ++ ss,
        None,
      ) (h.0 ++ (h.1 ++ rest)) (h.1 ++ rest) rest first.1 later in
      let whole : text ++ rest ≡ h.0 ++ (h.1 ++ rest) = ap (λ w. w ++ rest) h.2 ∙ append_assoc h.0 h.1 rest in (
        both.0,
        subst (λ x. TurnsTo both.0 (closed, None) (text ++ rest) (x, None) rest) next
            (subst (λ w. TurnsTo both.0 (closed, None) w (closed ++ s ∷ [] ++ ss, None) rest) (sym whole) both.1),
      )
