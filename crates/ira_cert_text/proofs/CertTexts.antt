-- What stands after a head is one certificate's or has one fault, never two answers.
use Rattle.std.proofs.Common.{◌≡◌, ◌≤◌, ◌<◌, ℕ, ◌+◌, suc, List, [], ◌++◌, Some, None, length, refl, sym, ap, subst, ◌∙◌}
use Rattle.std.proofs.Common.{arith}
use Rattle.std.specs.Prelude.{codes}
use Rattle.std.proofs.lemmas.Option.{same_Some}
use Rattle.ira_event.specs.Limits.{MAX_NODES}
use Rattle.ira_event.specs.NextLine.{HasNoLineFeed, NextLineFault, cut, at_line}
use Rattle.ira_event.proofs.NextLines.{next_faults_same}
use Rattle.ira_event.proofs.Pieces.{line_same, line_has_feed, first_differs}
use Rattle.ira_cert_text.specs.declared.cert_fault.CertFault.{CertFault}
use Rattle.ira_cert_text.specs.declared.cert_fault.CertFault.TheVariants.{Cut}
use Rattle.ira_cert_text.specs.declared.cert_step.CertStep.{CertStep}
use Rattle.ira_cert_text.specs.Limits.{MAX_SECTIONS}
use Rattle.ira_cert_text.specs.Certificate.{Section}
use Rattle.ira_cert_text.specs.CertText.{IsSpentLine}
use Rattle.ira_cert_text.specs.CertTextFault.{BeginsAsStep, OutsideFault, too_many_sections, no_section_or_end}
use Rattle.ira_cert_text.specs.CertTextFault.{trailing, InsideFault, too_many_steps, no_step_or_spent, step_range}
use Rattle.ira_cert_text.specs.CertTextFault.{spent_range, RestOutsideFault, RestInsideFault, BeginsWithSections}
use Rattle.ira_cert_text.specs.CertTextFault.{BeginsWithSteps, lines_of, SectionsFault, outside, inside}
use Rattle.ira_cert_text.proofs.Turns.{step_no_spent, step_good, spent_good, Stage, Turn, opens, drops, closes, TurnsTo}
use Rattle.ira_cert_text.proofs.Turns.{Stops, stops_same, turn_is_one_line, leads_on, steps_lead, sections_lead}

spent_no_step : (line : List ℕ) (n : ℕ) → IsSpentLine line n → BeginsAsStep line → ⊥
spent_no_step line n h k = first_differs 115 100 _ _ refl (sym h.1 ∙ k.1)

section_no_end : (line : List ℕ) → line ≡ codes "section" → line ≡ codes "end" → ⊥
section_no_end line p q = first_differs 115 101 _ _ refl (sym p ∙ q)

-- ---- one fault of a line

outside_same : (k n : ℕ) (line more : List ℕ) (f g : CertFault) → OutsideFault k n line more f
    → OutsideFault k n line more g → f ≡ g
outside_same k n line more f g (too_many_sections a b p) (too_many_sections a' b' q) = p ∙ sym q
outside_same k n line more f g (too_many_sections a b p) (no_section_or_end a' b' q) = absurd (a' a)
outside_same k n line more f g (too_many_sections a b p) (trailing a' b' q) = absurd (section_no_end line a a')
outside_same k n line more f g (no_section_or_end a b p) (too_many_sections a' b' q) = absurd (a a')
outside_same k n line more f g (no_section_or_end a b p) (no_section_or_end a' b' q) = p ∙ sym q
outside_same k n line more f g (no_section_or_end a b p) (trailing a' b' q) = absurd (b a')
outside_same k n line more f g (trailing a b p) (too_many_sections a' b' q) = absurd (section_no_end line a' a)
outside_same k n line more f g (trailing a b p) (no_section_or_end a' b' q) = absurd (b' a)
outside_same k n line more f g (trailing a b p) (trailing a' b' q) = p ∙ sym q

inside_same : (nodes k n : ℕ) (line : List ℕ) (f g : CertFault) → InsideFault nodes k n line f
    → InsideFault nodes k n line g → f ≡ g
inside_same nodes k n line f g (too_many_steps a b p) (too_many_steps a' b' q) = p ∙ sym q
inside_same nodes k n line f g (too_many_steps a b p) (no_step_or_spent a' b' c' q) = absurd (a' b a)
inside_same nodes k n line f g (too_many_steps a b p) (step_range s a' b' c' q) = absurd (b' b)
inside_same nodes k n line f g (too_many_steps a b p) (spent_range m a' b' q) = absurd (spent_no_step line m a' a)
inside_same nodes k n line f g (no_step_or_spent a b c p) (too_many_steps a' b' q) = absurd (a b' a')
inside_same nodes k n line f g (no_step_or_spent a b c p) (no_step_or_spent a' b' c' q) = p ∙ sym q
inside_same nodes k n line f g (no_step_or_spent a b c p) (step_range s a' b' c' q) = absurd (b s a')
inside_same nodes k n line f g (no_step_or_spent a b c p) (spent_range m a' b' q) = absurd (c m a')
inside_same nodes k n line f g (step_range s a b c p) (too_many_steps a' b' q) = absurd (b b')
inside_same nodes k n line f g (step_range s a b c p) (no_step_or_spent a' b' c' q) = absurd (b' s a)
inside_same nodes k n line f g (step_range s a b c p) (step_range t a' b' c' q) = p ∙ sym q
inside_same nodes k n line f g (step_range s a b c p) (spent_range m a' b' q) = absurd (step_no_spent line s m a a')
inside_same nodes k n line f g (spent_range m a b p) (too_many_steps a' b' q) = absurd (spent_no_step line m a a')
inside_same nodes k n line f g (spent_range m a b p) (no_step_or_spent a' b' c' q) = absurd (c' m a)
inside_same nodes k n line f g (spent_range m a b p) (step_range t a' b' c' q) = absurd (step_no_spent line t m a' a)
inside_same nodes k n line f g (spent_range m a b p) (spent_range m' a' b' q) = p ∙ sym q

-- ---- where a fault stands, the good lines end

module _ (nodes : ℕ) (small : nodes ≤ MAX_NODES) where
  outside_line_stops : (ss : List Section) (k : ℕ) (line more : List ℕ) (f : CertFault) (b : Stage nodes small)
      → OutsideFault k (length ss) line more f → Turn nodes small (ss, None) line b → ⊥
  outside_line_stops ss k line more f b (too_many_sections a many p) (opens e q r t) = r many
  outside_line_stops ss k line more f b (no_section_or_end a c p) (opens e q r t) = a q
  outside_line_stops ss k line more f b (trailing a c p) (opens e q r t) = section_no_end line q a
  outside_line_stops ss k line more f b fault (drops steps s e q r g t) = absurd cc
  outside_line_stops ss k line more f b fault (closes steps n e q r t) = absurd cc

  inside_line_stops : (ss : List Section) (steps : List CertStep) (k : ℕ) (line : List ℕ) (f : CertFault)
      (b : Stage nodes small) → InsideFault nodes k (length steps) line f → Turn nodes small (ss, Some steps) line b → ⊥
  inside_line_stops ss steps k line f b fault (opens e q r t) = absurd cc
  inside_line_stops ss steps k line f b (too_many_steps a many p) (drops xs s e q r g t) =
      r (ap length (sym (same_Some _ _ e)) ∙ many)
  inside_line_stops ss steps k line f b (no_step_or_spent a c d p) (drops xs s e q r g t) = c s q
  inside_line_stops ss steps k line f b (step_range s' a few bad p) (drops xs s e q r g t) =
      bad (step_good nodes small line s s' q a g)
  inside_line_stops ss steps k line f b (spent_range n a bad p) (drops xs s e q r g t) = step_no_spent line s n q a
  inside_line_stops ss steps k line f b (too_many_steps a many p) (closes xs n e q r t) = spent_no_step line n q a
  inside_line_stops ss steps k line f b (no_step_or_spent a c d p) (closes xs n e q r t) = d n q
  inside_line_stops ss steps k line f b (step_range s' a few bad p) (closes xs n e q r t) = step_no_spent line s' n a q
  inside_line_stops ss steps k line f b (spent_range m a bad p) (closes xs n e q r t) = let good =
      spent_good nodes small line n m q a r in omega (arith, good, bad)

  due_outside_stops : (ss : List Section) (k : ℕ) (rest : List ℕ) (f : CertFault)
      → RestOutsideFault k (length ss) rest f → Stops nodes small (ss, None) rest
  due_outside_stops ss k rest f (cut whole p) =
      λ line more b e t. line_has_feed line more (subst (λ x. HasNoLineFeed x) e whole)
  due_outside_stops ss k rest f (at_line l m e w h) =
      λ line more b e' t.
      let s = line_same l line m more w (turn_is_one_line nodes small (ss, None) line b t) (sym e ∙ e') in
      outside_line_stops ss k l m f b h (subst (λ x. Turn nodes small (ss, None) x b) (sym s.0) t)

  due_inside_stops : (ss : List Section) (steps : List CertStep) (k : ℕ) (rest : List ℕ) (f : CertFault)
      → RestInsideFault nodes k (length steps) rest f → Stops nodes small (ss, Some steps) rest
  due_inside_stops ss steps k rest f (cut whole p) =
      λ line more b e t. line_has_feed line more (subst (λ x. HasNoLineFeed x) e whole)
  due_inside_stops ss steps k rest f (at_line l m e w h) =
      λ line more b e' t.
      let s = line_same l line m more w (turn_is_one_line nodes small (ss, Some steps) line b t) (sym e ∙ e') in
      inside_line_stops ss steps k l f b h (subst (λ x. Turn nodes small (ss, Some steps) x b) (sym s.0) t)

  end_line_stops : (ss : List Section) (line : List ℕ) (b : Stage nodes small) → line ≡ codes "end"
      → Turn nodes small (ss, None) line b → ⊥
  end_line_stops ss line b end (opens e q r t) = section_no_end line q end
  end_line_stops ss line b end (drops steps s e q r g t) = absurd cc
  end_line_stops ss line b end (closes steps n e q r t) = absurd cc

  end_stops : (ss : List Section) → Stops nodes small (ss, None) (codes "end\n")
  end_stops ss =
      λ line more b e t.
      let s = line_same (codes "end") line [] more refl (turn_is_one_line nodes small (ss, None) line b t) e in
      end_line_stops ss line b (sym s.0) t

  -- ---- what a text begins with is where its good lines lead

  sections_reached : (text : List ℕ) (ss : List Section) (rest : List ℕ) → BeginsWithSections nodes text ss rest
      → (k : ℕ) × TurnsTo nodes small k ([], None) text (ss, None) rest
  sections_reached text ss rest h =
      let l = sections_lead nodes small [] ss h.front rest h.sections_are (omega (arith, h.count)) h.valid in
      (l.0, subst (λ w. TurnsTo nodes small l.0 ([], None) w (ss, None) rest) (sym h.parts) l.1)

  steps_reached : (text : List ℕ) (ss : List Section) (steps : List CertStep) (body rest : List ℕ)
      → BeginsWithSections nodes text ss (codes "section\n" ++ body) → length ss < MAX_SECTIONS
      → BeginsWithSteps nodes body steps rest
      → (k : ℕ) × TurnsTo nodes small k ([], None) text (ss, Some steps) rest
  steps_reached text ss steps body rest h few b =
      let first = sections_reached text ss (codes "section\n" ++ body) h in
      let lines = steps_lead nodes small ss [] steps b.lines rest b.steps_are (omega (arith, b.count)) b.valid in
      let inner : (k : ℕ) × TurnsTo nodes small k (ss, None) (codes "section\n" ++ body) (ss, Some steps) rest = (
        suc lines.0,
        (
          codes "section",
          b.lines ++ rest,
          (ss, Some []),
          ap (λ w. codes "section\n" ++ w) b.parts,
          opens refl refl (omega (arith, few)) refl,
          lines.1,
        ),
      ) in
      leads_on nodes small first.0 ([], None) (ss, None) (
        ss,
        Some steps,
      ) text (codes "section\n" ++ body) rest first.1 inner

  none_is_no_stage : (ss ts : List Section) (steps : List CertStep)
      → ◌≡◌ {A = Stage nodes small} (ss, None) (ts, Some steps) → ⊥
  none_is_no_stage ss ts steps e = let o = ap (λ (x : Stage nodes small). x.1) e in absurd cc

  -- ---- one answer

  pub sections_faults_same : (text : List ℕ) (f g : CertFault) → SectionsFault nodes text f → SectionsFault nodes text g
      → f ≡ g
  sections_faults_same text f g (outside ss r b d) (outside ts s c e) =
      let h = sections_reached text ss r b in
      let l = sections_reached text ts s c in
      let same = stops_same nodes small h.0 l.0 ([], None) (ss, None) (
        ts,
        None,
      ) text r s h.1 l.1 (due_outside_stops ss _ r f d) (due_outside_stops ts _ s g e) in
      let one : ss ≡ ts = ap (λ (x : Stage nodes small). x.0) same.0 in
      next_faults_same Cut (OutsideFault (2 + lines_of ts + 1) (length ts))
      (outside_same (2 + lines_of ts + 1) (length ts)) s f g
      (subst (λ x. RestOutsideFault (2 + lines_of x + 1) (length x) s f) one
      (subst (λ x. RestOutsideFault (2 + lines_of ss + 1) (length ss) x f) same.1 d)) e
  sections_faults_same text f g (outside ss r b d) (inside ts steps body s c few k e) =
      let h = sections_reached text ss r b in
      let l = steps_reached text ts steps body s c few k in
      let same = stops_same nodes small h.0 l.0 ([], None) (ss, None) (
        ts,
        Some steps,
      ) text r s h.1 l.1 (due_outside_stops ss _ r f d) (due_inside_stops ts steps _ s g e) in
      absurd (none_is_no_stage ss ts steps same.0)
  sections_faults_same text f g (inside ts steps body s c few k e) (outside ss r b d) =
      let h = sections_reached text ss r b in
      let l = steps_reached text ts steps body s c few k in
      let same = stops_same nodes small h.0 l.0 ([], None) (ss, None) (
        ts,
        Some steps,
      ) text r s h.1 l.1 (due_outside_stops ss _ r g d) (due_inside_stops ts steps _ s f e) in
      absurd (none_is_no_stage ss ts steps same.0)
  sections_faults_same text f g (inside ss xs body r b few k d) (inside ts ys body' s c few' k' e) =
      let h = steps_reached text ss xs body r b few k in
      let l = steps_reached text ts ys body' s c few' k' in
      let same = stops_same nodes small h.0 l.0 ([], None) (ss, Some xs) (
        ts,
        Some ys,
      ) text r s h.1 l.1 (due_inside_stops ss xs _ r f d) (due_inside_stops ts ys _ s g e) in
      let one : ss ≡ ts = ap (λ (x : Stage nodes small). x.0) same.0 in
      let two : xs ≡ ys = same_Some _ _ (ap (λ (x : Stage nodes small). x.1) same.0) in
      let F : List Section → List CertStep → List ℕ → List ℕ → CertFault → Type 0 =
      λ zs ws line more z. InsideFault nodes (2 + lines_of zs + 1 + length ws + 1) (length ws) line z in
      next_faults_same Cut (F ts ys) (λ line more.
      inside_same nodes (2 + lines_of ts + 1 + length ys + 1) (length ys) line) s f g
      (subst (λ x. NextLineFault Cut (F ts x) s f) two
      (subst (λ x. NextLineFault Cut (F x xs) s f) one (subst (λ x. NextLineFault Cut (F ss xs) x f) same.1 d))) e

  end_has_no_fault : (k n : ℕ) (f : CertFault) (line more : List ℕ) → OutsideFault k n line more f → line ≡ codes "end"
      → more ≡ [] → ⊥
  end_has_no_fault k n f line more (too_many_sections a b p) end none = section_no_end line a end
  end_has_no_fault k n f line more (no_section_or_end a b p) end none = b end
  end_has_no_fault k n f line more (trailing a b p) end none = b none

  due_not_end : (k n : ℕ) (f : CertFault) → RestOutsideFault k n (codes "end\n") f → ⊥
  due_not_end k n f (cut whole p) = line_has_feed (codes "end") [] whole
  due_not_end k n f (at_line l m e w h) =
      let s = line_same l (codes "end") m [] w refl (sym e) in
      end_has_no_fault k n f l m h s.0 s.1

  pub sections_fault_not_all : (text : List ℕ) (ss : List Section) (f : CertFault) → SectionsFault nodes text f
      → BeginsWithSections nodes text ss (codes "end\n") → ⊥
  sections_fault_not_all text ss f (outside ts s c e) b =
      let h = sections_reached text ss (codes "end\n") b in
      let l = sections_reached text ts s c in
      let same = stops_same nodes small h.0 l.0 ([], None) (ss, None) (
        ts,
        None,
      ) text (codes "end\n") s h.1 l.1 (end_stops ss) (due_outside_stops ts _ s f e) in
      due_not_end _ _ f (subst (λ x. RestOutsideFault (2 + lines_of ts + 1) (length ts) x f) (sym same.1) e)
  sections_fault_not_all text ss f (inside ts steps body s c few k e) b =
      let h = sections_reached text ss (codes "end\n") b in
      let l = steps_reached text ts steps body s c few k in
      let same = stops_same nodes small h.0 l.0 ([], None) (ss, None) (
        ts,
        Some steps,
      ) text (codes "end\n") s h.1 l.1 (end_stops ss) (due_inside_stops ts steps _ s f e) in
      none_is_no_stage ss ts steps same.0

  pub all_sections_same : (text : List ℕ) (ss ts : List Section) → BeginsWithSections nodes text ss (codes "end\n")
      → BeginsWithSections nodes text ts (codes "end\n") → ss ≡ ts
  all_sections_same text ss ts b c =
      let h = sections_reached text ss (codes "end\n") b in
      let l = sections_reached text ts (codes "end\n") c in
      let same = stops_same nodes small h.0 l.0 ([], None) (ss, None) (
        ts,
        None,
      ) text (codes "end\n") (codes "end\n") h.1 l.1 (end_stops ss) (end_stops ts) in
      ap (λ (x : Stage nodes small). x.0) same.0
