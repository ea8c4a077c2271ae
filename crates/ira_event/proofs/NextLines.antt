-- What stands where a line is due has one fault.
use Rattle.std.proofs.Common.{◌≡◌, ℕ, List, sym, ◌∙◌, subst}
use Rattle.ira_event.specs.NextLine.{HasNoLineFeed, NextLineFault, cut, at_line}
use Rattle.ira_event.proofs.Pieces.{line_same, line_has_feed}

-- where a line has one fault, so has what stands there
pub next_faults_same : {E : Type 0} (unended : E) (F : List ℕ → List ℕ → E → Type 0)
    → ((line more : List ℕ) (f g : E) → F line more f → F line more g → f ≡ g)
    → (rest : List ℕ) (f g : E) → NextLineFault unended F rest f → NextLineFault unended F rest g → f ≡ g
next_faults_same unended F one rest f g (cut a p) (cut b q) = p ∙ sym q
next_faults_same unended F one rest f g (cut a p) (at_line l m e w h) =
    absurd (line_has_feed l m (subst (λ t. HasNoLineFeed t) e a))
next_faults_same unended F one rest f g (at_line l m e w h) (cut a p) =
    absurd (line_has_feed l m (subst (λ t. HasNoLineFeed t) e a))
next_faults_same unended F one rest f g (at_line l m e w h) (at_line l' m' e' w' h') =
    let s = line_same l l' m m' w w' (sym e ∙ e') in
    one l' m' f g (subst (λ t. F t m' f) s.0 (subst (λ t. F l t f) s.1 h)) h'

-- what holds of the fault of each line, and of an unended line's, holds of it
pub next_fault_is : {E : Type 0} (unended : E) (F : List ℕ → List ℕ → E → Type 0) (P : E → Type 0) → P unended
    → ((line more : List ℕ) (f : E) → F line more f → P f)
    → (rest : List ℕ) (f : E) → NextLineFault unended F rest f → P f
next_fault_is unended F P at_cut each rest f (cut a e) = subst P (sym e) at_cut
next_fault_is unended F P at_cut each rest f (at_line line more a b h) = each line more f h
