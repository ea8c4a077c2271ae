-- The lines on what comes next, where there is something or nothing.
use Rattle.std.proofs.Common.{◌≡◌, ℕ, ◌<◌, ◌≤◌, ◌==◌, true, false, inl, inr, List, [], ◌∷◌, ◌++◌, arith, get_or, length, refl}
use Rattle.std.specs.Prelude.{codes, decimal}
use Rattle.std.specs.List.{flat_map}
use Rattle.std.proofs.lemmas.Bool.Decides.{eqb_tells}
use Rattle.ira_view_page.specs.Numbers.{places_text}
use Rattle.ira_view_election.specs.declared.due.NodeDue.{NodeDue}
use Rattle.ira_view_election.specs.Election.{contenders_text, next_text, node_due_text}

has_none : (first : NodeDue) (rest : List NodeDue) → (length (first ∷ rest) == 0) ≡ true → ⊥
has_none first rest e = elim (eqb_tells (length (first ∷ rest)) 0) [
  | inl (t, same) ↦ omega (arith, same)
  | inr (f, other) ↦ cc
]

pub nothing_next : (next : List NodeDue) (contenders : List ℕ) → (length next == 0) ≡ true
    → codes "  " ++ codes "The election isn't over, and nothing comes next: no node is an initiator." ++ codes "\n"
    ≡ next_text next contenders
nothing_next [] contenders none = refl
nothing_next (first ∷ rest) contenders none = absurd (has_none first rest none)

has_some : (length {A = NodeDue} [] == 0) ≡ false → ⊥
has_some e = cc

pub some_next : (next : List NodeDue) (contenders : List ℕ) → (length next == 0) ≡ false
    → codes "  " ++ codes "The election isn't over." ++ contenders_text contenders ++ codes " What comes next:"
    ++ codes "\n"
    ++ flat_map node_due_text next
    ≡ next_text next contenders
some_next [] contenders none = absurd (has_some none)
some_next (first ∷ rest) contenders some = refl

pub one_named : (places : List ℕ) → 1 ≤ length places → length places < 2
    → codes " By the draws none but node " ++ decimal (get_or places 0 0) ++ codes " can lead in this term."
    ≡ contenders_text places
one_named [] some few = absurd (omega (arith, some))
one_named (x ∷ []) some few = refl
one_named (x ∷ y ∷ places) some few = absurd (omega (arith, few))

pub several_named : (places : List ℕ) → 2 ≤ length places
    → codes " By the draws none but nodes " ++ places_text places ++ codes " can lead in this term."
    ≡ contenders_text places
several_named [] some = absurd (omega (arith, some))
several_named (x ∷ []) some = absurd (omega (arith, some))
several_named (x ∷ y ∷ places) some = refl
