-- What comes next at all nodes.
use Rattle.std.proofs.Common.{◌≡◌, ℕ, zero, suc, ◌<◌, inl, inr, List, [], ◌∷◌, ◌++◌, ◌↔◌, length, Option, None, Some, refl, arith, subst}
use Rattle.std.specs.Prelude.{slice_get}
use Rattle.std.specs.List.{enumerate_from}
use Rattle.std.proofs.lemmas.Option.{slice_get_cases}
use Rattle.ira_event.specs.declared.event.Event.{Event}
use Rattle.ira_election.proofs.Past.{none_first, none_second}
use Rattle.ira_view_moment.specs.Moment.{Moment}
use Rattle.ira_view_election.specs.declared.due.Due.{Due}
use Rattle.ira_view_page.specs.Parts.{AreParts, more, none}
use Rattle.ira_view_page.proofs.Adding.{element_at}
use Rattle.ira_view_election.specs.Coming.{ComesNext, IsDue, IsNextAt, MayCome, due_at}

pub one_at : {A : Type 0} (xs : List A) (i : ℕ) → i < length xs → (x : A) × (slice_get xs i ≡ Some x)
one_at xs i l = elim (slice_get_cases xs i).1 [
  | inl h ↦ (h.0, h.2)
  | inr past ↦ absurd (omega (arith, past.0))
]

-- an element of a list that is longer by one
before_or_last : {X : Type 0} (P : X → Type 0) (xs : List X) (y : X)
    → ((i : ℕ) (x : X) → slice_get xs i ≡ Some x → P x) → P y → (i : ℕ) (x : X) → slice_get (xs ++ y ∷ []) i ≡ Some x
    → P x
before_or_last P [] y all last zero x at = (let same : y ≡ x = cc in subst P same last)
before_or_last P [] y all last (suc i) x at = cc
before_or_last P (z ∷ xs) y all last zero x at = all 0 x at
before_or_last P (z ∷ xs) y all last (suc i) x at =
    before_or_last P xs y (λ k w here. all (suc k) w here) last i x at

-- where the parts come to nothing, each is nothing
parts_of_none : {X Y : Type 0} (IsPart : X → List Y → Type 0) (xs : List X) (ys : List Y) → AreParts IsPart xs ys
    → ys ≡ [] → (i : ℕ) (x : X) → slice_get xs i ≡ Some x → IsPart x []
parts_of_none IsPart xs ys none e i x at = cc
parts_of_none IsPart xs ys (more before y those part are is) e i x at =
    before_or_last (λ w. IsPart w []) before y
    (λ k w here. parts_of_none IsPart before those are (none_first those part e) k w here)
    (subst (IsPart y) (none_second those part e) is) i x at

none_due : (m : Moment) (i : ℕ) (e : Event) (due : Option Due) → [] ≡ due_at i due
    → ((f : Event) → IsDue (length m.nodes) due f ↔ MayCome m i f) → ¬ (MayCome m i e)
none_due m i e None is may h = (may e).1 h
none_due m i e (Some due) is may h = cc

-- where nothing comes next, nothing may come
pub none_comes : (m : Moment) → ComesNext m [] → (i : ℕ) (e : Event) → ¬ (MayCome m i e)
none_comes m nothing i e may =
    let part = parts_of_none (IsNextAt m) (enumerate_from 0 m.nodes) [] nothing refl i (i, may.progress)
    (element_at m.nodes i may.progress may.at) in
    none_due m i e part.0 part.2 part.1 may
