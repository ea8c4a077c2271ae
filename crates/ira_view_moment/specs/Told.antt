-- Which moment a reader is told that it is.
use Rattle.std.specs.Prelude.{ℕ, List, [], Option, slice_index_or}
use Rattle.ira_pred.specs.Case.{Conjunct}
use Rattle.ira_view_moment.specs.declared.chosen_moment.ChosenMoment.{ChosenMoment}
use Rattle.ira_view_moment.specs.declared.chosen_moment.ChosenMoment.TheVariants.{AtEnd, AtCut, OfCase, Unmet}

-- the end of the logs; the moment when each node has made so many events; the first that meets the case of this number,
-- which asks this of nodes; or that no moment meets the case of a number, or any
pub data Told : Type 0 where
  at_end : Told
  at_cut : (events : List ℕ) → Told
  of_case : (number : ℕ) (case : List Conjunct) → Told
  unmet : (number : Option ℕ) → Told

abbrev pub told_of : {A : Type 0} → ChosenMoment A → Told
told_of AtEnd = at_end
told_of (AtCut cut) = at_cut cut.items
told_of (OfCase question number cut) = of_case number (slice_index_or question.cases number [])
told_of (Unmet number) = unmet number
