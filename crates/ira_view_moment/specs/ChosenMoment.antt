-- Moments of logs.
use Rattle.std.specs.Prelude.{ℕ, ◌<◌, List, Option, Some, None, length, slice_get, ⊤}
use Rattle.std.specs.Option.{ForSome}
use Rattle.ira_event.specs.Log.{Log}
use Rattle.ira_order.specs.Cut.{IsConsistentCut}
use Rattle.ira_pred.specs.Case.{Conjunct}
use Rattle.ira_view_moment.specs.Moment.{whole_cut}
use Rattle.ira_view_moment.specs.declared.chosen_moment.ChosenMoment.{ChosenMoment}
use Rattle.ira_view_moment.specs.declared.chosen_moment.ChosenMoment.TheVariants.{AtEnd, AtCut, OfCase, Unmet}

-- how many events each node has made at a moment that isn't the end of the logs, if there is one
abbrev pub numbers_of : {A : Type 0} → ChosenMoment A → Option (List ℕ)
numbers_of (AtCut cut) = Some cut.items
numbers_of (OfCase question number cut) = Some cut.items
numbers_of _ = None

-- how many events each node has made at the moment, if there is one
abbrev pub cut_of : {A : Type 0} → List Log → ChosenMoment A → Option (List ℕ)
cut_of logs AtEnd = Some (whole_cut logs)
cut_of logs moment = numbers_of moment

-- the case that is met, if it is the first moment of one
abbrev pub case_of : {A : Type 0} → ChosenMoment A → Option (List Conjunct)
case_of (OfCase question number cut) = slice_get question.cases number
case_of _ = None

-- that case is one of the question
abbrev pub HasItsCase : {A : Type 0} → ChosenMoment A → Type 0
HasItsCase (OfCase question number cut) = number < length question.cases
HasItsCase _ = ⊤

-- the events that have happened at the moment are a consistent cut of the logs, and the case that is met is one of the
-- question
abbrev pub IsMomentOf : {A : Type 0} → List Log → ChosenMoment A → Type 0
IsMomentOf logs moment = ForSome (cut_of logs moment) (IsConsistentCut logs) × HasItsCase moment
