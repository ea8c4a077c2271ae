-- The first moment that meets a case of a question.
use Rattle.std.specs.Prelude.{◌≡◌, ℕ, ◌<◌, ◌≤◌, List, [], ◌∷◌, Option, Some, None, length, slice_get, slice_index_or, ⊤}
use Rattle.ira_event.specs.Log.{Log}
use Rattle.ira_order.specs.Cut.{IsConsistentCut}
use Rattle.ira_pred.specs.Case.{Conjunct}
use Rattle.ira_elim.specs.LeastCut.{IsLeastCut}
use Rattle.ira_audit.specs.AskedQuestion.{AskedQuestion, IsFirstPresent}
use Rattle.ira_audit.specs.Never.{NoCutMeetsAny}
use Rattle.ira_view_moment.specs.Told.{Told, of_case, unmet}
use Rattle.ira_view.specs.declared.ring_fault.RingFault.{RingFault}
use Rattle.ira_view.specs.declared.ring_fault.RingFault.TheVariants.{No, Cut, NoCase, OutOfMemory}

-- of the case of a number: the least consistent cut that meets it; or there is none, since no consistent cut does
abbrev pub IsCutOfCase : List Log → List (List Conjunct) → ℕ → Option (List ℕ) → Type 0
IsCutOfCase logs cases number (Some cut) =
    (case : List Conjunct) × (slice_get cases number ≡ Some case) × IsLeastCut logs case cut
IsCutOfCase logs cases number None =
    (case : List Conjunct) × (slice_get cases number ≡ Some case) × NoCutMeetsAny logs (case ∷ [])

-- the cut of the case of a number, if one is asked for; else the least cut that meets the first case that a consistent
-- cut meets, or none, since no consistent cut meets any case
abbrev pub IsFirstCut : List Log → List (List Conjunct) → Option ℕ → Option (List ℕ) → Type 0
IsFirstCut logs cases (Some number) cut = IsCutOfCase logs cases number cut
IsFirstCut logs cases None (Some cut) = (number : ℕ) × IsFirstPresent logs cases number cut
IsFirstCut logs cases None None = NoCutMeetsAny logs cases

-- the case of a number is asked for, and the cases are no more than that
abbrev pub HasNoCase : List (List Conjunct) → Option ℕ → Type 0
HasNoCase cases (Some number) = length cases ≤ number
HasNoCase cases None = ⊥

-- it is told as the first moment of the case of this number
abbrev pub told_case : List (List Conjunct) → ℕ → Told
told_case cases number = of_case number (slice_index_or cases number [])

-- that cut, and that it is told as the first moment of its case; or that none is told of the case that is asked for, or
-- of any
abbrev pub IsFirstMoment : List Log → List (List Conjunct) → Option ℕ → Option (List ℕ) → Told → Type 0
IsFirstMoment logs cases (Some number) (Some cut) told =
    IsCutOfCase logs cases number (Some cut) × (told ≡ told_case cases number)
IsFirstMoment logs cases None (Some cut) told =
    (number : ℕ) × IsFirstPresent logs cases number cut × (told ≡ told_case cases number)
IsFirstMoment logs cases case None told = IsFirstCut logs cases case None × (told ≡ unmet case)

-- ---- Helpers, no definitions.

-- that case with its number, and that cut
abbrev pub IsPresent : AskedQuestion → Option ℕ → Option (ℕ × List ℕ) → Type 0
IsPresent asked case None = IsFirstCut asked.logs asked.question.cases case None
IsPresent asked case (Some found) =
    (found.0 < length asked.question.cases) × IsConsistentCut asked.logs found.1
    × IsFirstMoment asked.logs asked.question.cases case (Some found.1) (told_case asked.question.cases found.0)

-- why no moment is looked for in the cases: there is none of the number that is asked for; or memory ran out
abbrev pub IsNotLookedFor : List (List Conjunct) → Option ℕ → RingFault → Type 0
IsNotLookedFor cases case (No r) = ⊥
IsNotLookedFor cases case (Cut f) = ⊥
IsNotLookedFor cases case NoCase = HasNoCase cases case
IsNotLookedFor cases case OutOfMemory = ⊤
