-- The lines of all events, in one order through a cut.
use Rattle.std.specs.Prelude.{◌≡◌, ℕ, ◌+◌, All, Bool, true, false, List, [], ◌∷◌, ◌++◌, codes, length}
use Rattle.std.specs.Prelude.{map}
use Rattle.ira_event.specs.Log.{Log}
use Rattle.ira_view_moment.specs.Moment.{IsMoment, Moment, whole_cut}
use Rattle.ira_view_moment.specs.declared.chosen_moment.ChosenMoment.{ChosenMoment}
use Rattle.ira_view_moment.specs.declared.chosen_moment.ChosenMoment.TheVariants.{AtEnd, AtCut, OfCase, Unmet}
use Rattle.ira_view_trail.specs.declared.state_step.StateStep.{StateStep}
use Rattle.ira_view_trail.specs.declared.trail_step.TrailStep.{TrailStep}
use Rattle.ira_view_trail.specs.StateTrail.{TellsStates}
use Rattle.ira_view_trail.specs.Trail.{IsTrail}
use Rattle.ira_view_show.specs.Asked.{line_of_cut}
use Rattle.ira_view_show.specs.Change.{IsChange}
use Rattle.ira_view_show.specs.EventLine.{event_line_text}
use Rattle.ira_view_show.specs.Heading.{heading_text}
use Rattle.ira_view_show.specs.Summary.{summary_text}
use Rattle.ira_view_show.specs.declared.change.Change.{Change}
use Rattle.ira_view_show.specs.declared.event_line.EventColumns.{EventColumns}

-- the text is the line of a step of this number, with what its event changed of its node
pub record IsEventLine (logs : List Log) (columns : EventColumns) (number : ℕ) (walked : StateStep) (text : List ℕ)
    : Type 0 where
  pub states : TellsStates logs walked
  pub change : Change
  pub is_change : IsChange walked.before walked.after change
  pub room : ℕ
  pub gap : ℕ
  pub is : text ≡ event_line_text columns number walked.step walked.event room gap change

-- the text has the lines of these steps one after the other, of which the first has this number
pub data AreEventLines (logs : List Log) (columns : EventColumns) (first : ℕ) : List StateStep → List ℕ → Type 0 where
  none : AreEventLines logs columns first [] []
  more : {steps : List StateStep} {text : List ℕ} (step : StateStep) (line : List ℕ)
      → AreEventLines logs columns first steps text → IsEventLine logs columns (first + length steps) step line
      → AreEventLines logs columns first (steps ++ step ∷ []) (text ++ line)

-- the steps of the trail, without their states
abbrev pub trail_of : List StateStep → List TrailStep
trail_of steps = map (λ walked. walked.step) steps

-- the text tells each event once, in the order of the trail through the cut: those up to the first that isn't in the cut,
-- these words, and the others
pub record TellsEvents (logs : List Log) (cut here text : List ℕ) : Type 0 where
  pub columns : EventColumns
  pub inside : List StateStep
  pub outside : List StateStep
  pub trail : IsTrail logs cut (trail_of (inside ++ outside))
  pub in_cut : All (λ walked. walked.step.in_cut ≡ true) inside
  pub not_in_cut : (first : StateStep) (others : List StateStep) → outside ≡ first ∷ others
      → first.step.in_cut ≡ false
  pub before : List ℕ
  pub after : List ℕ
  pub are_before : AreEventLines logs columns 1 inside before
  pub are_after : AreEventLines logs columns (1 + length inside) outside after
  pub is : text ≡ before ++ here ++ after

-- the line that stands where the cut ends, where it is told
abbrev pub here_text : Bool → List ℕ → List ℕ
here_text true cut = line_of_cut cut
here_text false cut = []

-- the text has the events below a first line, with empty lines around that
pub record TellsEventsBelow (logs : List Log) (cut here first text : List ℕ) : Type 0 where
  pub events : List ℕ
  pub told : TellsEvents logs cut here events
  pub is : text ≡ codes "\n" ++ first ++ codes "\n" ++ events

-- the text is that of all events at the moment: below who leads at the end of the logs, or else which moment it is, with a
-- line where its cut ends; where there is no moment, that alone
abbrev pub TellsEventsOf : {A : Type 0} → List Log → ChosenMoment A → List ℕ → Type 0
TellsEventsOf logs AtEnd text =
    (m : Moment) × IsMoment logs (whole_cut logs) m
    × TellsEventsBelow logs (whole_cut logs) (here_text false (whole_cut logs)) (summary_text m) text
TellsEventsOf logs (AtCut cut) text =
    TellsEventsBelow logs cut.items (here_text true cut.items) (heading_text (AtCut cut)) text
TellsEventsOf logs (OfCase question number cut) text =
    TellsEventsBelow logs cut.items (here_text true cut.items) (heading_text (OfCase question number cut)) text
TellsEventsOf {A} logs (Unmet number) text = text ≡ codes "\n" ++ heading_text {A = A} (Unmet number)

-- ---- Helpers, no definitions.

-- words before an event: these where all before it are in the cut and it isn't
abbrev pub between_text : Bool → Bool → List ℕ → List ℕ
between_text true true here = []
between_text true false here = here
between_text false in_cut here = []
