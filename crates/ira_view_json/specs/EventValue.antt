-- What the events of a ring are as JSON.
use Rattle.std.specs.Prelude.{◌≡◌, ℕ, ◌+◌, All, List, Option, Some, None, codes, map}
use Rattle.std.specs.List.{enumerate_from}
use Rattle.json.specs.Json.{Json, Members, boolean, no_members, object}
use Rattle.ira_event.specs.Log.{Log}
use Rattle.ira_view_page.specs.Words.{event_text}
use Rattle.ira_view_trail.specs.StateTrail.{TellsStates}
use Rattle.ira_view_trail.specs.Trail.{IsTrail}
use Rattle.ira_view_trail.specs.declared.state_step.StateStep.{StateStep}
use Rattle.ira_view_json.specs.Members.{put, with_number, with_words}
use Rattle.ira_view_json.specs.StateValue.{with_state}

-- members, and of a receipt the step that sent what it receives
abbrev pub with_sender : Option ℕ → Members → Members
with_sender (Some step) members = with_number (codes "of_step") step members
with_sender None members = members

-- a step of this number: its node, its event, the line of that in its file, its column, and whether it is in the cut
abbrev pub with_trail_step : ℕ → StateStep → Members → Members
with_trail_step number walked members =
    put (codes "in_cut") (boolean walked.step.in_cut)
    (with_number (codes "column") walked.step.column
    (with_words (codes "record") (event_text walked.event)
    (with_number (codes "line") (walked.step.event + 4)
    (with_number (codes "event") walked.step.event
    (with_number (codes "node") walked.step.place (with_number (codes "step") number members))))))

-- the same as a value, with the state of the node after it
abbrev pub event_value : ℕ → StateStep → Json
event_value number walked =
    object (with_state walked.after (with_sender walked.step.sent_by (with_trail_step number walked
    (with_words (codes "type") (codes "event") no_members))))

-- those of steps, of which the first has this number
abbrev pub event_values : ℕ → List StateStep → List Json
event_values first steps = map (λ numbered. event_value numbered.0 numbered.1) (enumerate_from first steps)

-- the values are those of all events, in the order of the trail through the cut
pub record AreEventValues (logs : List Log) (cut : List ℕ) (values : List Json) : Type 0 where
  pub steps : List StateStep
  pub states : All (TellsStates logs) steps
  pub trail : IsTrail logs cut (map (λ walked. walked.step) steps)
  pub are : values ≡ event_values 1 steps
