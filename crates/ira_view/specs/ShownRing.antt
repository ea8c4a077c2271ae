-- A ring at a moment.
use Rattle.std.specs.Prelude.{◌≡◌, ℕ, Bool, true, false, List, [], ◌++◌, Option, Some, None, codes, decimal, length, ⊤}
use Rattle.std.specs.List.{flat_map}
use Rattle.ira_event.specs.Log.{Log}
use Rattle.ira_audit.specs.Refusal.{IsQuestionRefusal}
use Rattle.ira_audit.specs.declared.refusal.Refusal.{Refusal}
use Rattle.ira_audit.specs.declared.refusal.Refusal.TheVariants as refusal
use Rattle.ira_view_moment.specs.CutFault.{IsCutFault}
use Rattle.ira_order.specs.Cut.{IsConsistentCut}
use Rattle.ira_pred.specs.Question.{QuestionCases}
use Rattle.ira_pred.specs.QuestionText.{IsQuestionText}
use Rattle.ira_view_show.specs.Asked.{case_text, position_text}
use Rattle.ira_view_show.specs.EventsText.{TellsEventsBelow, here_text}
use Rattle.ira_view_show.specs.Heading.{no_moment_words}
use Rattle.ira_view_show.specs.MomentText.{TellsMoment}
use Rattle.ira_view_show.specs.Summary.{summary_text}
use Rattle.ira_view_draw.specs.Drawing.{IsDrawing}
use Rattle.ira_view_draw.specs.MomentLine.{cut_with_line}
use Rattle.ira_view_json.specs.ShownAnswer.{AreAny, AreTold, IsRingText}
use Rattle.ira_view_picture.specs.DrawFault.{HasTooManyEvents}
use Rattle.ira_view_moment.specs.Told.{Told, at_cut, at_end, of_case, unmet}
use Rattle.ira_view_moment.specs.Moment.{IsMoment, Moment}
use Rattle.ira_view.specs.FirstCut.{HasNoCase, IsFirstMoment}
use Rattle.ira_view.specs.Status.{status_number}
use Rattle.ira_view.specs.declared.status.Status.{Status}
use Rattle.ira_view.specs.declared.ring_fault.RingFault.{RingFault}
use Rattle.ira_view.specs.declared.ring_fault.RingFault.TheVariants.{No, Cut, NoCase, OutOfMemory}

-- its logs, how many events each node has made by then, if there is such a moment, and which one it is told to be
pub record ShownRing : Type 0 where
  pub logs : List Log
  pub cut : Option (List ℕ)
  pub told : Told

-- the fault where a question is refused
abbrev pub refusal_fault : Refusal → RingFault
refusal_fault (refusal.No reason) = No reason
refusal_fault refusal.OutOfMemory = OutOfMemory

-- the ring of these logs when each node has made so many events, which are a consistent cut
abbrev pub IsAtCut : List Log → List ℕ → ShownRing → Type 0
IsAtCut logs events ring =
    (ring.logs ≡ logs) × (ring.cut ≡ Some events) × IsConsistentCut logs events × (ring.told ≡ at_cut events)

-- why there is none: the numbers are no such cut, or memory ran out
abbrev pub IsNoCut : List Log → List ℕ → RingFault → Type 0
IsNoCut logs events (No r) = ⊥
IsNoCut logs events (Cut f) = IsCutFault logs events f
IsNoCut logs events NoCase = ⊥
IsNoCut logs events OutOfMemory = ⊤

-- the ring of these logs at the first moment that meets a case of the question of a text: of the case of a number, or
-- of any
abbrev pub IsOfQuestion : List Log → List ℕ → Option ℕ → ShownRing → Type 0
IsOfQuestion logs text case ring =
    (ring.logs ≡ logs) × ((asked : QuestionCases) × IsQuestionText text asked × (asked.nodes ≡ length logs)
    × IsFirstMoment logs asked.cases case ring.cut ring.told)

-- why there is none: the question isn't one of their ring, or has no case of the number, or memory ran out
abbrev pub IsNoQuestion : List Log → List ℕ → Option ℕ → RingFault → Type 0
IsNoQuestion logs text case (No r) = IsQuestionRefusal text (length logs) r
IsNoQuestion logs text case (Cut f) = ⊥
IsNoQuestion logs text case NoCase =
    (asked : QuestionCases) × IsQuestionText text asked × (asked.nodes ≡ length logs)
    × HasNoCase asked.cases case
IsNoQuestion logs text case OutOfMemory = ⊤

-- the words of which moment it is
abbrev pub heading_words : Told → List ℕ
heading_words at_end = []
heading_words (at_cut events) = codes "At the cut" ++ flat_map position_text events ++ codes ":"
heading_words (of_case number case) =
    codes "The first moment of case " ++ decimal number ++ codes " (" ++ case_text case ++ codes "):"
heading_words (unmet number) = no_moment_words number

abbrev pub heading_text : Told → List ℕ
heading_text told = heading_words told ++ codes "\n"

-- at the end of the logs the first line is a summary instead
abbrev pub first_text : Told → Moment → List ℕ
first_text at_end m = summary_text m
first_text (at_cut events) m = heading_text (at_cut events)
first_text (of_case number case) m = heading_text (of_case number case)
first_text (unmet number) m = heading_text (unmet number)

-- a moment that isn't the end of the logs is named
abbrev pub is_named : Told → Bool
is_named at_end = false
is_named (at_cut events) = true
is_named (of_case number case) = true
is_named (unmet number) = true

-- the text tells which moment of the ring it is, and what the ring looks like then; where there is no moment that alone
abbrev pub TellsMomentOf : List Log → Option (List ℕ) → Told → List ℕ → Type 0
TellsMomentOf logs (Some cut) told text = TellsMoment logs cut (is_named told) (first_text told) text
TellsMomentOf logs None told text = text ≡ codes "\n" ++ heading_text told

abbrev pub IsPageOf : ShownRing → List ℕ → Type 0
IsPageOf ring text = TellsMomentOf ring.logs ring.cut ring.told text

-- the text tells which moment of the ring it is, and all events in an order through it
abbrev pub TellsEventsAt : List Log → Option (List ℕ) → Told → List ℕ → Type 0
TellsEventsAt logs None told text = text ≡ codes "\n" ++ heading_text told
TellsEventsAt logs (Some cut) at_end text =
    (m : Moment) × IsMoment logs cut m × TellsEventsBelow logs cut (here_text false cut) (summary_text m) text
TellsEventsAt logs (Some cut) (at_cut events) text =
    TellsEventsBelow logs cut (here_text true cut) (heading_text (at_cut events)) text
TellsEventsAt logs (Some cut) (of_case number case) text =
    TellsEventsBelow logs cut (here_text true cut) (heading_text (of_case number case)) text
TellsEventsAt logs (Some cut) (unmet number) text =
    TellsEventsBelow logs cut (here_text true cut) (heading_text (unmet number)) text

abbrev pub AreEventsOf : ShownRing → List ℕ → Type 0
AreEventsOf ring text = TellsEventsAt ring.logs ring.cut ring.told text

-- the text is lines of JSON: that of a yes, with this status, with the places that are to lead, if some are named, and
-- with the moment of the ring; and then those of all events, where these are wanted, or else on the moment
abbrev pub AreJsonLines : Bool → Option (List ℕ) → ShownRing → Status → List ℕ → Type 0
AreJsonLines has_events named ring status text =
    IsRingText ring.logs named (status_number status) ring.told ring.cut (AreTold has_events ring.logs ring.cut) text

-- it is that of such a yes, and then any
abbrev pub AreSomeJsonLines : Option (List ℕ) → ShownRing → Status → List ℕ → Type 0
AreSomeJsonLines named ring status text =
    IsRingText ring.logs named (status_number status) ring.told ring.cut AreAny text

-- the text is a picture of the ring at these columns, with a line at its moment
abbrev pub IsPictureOf : ShownRing → Option ℕ → Option ℕ → List ℕ → Type 0
IsPictureOf ring from to text = IsDrawing ring.logs ring.cut ring.told from to text

-- at these columns it has so many events, too many for a picture
abbrev pub HasTooManyAt : ShownRing → Option ℕ → Option ℕ → ℕ → Type 0
HasTooManyAt ring from to events = HasTooManyEvents ring.logs (cut_with_line ring.told ring.cut) from to events
