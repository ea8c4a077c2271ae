-- In which form a ring is shown.
use Rattle.std.specs.Prelude.{Bool, false, not, true}
use Rattle.ira_view.specs.declared.form.Form.{Form}
use Rattle.ira_view.specs.declared.form.Form.TheVariants.{Json, Words}
use Rattle.ira_commands.specs.declared.ring_form.RingForm.{RingForm}
use Rattle.ira_commands.specs.declared.ring_form.RingForm.TheVariants.{Html, Lines, Picture}
use Rattle.ira_commands.specs.declared.ring_moment.RingMoment.{RingMoment}
use Rattle.ira_commands.specs.declared.ring_moment.RingMoment.TheVariants.{AtCut, AtEnd, OfQuestion}
use Rattle.ira_commands.specs.declared.ring_leaders.RingLeaders.{RingLeaders}
use Rattle.ira_commands.specs.declared.ring_leaders.RingLeaders.TheVariants.{NotAsked}

-- in which form an answer is told where there is no ring to show
abbrev pub answer_form : RingForm → Form
answer_form (Lines lines) = lines.form
answer_form (Picture columns) = Words
answer_form (Html columns) = Words

-- a page is wanted
abbrev pub wants_page : RingForm → Bool
wants_page (Lines lines) = false
wants_page (Picture columns) = false
wants_page (Html columns) = true

-- what is left of logs is shown in the form where their texts break off: at their end, in words without all events, and in
-- pictures and pages
abbrev pub is_brief : Form → Bool → Bool
is_brief Words has_events = not has_events
is_brief Json has_events = false

abbrev pub shows_left : RingForm → RingMoment → Bool
shows_left (Lines lines) AtEnd = is_brief lines.form lines.has_events
shows_left (Picture columns) AtEnd = true
shows_left (Html columns) AtEnd = true
shows_left form (AtCut events) = false
shows_left form (OfQuestion case) = false

-- it tells of logs with their texts and the names of their files: in a page, and where it shows what is left of them
abbrev pub needs_files : RingForm → RingMoment → Bool
needs_files (Html columns) moment = true
needs_files form moment = shows_left form moment

-- who is to lead
abbrev pub leaders_of : RingForm → RingLeaders
leaders_of (Lines lines) = lines.leaders
leaders_of (Picture columns) = NotAsked
leaders_of (Html columns) = NotAsked
