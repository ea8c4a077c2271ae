-- The moment that words ask for.
use Rattle.std.specs.Prelude.{◌≡◌, ℕ, List, None, Option, Some}
use Rattle.std.specs.Borrow.{Bor}
use Rattle.ira_commands.specs.declared.ring_moment.RingMoment.{RingMoment}
use Rattle.ira_commands.specs.declared.ring_moment.RingMoment.TheVariants as moment
use Rattle.ira_main_cli.specs.declared.asked_moment.AskedMoment.{AskedMoment}
use Rattle.ira_main_cli.specs.declared.asked_moment.AskedMoment.TheVariants.{AtEnd, AtCut, OfQuestion}
use Rattle.ira_main_cli.specs.declared.question_source.QuestionSource.{QuestionSource}

-- it is the end of the logs, or when nodes have made so many events, or the first of a question
abbrev pub IsMomentOf : AskedMoment → RingMoment → Type 0
IsMomentOf AtEnd asked = asked ≡ moment.AtEnd
IsMomentOf (AtCut events) asked = (lent : Bor (List ℕ)) × (lent.now ≡ events.items) × (asked ≡ moment.AtCut lent)
IsMomentOf (OfQuestion selected) asked = asked ≡ moment.OfQuestion selected.case

-- that question
abbrev pub question_of : AskedMoment → Option QuestionSource
question_of (OfQuestion selected) = Some selected.question
question_of other = None
