use Rattle.std.proofs.Common.{◌-◌, ℕ, List, length, take}
use Rattle.ira_event.specs.Sink.{Takes}
use Rattle.ira_main.specs.Each.{AreTold, IsTold}
use Rattle.ira_main.proofs.judge_each.judge_each.Given as goal

abbrev pub invariant-loop-answers : goal.invariant-loop-answers
invariant-loop-answers g l =
    (first : ℕ) × (text : List ℕ)
    × AreTold (IsTold g.row.A.Denot g.F.TextSource.reads l.asked.form l.asked.expected.now l.asked.detail l.asked.is_summed l.shelf) (take first l.folders) l.answers.items text
    × Takes text (g.W.Sink.state l.fn.out) (g.W.Sink.state l.out)

abbrev pub decreases-loop-answers : goal.decreases-loop-answers
decreases-loop-answers g l = length l.folders - length l.answers.items
