use Rattle.ira_ask.specs.AskedTexts.{AreAsked}
use Rattle.ira_ask.specs.Sentence.{Parts}
use Rattle.ira_ask.proofs.Lines.{IsSoFar}
use Rattle.ira_ask.proofs.question.question_text.Given as goal

abbrev pub invariant-loop-picked : goal.invariant-loop-picked
invariant-loop-picked g l =
    (s : Parts) → AreAsked l.fn.clauses s → IsSoFar l.fn.nodes s l.fn.choices l.picked-index l.text.items
