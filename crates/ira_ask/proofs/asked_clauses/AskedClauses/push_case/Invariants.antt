use Rattle.std.proofs.Common.{◌≡◌, ◌-◌, ◌++◌}
use Rattle.std.specs.List.{flat_map}
use Rattle.ira_pred.specs.Pairs.{numbers_from}
use Rattle.ira_pred.specs.QuestionText.{case_text, conjunct_text}
use Rattle.ira_ask.specs.Asked.{case_of, placed, wanted}
use Rattle.ira_ask.specs.AskedTexts.{AreAsked}
use Rattle.ira_ask.specs.Sentence.{Parts}
use Rattle.ira_ask.proofs.asked_clauses.AskedClauses.push_case.Given as goal

abbrev pub invariant-loop-place : goal.invariant-loop-place
invariant-loop-place g l =
    (s : Parts) → AreAsked l.fn.self s
    → l.text.items ++ flat_map conjunct_text (flat_map (λ p. placed p (wanted s l.fn.picked p))
    (numbers_from l.place (l.fn.nodes - l.place)))
    ≡ l.fn.text.items ++ case_text (case_of l.fn.nodes s l.fn.picked)
