-- The question that a sentence stands for.
use Rattle.std.specs.Prelude.{ℕ, List, [], ◌∷◌, map, ◌==◌, Bool, false, if◌then◌else◌, Option, Some, None}
use Rattle.std.specs.List.{flat_map}
use Rattle.ira_pred.specs.Formula.{Formula, both}
use Rattle.ira_pred.specs.Case.{Conjunct}
use Rattle.ira_pred.specs.Pairs.{numbers_from}
use Rattle.ira_pred.specs.Question.{QuestionCases}
use Rattle.ira_ask.specs.declared.picks.Picks.{Picks}
use Rattle.ira_ask.specs.declared.places.Places.{Places}
use Rattle.ira_ask.specs.Choices.{choices}
use Rattle.ira_ask.specs.Sentence.{Parts}

-- both, where both are asked, else the one that is
abbrev pub together : Option Formula → Option Formula → Option Formula
together None g = g
together (Some f) None = Some f
together (Some f) (Some g) = Some (both f g)

abbrev pub is_place : Option ℕ → ℕ → Bool
is_place None p = false
is_place (Some i) p = i == p

-- what is asked of the node at the place alone
abbrev pub own : Parts → Places → ℕ → Option Formula
own s picked p = if is_place picked.any p then s.any else if is_place picked.other p then s.other else s.each_other

-- what is asked of it, with what is asked of all
abbrev pub wanted : Parts → Places → ℕ → Option Formula
wanted s picked p = together (own s picked p) s.all

-- a line for the place, if something is asked of it
abbrev pub placed : ℕ → Option Formula → List Conjunct
placed p None = []
placed p (Some f) = record { place = p; formula = f } ∷ []

-- the case of these places in a ring of n nodes
abbrev pub case_of : ℕ → Parts → Places → List Conjunct
case_of n s picked = flat_map (λ p. placed p (wanted s picked p)) (numbers_from 0 n)

-- the question: a case for each way to pick nodes
abbrev pub asked : ℕ → Parts → Picks → QuestionCases
asked n s picks = record { nodes = n; cases = map (case_of n s) (choices n picks) }

-- the question on the node at place p alone
abbrev pub asked_at : ℕ → ℕ → Formula → QuestionCases
asked_at n p f = record { nodes = n; cases = (record { place = p; formula = f } ∷ []) ∷ [] }
