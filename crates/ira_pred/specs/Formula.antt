-- What a clause says, without the boxes that its parts lie in.
use Rattle.std.specs.Prelude.{ℕ, ◌+◌, ◌≤◌, max, Bool, true, false, ◌||◌, ⊤}
use Rattle.ira_pred.specs.Limits.{MAX_NUMBER}
use Rattle.ira_pred.specs.declared.rel.Rel.{Rel}

-- a formula over the facts of one node's state
pub data Formula : Type 0 where
  always : Formula
  leader : Formula
  active : Formula
  passive : Formula
  choosing : Formula
  yielding : Formula
  owes : Formula
  round : Rel → ℕ → Formula
  id : Rel → ℕ → Formula
  term : Rel → ℕ → Formula
  both : Formula → Formula → Formula
  either : Formula → Formula → Formula
  negated : Formula → Formula

-- how deep a formula is nested: that of one fact is 0
abbrev pub depth : Formula → ℕ
depth (both a b) = 1 + max (depth a) (depth b)
depth (either a b) = 1 + max (depth a) (depth b)
depth (negated a) = 1 + depth a
depth _ = 0

-- each number in the formula is at most `MAX_NUMBER`
abbrev pub HasNumbersInRange : Formula → Type 0
HasNumbersInRange (round rel n) = n ≤ MAX_NUMBER
HasNumbersInRange (id rel n) = n ≤ MAX_NUMBER
HasNumbersInRange (term rel n) = n ≤ MAX_NUMBER
HasNumbersInRange (both a b) = HasNumbersInRange a × HasNumbersInRange b
HasNumbersInRange (either a b) = HasNumbersInRange a × HasNumbersInRange b
HasNumbersInRange (negated a) = HasNumbersInRange a
HasNumbersInRange _ = ⊤

-- whether the formula compares a round or a term
abbrev pub names_round_or_term : Formula → Bool
names_round_or_term (round rel n) = true
names_round_or_term (term rel n) = true
names_round_or_term (both a b) = names_round_or_term a || names_round_or_term b
names_round_or_term (either a b) = names_round_or_term a || names_round_or_term b
names_round_or_term (negated a) = names_round_or_term a
names_round_or_term _ = false

-- whether the formula asks if something is owed
abbrev pub names_debt : Formula → Bool
names_debt owes = true
names_debt (both a b) = names_debt a || names_debt b
names_debt (either a b) = names_debt a || names_debt b
names_debt (negated a) = names_debt a
names_debt _ = false
