-- The words for why logs don't match.
use Rattle.std.specs.Prelude.{ℕ, List, codes}
use Rattle.ira_order.specs.declared.match_fault.MatchFault.{MatchFault}
use Rattle.ira_order.specs.declared.match_fault.MatchFault.TheVariants.{NoSending, Differs}

-- what is wrong with the receipt, in words
abbrev pub match_fault_words : MatchFault → List ℕ
match_fault_words (NoSending link k) = codes "has no sending"
match_fault_words (Differs link k) = codes "differs"
