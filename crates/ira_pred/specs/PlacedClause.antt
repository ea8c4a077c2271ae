-- What clauses at their places ask.
use Rattle.std.specs.Prelude.{List, map}
use Rattle.ira_pred.specs.declared.case.PlacedClause.{PlacedClause}
use Rattle.ira_pred.specs.Clause.{formula}
use Rattle.ira_pred.specs.Case.{Conjunct}

-- what the clause at its place asks
abbrev pub conjunct : {A : Type 0} → PlacedClause A → Conjunct
conjunct p = record { place = p.place; formula = formula p.clause }

-- what these clauses ask together
abbrev pub conjuncts : {A : Type 0} → List (PlacedClause A) → List Conjunct
conjuncts ps = map conjunct ps
