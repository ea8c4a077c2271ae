-- What a case asks: a conjunction of local predicates, one per node at most.
use Rattle.std.specs.Prelude.{◌≢◌, ℕ, ◌<◌, ◌≤◌, List, [], All, AllPairs}
use Rattle.ira_pred.specs.Limits.{MAX_DEPTH}
use Rattle.ira_event.specs.RingSize.{IsRingSize}
use Rattle.ira_pred.specs.Formula.{Formula, depth, HasNumbersInRange}

-- what is asked of the state of the node at the place
pub record Conjunct : Type 0 where
  pub place : ℕ
  pub formula : Formula

-- it is asked of a node of the ring, and its formula keeps the limits
pub record IsConjunct (nodes : ℕ) (c : Conjunct) : Type 0 where
  pub in_ring : c.place < nodes
  pub deep : depth c.formula ≤ MAX_DEPTH
  pub numbers : HasNumbersInRange c.formula

-- conjuncts of a ring of so many nodes, each place below those that follow
pub record AreConjuncts (nodes : ℕ) (conjuncts : List Conjunct) : Type 0 where
  pub each : All (IsConjunct nodes) conjuncts
  pub rising : AllPairs (λ a b. a.place < b.place) conjuncts

-- a case of a ring of so many nodes asks something
pub record IsCase (nodes : ℕ) (conjuncts : List Conjunct) : Type 0 where
  pub some : conjuncts ≢ []
  pub conjuncts_are : AreConjuncts nodes conjuncts

-- a case of a ring of some size
abbrev pub IsCaseOfSomeRing : List Conjunct → Type 0
IsCaseOfSomeRing conjuncts = (nodes : ℕ) × IsRingSize nodes × IsCase nodes conjuncts
