-- A table of candidates that several cases ask for.
use Rattle.std.specs.Prelude.{◌≡◌, ℕ, List, Some, slice_get}
use Rattle.ira_event.specs.Log.{Log}
use Rattle.ira_pred.specs.Clause.{formula}
use Rattle.ira_pred.specs.Formula.{Formula}
use Rattle.ira_cand.specs.Candidates.{AreCandidates}
use Rattle.ira_cert.specs.declared.shared_table.SharedTable.{SharedTable}

-- these are the candidates of the log at a place for what is asked
abbrev pub AreCandidatesAt : List Log → ℕ → Formula → List ℕ → Type 0
AreCandidatesAt logs place f positions = (log : Log) × (slice_get logs place ≡ Some log) × AreCandidates log f positions

-- it has the candidates of the log at its place for its clause
abbrev pub IsTableOf : {A : Type 0} → List Log → SharedTable A → Type 0
IsTableOf logs t = AreCandidatesAt logs t.place (formula t.clause.now) t.positions.items
