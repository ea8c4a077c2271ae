use Rattle.std.proofs.Common.{◌≡◌, ℕ, ◌<◌, List, Some, None}
use Rattle.std.specs.Prelude.{slice_get}
use Rattle.ira_cert.specs.Queues.{HasList}
use Rattle.ira_par.specs.CandidateTable.{CandidateTable, IsListAt}
use Rattle.ira_par.proofs.tables.list_candidates.Given as goal

abbrev pub invariant-loop-place : goal.invariant-loop-place
invariant-loop-place g l = (i : ℕ) → i < l.place → slice_get l.queues i ≡ Some None

abbrev pub invariant-loop-n : goal.invariant-loop-n
invariant-loop-n g l = record {
  asked : (k : ℕ) (table : CandidateTable) → k < l.n → slice_get l.tables k ≡ Some table
      → HasList l.queues table.place;
  lists : (i : ℕ) (positions : List ℕ) → slice_get l.queues i ≡ Some (Some positions)
      → IsListAt l.tables i positions;
}
