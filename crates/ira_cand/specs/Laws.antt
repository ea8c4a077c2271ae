-- What holds of candidates, whoever finds them.
use Rattle.std.specs.Prelude.{◌≡◌, ℕ, List}
use Rattle.ira_event.specs.Log.{Log}
use Rattle.ira_pred.specs.Formula.{Formula}
use Rattle.ira_cand.specs.Candidates.{AreCandidates}

-- a log has one list of candidates for what is asked
abbrev pub OneListOfCandidates : Type 0
OneListOfCandidates = (log : Log) (f : Formula) (xs ys : List ℕ) → AreCandidates log f xs → AreCandidates log f ys
    → xs ≡ ys
