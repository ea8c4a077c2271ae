-- The cases of a question ask each node for one thing at most, and nodes of its ring alone.
use Rattle.std.proofs.Common.{◌≡◌, ◌<◌, ℕ, List, Some, length, subst, arith}
use Rattle.std.specs.Prelude.{slice_get, slice_index_or}
use Rattle.ira_event.specs.Log.{Log}
use Rattle.ira_pred.specs.Case.{Conjunct, IsCase}
use Rattle.ira_pred.specs.Question.{QuestionCases, IsQuestion}
use Rattle.ira_cert.specs.Conjuncts.{HasDifferentPlaces, HasPlacesOf}
use Rattle.ira_par.proofs.CaseTables.{all_at}

case_at : (asked : QuestionCases) (i : ℕ) (case : List Conjunct) → IsQuestion asked
    → slice_get asked.cases i ≡ Some case
    → IsCase asked.nodes case
case_at asked i case is at = all_at (IsCase asked.nodes) asked.cases i case is.cases_are at

-- two nodes are asked at two places
pub different : (nodes : ℕ) (case : List Conjunct) → IsCase nodes case → HasDifferentPlaces case
different nodes case is = λ i j d lt within e. let rises = is.conjuncts_are.rising i j d lt within in
    omega (arith, rises, e)

pub different_places : (asked : QuestionCases) → IsQuestion asked → (i : ℕ) (case : List Conjunct)
    → slice_get asked.cases i ≡ Some case → HasDifferentPlaces case
different_places asked is i case at = different asked.nodes case (case_at asked i case is at)

-- the places are those of the logs
pub places_of_logs : (asked : QuestionCases) (logs : List Log) → IsQuestion asked → asked.nodes ≡ length logs
    → (i : ℕ) (case : List Conjunct) → slice_get asked.cases i ≡ Some case → HasPlacesOf logs case
places_of_logs asked logs is ring i case at = λ k d within.
    let inside = ((case_at asked i case is at).conjuncts_are.each k d within).in_ring in
    subst (λ n. (slice_index_or case k d).place < n) ring inside
