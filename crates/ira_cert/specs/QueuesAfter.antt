-- Helpers, no definitions: the candidates left after some steps, place by place.
use Rattle.std.specs.Prelude.{◌≡◌, ℕ, ◌≤◌, List, Option, Some, length, slice_get, drop}
use Rattle.ira_event.specs.Log.{Log}
use Rattle.ira_pred.specs.Case.{Conjunct}
use Rattle.ira_cert_text.specs.declared.cert_step.CertStep.{CertStep}
use Rattle.ira_cert.specs.Conjuncts.{IsAsked, CandidatesOf}
use Rattle.ira_cert.specs.Front.{made}
use Rattle.ira_cert.specs.Queues.{HasList}

-- the list of a place has the candidates left: all but the first ones, one for each of its eliminations
pub record AreQueuesAfter (logs : List Log) (case : List Conjunct) (before : List CertStep)
    (queues : List (Option (List ℕ))) : Type 0 where
  pub asked : (i : ℕ) → IsAsked case i → HasList queues i
  pub lists :
      (i : ℕ) (left : List ℕ) → slice_get queues i ≡ Some (Some left)
      → (positions : List ℕ) × CandidatesOf logs case i positions × (made before i ≤ length positions)
      × (left ≡ drop (made before i) positions)
