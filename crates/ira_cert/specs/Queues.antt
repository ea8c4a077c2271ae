-- The candidates of a case, place by place, and what is found for its conjuncts.
use Rattle.std.specs.Prelude.{◌≡◌, ℕ, List, Option, Some, MatchOption, slice_get}
use Rattle.ira_event.specs.Log.{Log}
use Rattle.ira_pred.specs.Case.{Conjunct}
use Rattle.ira_cert.specs.Conjuncts.{IsAsked, CandidatesOf}

-- there is a list at place i
abbrev pub HasList : List (Option (List ℕ)) → ℕ → Type 0
HasList queues i = (positions : List ℕ) × (slice_get queues i ≡ Some (Some positions))

-- a list at each place that the case asks and at no other, and it has the candidates of that place
pub record AreQueues (logs : List Log) (case : List Conjunct) (queues : List (Option (List ℕ))) : Type 0 where
  pub asked : (i : ℕ) → IsAsked case i → HasList queues i
  pub lists : (i : ℕ) (positions : List ℕ) → slice_get queues i ≡ Some (Some positions)
      → CandidatesOf logs case i positions

-- nothing where the case doesn't ask node i; else P holds of the number of node i's conjunct and of what was found
abbrev pub IsFoundFor : {T : Type 0} → (ℕ → T → Type 0) → List Conjunct → ℕ → Option T → Type 0
IsFoundFor P case i found =
    MatchOption found (¬ (IsAsked case i)) (λ t. (n : ℕ) × (c : Conjunct) × (slice_get case n ≡ Some c) × (c.place ≡ i)
    × P n t)

-- so it is for each place
abbrev pub AreFoundFor : {T : Type 0} → (ℕ → T → Type 0) → List Conjunct → List (Option T) → Type 0
AreFoundFor P case all = (i : ℕ) (found : Option _) → slice_get all i ≡ Some found → IsFoundFor P case i found

-- these are the candidates for conjunct n of the case, at its place
abbrev pub AreCandidatesFor : List Log → List Conjunct → ℕ → List ℕ → Type 0
AreCandidatesFor logs case n positions = (c : Conjunct) × (slice_get case n ≡ Some c)
    × CandidatesOf logs case c.place positions
