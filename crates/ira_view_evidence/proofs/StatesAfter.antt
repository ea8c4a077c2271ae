-- The state after a number of events.
use Rattle.std.proofs.Common.{◌≡◌, ◌∙◌, ℕ, zero, suc, ◌+◌, ◌≤◌, ◌↔◌, List, [], ◌∷◌, Option, Some, None, ap, arith}
use Rattle.std.proofs.Common.{true, false, ◌≢◌, length, nat_eq, refl, sym, take}
use Rattle.std.specs.Prelude.{if◌then◌else◌, slice_get}
use Rattle.std.specs.List.{enumerate_from}
use Rattle.std.proofs.lemmas.Bool.Decides.{nat_tests}
use Rattle.ira_event.specs.Log.{Log}
use Rattle.ira_node.specs.NodeState.{first_state}
use Rattle.ira_node.specs.declared.node_state.NodeState.{NodeState}
use Rattle.ira_replay.specs.LocalRun.{LeadsTo}
use Rattle.ira_replay.specs.StatesLeft.{states_left}
use Rattle.ira_replay.proofs.Along.{are_placed_states}
use Rattle.ira_replay.proofs.Reached.{states_are_reached}

-- the first of placed states that has this position
abbrev pub state_at : ℕ → List (ℕ × NodeState) → Option NodeState
state_at n [] = None
state_at n (x ∷ xs) = if nat_eq x.0 n then Some x.1 else state_at n xs

-- with one that has it, and one that has another
pub at_first : (n p : ℕ) (s : NodeState) (xs : List (ℕ × NodeState)) → p ≡ n → state_at n ((p, s) ∷ xs) ≡ Some s
at_first n p s xs same = (let test : nat_eq p n ≡ true = grind (arith, nat_tests) in rw test refl)

pub at_later : (n p : ℕ) (s : NodeState) (xs : List (ℕ × NodeState)) → p ≢ n
    → state_at n ((p, s) ∷ xs) ≡ state_at n xs
at_later n p s xs other = (let test : nat_eq p n ≡ false = grind (arith, nat_tests) in rw test refl)

in_turn : (ts : List NodeState) (k n : ℕ) → state_at (k + n) (enumerate_from k ts) ≡ slice_get ts n
in_turn [] k n = refl
in_turn (t ∷ ts) k zero = at_first (k + 0) k t (enumerate_from (k + 1) ts) (omega arith)
in_turn (t ∷ ts) k (suc n) =
    let sum : k + suc n ≡ k + 1 + n = omega arith in
    at_later (k + suc n) k t (enumerate_from (k + 1) ts) (λ same. omega (arith, same))
    ∙ ap (λ m. state_at m (enumerate_from (k + 1) ts)) sum
    ∙ in_turn ts (k + 1) n

-- what is found among the states of a log is the state after so many events
pub found_is_reached : (log : Log) (n : ℕ) (found : Option NodeState)
    → found ≡ state_at n (states_left log.nodes (Some (0, first_state log.initiator)) log.events)
    → (s : NodeState)
    → (found ≡ Some s)
    ↔ ((n ≤ length log.events) × LeadsTo log.nodes (first_state log.initiator) (take n log.events) s)
found_is_reached log n found is s =
    let placed = are_placed_states log.nodes (first_state log.initiator) log.events in
    let first : 0 + n ≡ n = omega arith in
    let same : found ≡ slice_get placed.0 n =
    is ∙ ap (state_at n) placed.2 ∙ ap (λ m. state_at m (enumerate_from 0 placed.0)) (sym first)
    ∙ in_turn placed.0 0 n in
    let reached = states_are_reached log.nodes (first_state log.initiator) log.events placed.0 placed.1 n s in
    (λ some. reached.0 (sym same ∙ some), λ leads. same ∙ reached.1 leads)
