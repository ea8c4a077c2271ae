-- The candidates of a case are states of its logs.
use Rattle.std.proofs.Common.{◌≡◌, ℕ, ◌≤◌, List, Option, Some, Contains, length, slice_get, sym, ◌∙◌, ap, arith}
use Rattle.std.proofs.lemmas.Option.{get_or_from_slice_get, slice_get_within}
use Rattle.ira_event.specs.Log.{Log}
use Rattle.ira_node.specs.NodeState.{first_state}
use Rattle.ira_pred.specs.Case.{Conjunct}
use Rattle.ira_pred.specs.Formula.{Formula}
use Rattle.ira_replay.proofs.Reached.{states_are_reached}
use Rattle.ira_order.specs.Ring.{log_of, events_of}
use Rattle.ira_cand.specs.HoldsAt.{HoldsAt}
use Rattle.ira_cert_text.specs.declared.cert_step.CertStep.{CertStep}
use Rattle.ira_cert.specs.Conjuncts.{CandidatesOf}
use Rattle.ira_cert.specs.Front.{made}
use Rattle.ira_cert.specs.Queues.{AreQueues, HasList}
use Rattle.ira_cert.specs.QueuesAfter.{AreQueuesAfter}
use Rattle.ira_cert.proofs.QueueHeads.{slice_get-drop}
use Rattle.ira_elim.specs.Elimination.{ArePlaces, IsFirstLeft, AreWithin}

holds_within : (log : Log) (f : Formula) (p : ℕ) → HoldsAt log f p → p ≤ length log.events
holds_within log f p h = ((states_are_reached log.nodes (first_state log.initiator) log.events h.states h.states_are p
    h.state).0 h.at).0

-- a candidate by its number is one
pub is_member : (xs : List ℕ) (k p : ℕ) → slice_get xs k ≡ Some p → Contains xs p
is_member xs k p at = (k, slice_get_within xs k p at, get_or_from_slice_get xs k p p at)

module _ (logs : List Log) (case : List Conjunct) (before : List CertStep) (queues : List (Option (List ℕ)))
    (queues_after : AreQueuesAfter logs case before queues) where
  -- the first candidate left, as one of the whole list
  pub first_at : (i p : ℕ) → IsFirstLeft queues i p → (positions : List ℕ) × CandidatesOf logs case i positions
      × (slice_get positions (made before i) ≡ Some p)
  first_at i p first =
      let h = queues_after.lists i first.0 first.1 in
      (h.0, h.1, sym (slice_get-drop (made before i) h.0) ∙ ap (λ (ys : List ℕ). slice_get ys 0) (sym h.3) ∙ first.2)

  pub within : AreWithin logs queues
  within i p first =
      let h = first_at i p first in
      let of = h.1 in
      let holds : HoldsAt of.log of.formula p = (of.candidates_are.members p).0 (is_member h.0 (made before i) p h.2) in
      let events : length (log_of logs i) ≡ length of.log.events = ap (λ o. length (events_of o)) of.log_is in
      (slice_get_within logs i of.log of.log_is, omega (arith, events, holds_within of.log of.formula p holds))

  -- each node that had a list still has one, and no other has
  same_places : (first : List (Option (List ℕ))) → AreQueues logs case first → (i : ℕ) → HasList queues i
      → HasList first i
  same_places first queues_are i has = let h = queues_after.lists i has.0 has.1 in queues_are.asked i
      (h.1.formula, h.1.asked)

  kept_places : (first : List (Option (List ℕ))) → AreQueues logs case first → (i : ℕ) → HasList first i
      → HasList queues i
  kept_places first queues_are i has = let h = queues_are.lists i has.0 has.1 in queues_after.asked i
      (h.formula, h.asked)

  -- so the list of places stays the one of the places that have a list
  pub places_stay : (first : List (Option (List ℕ))) (places : List ℕ) → AreQueues logs case first
      → ArePlaces first places → ArePlaces queues places
  places_stay first places queues_are are i = (
    λ member. kept_places first queues_are i ((are i).0 member),
    λ has. (are i).1 (same_places first queues_are i has),
  )
