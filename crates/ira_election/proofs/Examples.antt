-- Worked logs of two nodes: what the laws need.
use Rattle.std.proofs.Common.{◌≡◌, ℕ, zero, suc, ◌<◌, ◌≤◌, true, false, List, [], ◌∷◌, length, refl, arith, lit≤, lit<}
use Rattle.std.specs.List.{list_all}
use Rattle.std.specs.Prelude.{Some, slice_get}
use Rattle.ira_event.specs.declared.event.Event.{Event}
use Rattle.ira_event.specs.declared.event.Event.TheVariants.{Draw, Sent, Got}
use Rattle.ira_event.specs.Event.{is_event, is_of_version}
use Rattle.ira_event.specs.Log.{IsLog}
use Rattle.ira_event.specs.Logs.{AreLogs}
use Rattle.ira_node.specs.NodeState.{first_state}
use Rattle.ira_order.specs.Before.{Before, own, message, onward}
use Rattle.ira_order.specs.Matching.{Matches}
use Rattle.ira_order.specs.Order.{IsPair}
use Rattle.ira_order.specs.Ring.{log_of}
use Rattle.ira_order.proofs.Acyclic.{before_own}
use Rattle.ira_safety.specs.TwoNodes.{hopped, log_of_two, both_elected, elected}
use Rattle.ira_safety.proofs.TwoNodes.{one_may_lead, two_may_lead_unmatched, both}
use Rattle.ira_election.specs.AnOrder.{exchanged, MatchingIsNotEnough}
use Rattle.ira_election.specs.Draws.{Drew, BothMayLeadUnmatched}
use Rattle.ira_election.specs.Ending.{LeadsBeforeTheEnd}

pub leads_before_the_end : LeadsBeforeTheEnd
leads_before_the_end = (one_may_lead.3, λ empty. cc)

-- ---- a circle

matches : Matches exchanged
matches zero l k m h = h
matches (suc zero) l k m h = h
matches (suc (suc i)) l k m h = absurd (omega arith)

-- the first event of node 0 happened before itself
circle : Before exchanged 0 1 0 1
circle =
    let there : IsPair exchanged 0 2 1 = record {
      message = hopped 1 2;
      taken = hopped 1 2;
      link = lit< tt;
      sends = refl;
      receives = refl;
      rank = refl;
    } in
    let back : IsPair exchanged 1 2 1 = record {
      message = hopped 1 1;
      taken = hopped 1 1;
      link = lit< tt;
      sends = refl;
      receives = refl;
      rank = refl;
    } in
    onward (own refl (lit< tt) (lit≤ tt) (lit< tt) (lit≤ tt))
    (onward {j = 1} {b = 1} (message refl there)
    (onward {j = 1} {b = 2} (own refl (lit< tt) (lit≤ tt) (lit< tt) (lit≤ tt)) (message refl back)))

is_log : (place : ℕ) (events : List Event) → place < 2 → length events ≤ 10 → list_all is_event events ≡ true
    → list_all (is_of_version 1) events ≡ true → IsLog (log_of_two 1 place false events)
is_log place events low few numbers held = record {
  version = (lit≤ tt, lit≤ tt);
  size = (lit≤ tt, lit≤ tt);
  fits = λ _. omega arith;
  place = low;
  count = omega arith;
  numbers = numbers;
  held = held;
}

are_logs : AreLogs exchanged
are_logs =
    let a : List Event = Got (hopped 1 1) ∷ Sent (hopped 1 2) ∷ [] in
    let b : List Event = Got (hopped 1 2) ∷ Sent (hopped 1 1) ∷ [] in
    let first = log_of_two 1 0 false a in
    let second = log_of_two 1 1 false b in
    record {
      ring = (lit≤ tt, lit≤ tt);
      sizes = both first second (λ i log. log.nodes ≡ 2) refl refl;
      places = both first second (λ i log. log.place ≡ i) refl refl;
      valid = both first second (λ i log. IsLog log) (is_log 0 a (lit< tt) (lit≤ tt) refl refl)
          (is_log 1 b (lit< tt) (lit≤ tt) refl refl);
      version = 1;
      versions = both first second (λ i log. log.version ≡ 1) refl refl;
    }

pub matching_is_not_enough : MatchingIsNotEnough
matching_is_not_enough =
    (are_logs, (matches, λ order is. (let before : 1 < 1 = before_own exchanged order is 0 1 1 circle in omega arith)))

-- both draw 1, as their first event
pub both_may_lead_unmatched : BothMayLeadUnmatched
both_may_lead_unmatched =
    let w = two_may_lead_unmatched in
    (w.0, w.1, w.2, w.3, drew_first 0 refl refl, drew_first 1 refl refl)
  where
    drew_first : (i : ℕ) → slice_get both_elected i ≡ Some (log_of_two 1 i true elected)
        → slice_get (log_of both_elected i) 0 ≡ Some (Draw 1) → Drew both_elected i 1 1 1
    drew_first i at draws = record {
      events = 0;
      state = first_state true;
      is_in = record { log = log_of_two 1 i true elected; at = at; reached = refl };
      term_is = refl;
      chooses = refl;
      draws = draws;
    }
