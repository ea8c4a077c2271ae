-- Logs have a longest prefix: the beginning of an order that no event may come after.
use Rattle.std.proofs.Common.{◌≡◌, ℕ, ◌<◌, ◌⊎◌, inl, inr, List, length, map, ◌∙◌, arith}
use Rattle.std.specs.Prelude.{slice_index}
use Rattle.std.proofs.lemmas.List.{get_or-map, length-map}
use Rattle.ira_event.specs.Log.{Log}
use Rattle.ira_event.specs.Logs.{AreLogs}
use Rattle.ira_order.specs.declared.tally.Tally.{Tally}
use Rattle.ira_order.specs.Circle.{HasOrder}
use Rattle.ira_order.specs.Matching.{Matches}
use Rattle.ira_order.specs.Order.{occurrences}
use Rattle.ira_order.specs.OrderPrefix.{IsLongest, OrderPrefix, tally_at}
use Rattle.ira_order.specs.Tally.{no_events}
use Rattle.ira_order.proofs.OrderOrCircle.{some_longest}
use Rattle.ira_order.proofs.Stuck.{all_below}
use Rattle.ira_view_evidence.specs.CircleEvidence.{IsCircle, IsLongestPrefix}
use Rattle.ira_view_evidence.proofs.Circles.{ends_in_circle}

-- how many events each node has made
abbrev pub events_made : List Tally → List ℕ
events_made tallies = map (λ t. t.events) tallies

pub events_at : (tallies : List Tally) (i : ℕ) → i < length tallies
    → slice_index (events_made tallies) i ≡ (tally_at tallies i).events
events_at tallies i l = get_or-map (λ (t : Tally). t.events) tallies i no_events 0 l

pub longest_cut : (logs : List Log) (p : OrderPrefix) → IsLongest logs p → IsLongestPrefix logs (events_made p.tallies)
longest_cut logs p longest = record {
  places = length-map p.tallies (λ (t : Tally). t.events) ∙ longest.prefix.nodes;
  order = p.places;
  ordered = longest.prefix.schedule;
  holds = made;
  longest = λ other ordered i l.
      rw (made i l) (all_below logs other (occurrences p.places) longest.prefix.logs_are.ring.0 ordered.places
      ordered.within ordered.kept longest.stuck i l);
}
  where
    made : (i : ℕ) → i < length logs → slice_index (events_made p.tallies) i ≡ occurrences p.places i
    made i l = events_at p.tallies i (omega (arith, longest.prefix.nodes, l)) ∙ (longest.prefix.each i l).made

pub order_or_circle_of : (logs : List Log) → AreLogs logs → Matches logs → HasOrder logs
    ⊎ ((cut : List ℕ) × IsCircle logs cut)
order_or_circle_of logs are matches =
    let p = some_longest logs are in
    elim (ends_in_circle logs (events_made p.0.tallies) are matches (longest_cut logs p.0 p.1)) [
      | inl order ↦ inl order
      | inr circle ↦ inr (events_made p.0.tallies, circle)
    ]
