-- The nodes that are stuck, and the evidence that they are.
use Rattle.std.proofs.Common.{◌≡◌, ℕ, ◌+◌, ◌<◌, ◌≤◌, List, [], Some, length, refl, sym, ◌∙◌, ap, subst}
use Rattle.std.proofs.Common.{arith, take, add-one, false}
use Rattle.std.specs.Prelude.{slice_get, slice_index}
use Rattle.std.proofs.lemmas.List.Sums.{sum-map}
use Rattle.std.proofs.lemmas.Option.{slice_get-get_or, slice_get_within}
use Rattle.ira_event.specs.Limits.{MAX_RECORDS}
use Rattle.ira_event.specs.declared.event.Event.TheVariants.{Got}
use Rattle.ira_event.specs.declared.load.Load.{Load}
use Rattle.ira_event.specs.Log.{Log}
use Rattle.ira_event.specs.Logs.{AreLogs}
use Rattle.ira_order.specs.declared.tally.Tally.{Tally}
use Rattle.ira_order.specs.OrderPrefix.{IsLongest, IsOrderPrefix, IsShort, OrderPrefix, tally_at}
use Rattle.ira_order.specs.Matching.{Matches, got, receipt, sending, sent}
use Rattle.ira_order.specs.Ring.{events_of, log_of, next, numbered, prev}
use Rattle.ira_order.proofs.OrderPrefixes.{counted_more}
use Rattle.ira_order.proofs.Places.{numbered_some}
use Rattle.ira_order.proofs.Ranks.{rank_all}
use Rattle.ira_order.proofs.Runs.{next_prev, prev_below}
use Rattle.ira_view_evidence.specs.declared.exchange.Exchange.{Exchange}
use Rattle.ira_view_evidence.specs.declared.stuck_at.StuckAt.{StuckAt}
use Rattle.ira_view_evidence.specs.CircleEvidence.{IsCircleEvidence, IsLongestPrefix, IsStuckAt}
use Rattle.ira_view_evidence.specs.Exchange.{IsNthSending}
use Rattle.ira_view_evidence.specs.StuckNodes.{AreStuckNodes, IsWaiting}
use Rattle.ira_view_evidence.proofs.Circles.{all_short, circle, waiting}
use Rattle.ira_view_evidence.proofs.Counted.{at_number}
use Rattle.ira_view_evidence.proofs.Prefixes.{events_at, events_made, longest_cut}

-- no log has more events than a log may have
pub few_events : (logs : List Log) (i : ℕ) → AreLogs logs → i < length logs → length (log_of logs i) ≤ MAX_RECORDS
few_events logs i are l =
    let no_log : Log = record { version = 0; nodes = 0; place = 0; initiator = false; events = [] } in
    let is = slice_get-get_or logs i no_log l in
    let same = ap (λ o. length (events_of o)) is in
    omega (arith, same, (are.valid i _ is).count)

-- nor does a node make more
pub few_made : (logs : List Log) (p : OrderPrefix) (i : ℕ) → IsOrderPrefix logs p → i < length logs
    → (tally_at p.tallies i).events ≤ MAX_RECORDS
few_made logs p i prefix l =
    omega (arith, (prefix.each i l).made, prefix.schedule.within i l, few_events logs i prefix.logs_are l)

pub received_by : (logs : List Log) (p : OrderPrefix) (i : ℕ) → IsOrderPrefix logs p → i < length logs
    → (tally_at p.tallies i).receipts ≡ length (got (take (tally_at p.tallies i).events (log_of logs i)))
received_by logs p i prefix l =
    let is = prefix.each i l in
    is.receipts ∙ ap (λ n. length (got (take n (log_of logs i)))) (sym is.made)

-- node j, whose next event is a receipt that has a sending
module _ (logs : List Log) (j : ℕ) (r : Tally) (lj : j < length logs)
    (received : r.receipts ≡ length (got (take r.events (log_of logs j))))
    (w : IsWaiting logs j r.events) where
  received_here : length (got (take (r.events + 1) (log_of logs j))) ≡ r.receipts + 1
  received_here = omega (arith, counted_more receipt (log_of logs j) r.events (Got w.load) w.receives, received)

  sent_there : length (sent (take w.sending (log_of logs (prev (length logs) j)))) ≡ r.receipts + 1
  sent_there =
      let rank : length (sent (take w.sending (log_of logs (prev (length logs) j))))
      ≡ length (got (take (r.events + 1) (log_of logs (next (length logs) (prev (length logs) j))))) =
      w.pair.rank in
      let here = rw (next_prev (length logs) j lj) at rank in
      here ∙ received_here

  pub has_sending : (m : Load) × (numbered (sent (log_of logs (prev (length logs) j))) (r.receipts + 1) ≡ Some m)
  has_sending =
      let m = numbered_some (sent (log_of logs (prev (length logs) j))) r.receipts
      (omega (arith, sent_there, rank_all sending (log_of logs (prev (length logs) j)) w.sending)) in
      (m.0, rw (add-one r.receipts) m.1)

  pub stuck_here : (x : Exchange) (load : Load) → IsNthSending logs (prev (length logs) j) (r.receipts + 1) x
      → slice_get (log_of logs j) r.events ≡ Some (Got load)
      → IsStuckAt logs j r.events (record {
        receipt = record { place = j; position = r.events + 1 };
        load = load;
        sending = x.at;
      })
  stuck_here x load sends receives =
      let here : numbered (log_of logs j) (r.events + 1) ≡ Some (Got load) =
      at_number (log_of logs j) r.events (Got load) receives in
      let to : next (length logs) (prev (length logs) j) ≡ j = next_prev (length logs) j lj in
      let there : numbered (log_of logs (next (length logs) (prev (length logs) j))) (r.events + 1) ≡ Some (Got load) =
      rw to here in
      let rank : length (sent (take x.at.position (log_of logs (prev (length logs) j))))
      ≡ length (got (take (r.events + 1) (log_of logs (next (length logs) (prev (length logs) j))))) =
      rw to (sends.1.rank ∙ sym received_here) in
      record {
        node = refl;
        position = refl;
        received = here;
        sender = sends.0;
        pair = record {
          message = x.load;
          taken = load;
          link = prev_below (length logs) j lj;
          sends = sends.1.event;
          receives = there;
          rank = rank;
        };
      }

module _ (logs : List Log) (p : OrderPrefix) (matches : Matches logs) (longest : IsLongest logs p)
    (short : IsShort logs p.places) where
  are : AreLogs logs
  are = longest.prefix.logs_are

  cut : IsLongestPrefix logs (events_made p.tallies)
  cut = longest_cut logs p longest

  at_cut : (i : ℕ) → i < length logs → slice_index (events_made p.tallies) i ≡ (tally_at p.tallies i).events
  at_cut i l = events_at p.tallies i (omega (arith, longest.prefix.nodes, l))

  each_short : (j : ℕ) → j < length logs → slice_index (events_made p.tallies) j < length (log_of logs j)
  each_short = all_short logs (events_made p.tallies) are matches cut short.0 short.1
      (rw (at_cut short.0 short.1, (longest.prefix.each short.0 short.1).made) short.2)

  pub waiting_at : (j : ℕ) → j < length logs → IsWaiting logs j (tally_at p.tallies j).events
  waiting_at j l =
      subst (IsWaiting logs j) (at_cut j l) (waiting logs (events_made p.tallies) are matches cut each_short j l)

  pub circle_evidence : (ordered : ℕ) (stuck : List StuckAt) → AreStuckNodes logs p.tallies ordered stuck
      → IsCircleEvidence logs ordered stuck
  circle_evidence ordered stuck nodes = record {
    places = nodes.places;
    cut = events_made p.tallies;
    longest = cut;
    total = nodes.total ∙ sym (sum-map (λ (t : Tally). t.events) p.tallies);
    circle = circle logs (events_made p.tallies) are matches cut each_short;
    each = λ j s at.
        let l : j < length logs = omega (arith, nodes.places, slice_get_within stuck j s at) in
        rw (at_cut j l) (nodes.each j s at);
  }
