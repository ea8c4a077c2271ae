-- Where to begin, of events without a step: there is such an event, and all that happened before it has steps.
use Rattle.std.proofs.Common.{◌≡◌, ℕ, zero, suc, ◌+◌, ◌<◌, ◌≤◌, ◌⊎◌, inl, inr, false, get_or, List, [], ◌∷◌, Some}
use Rattle.std.proofs.Common.{length, refl, sym, ◌∙◌, ap, subst, arith, take, length-append}
use Rattle.std.specs.Prelude.{slice_get}
use Rattle.std.proofs.lemmas.Bool.{cases_eq, cases_lt}
use Rattle.std.proofs.lemmas.List.{take-append-le}
use Rattle.std.proofs.lemmas.Option.{slice_get-get_or, slice_get_within}
use Rattle.ira_event.specs.Log.{Log}
use Rattle.ira_node.specs.NodeState.{first_state}
use Rattle.ira_node.specs.declared.node_state.NodeState.{NodeState}
use Rattle.ira_order.specs.Before.{Before, onward, own}
use Rattle.ira_order.specs.Circle.{HasOrder}
use Rattle.ira_order.specs.Matching.{Matches}
use Rattle.ira_order.specs.Order.{IsOrder, StandsAt}
use Rattle.ira_order.specs.Ring.{events_of, log_of}
use Rattle.ira_order.proofs.Acyclic.{before_stands, before_within, place_of}
use Rattle.ira_order.proofs.FaultyEvents.{is_stop, same_stop, stop_of}
use Rattle.ira_order.proofs.HasCounts.{before_decided}
use Rattle.ira_replay.specs.LocalRun.{IsLocalRun, LeadsTo}
use Rattle.ira_replay.proofs.Alike.{leads_prefix}
use Rattle.ira_replay.proofs.FirstFaults.{run_or_fault, run_or_stop}
use Rattle.ira_order.specs.declared.faulty_event.FaultyEvent.{FaultyEvent}
use Rattle.ira_view_evidence.specs.Origin.{HappenedBefore, IsOrigin, IsEventAt}
use Rattle.ira_order.specs.FaultyEvent.{IsFirstFaultyEvent}

-- a stop is an event
pub stop_event : (logs : List Log) (s : FaultyEvent) → IsFirstFaultyEvent logs s → IsEventAt logs s.at
stop_event logs s is =
    let events : log_of logs s.at.place ≡ is.log.events = ap events_of is.log_is in
    let parts = ap length is.fault.parts in
    record {
      place = slice_get_within logs s.at.place is.log is.log_is;
      first = omega (arith, is.fault.position);
      last = omega (
        arith,
        is.fault.position,
        ap length events,
        parts,
        length-append is.fault.before (is.fault.event ∷ is.fault.after),
      );
    }

no_log : Log
no_log = record { version = 0; nodes = 0; place = 0; initiator = false; events = [] }

module _ (logs : List Log) (order : List ℕ) (o : IsOrder logs order) (matches : Matches logs) where
  -- one of the first nodes' stops happened before, or none did
  earlier : (s : FaultyEvent) (n : ℕ) → n ≤ length logs
      → ((other : FaultyEvent) × IsFirstFaultyEvent logs other × HappenedBefore logs other.at s.at)
      ⊎ ((other : FaultyEvent) → IsFirstFaultyEvent logs other → other.at.place < n → HappenedBefore logs other.at s.at
      → ⊥)
  earlier s zero l = inr (λ other is below. absurd (omega (arith, below)))
  earlier s (suc n) l = elim (earlier s n (omega (arith, l))) [
    | inl found ↦ inl found
    | inr before ↦
        let log : Log = get_or logs n no_log in
        let at : slice_get logs n ≡ Some (get_or logs n no_log) = slice_get-get_or logs n no_log (omega (arith, l)) in
        elim (run_or_stop (get_or logs n no_log)) [
          | inl run ↦ inr (λ other is below. elim (cases_eq other.at.place n) [
            | inr ne ↦ before other is (omega (arith, below, ne))
            | inl here ↦
                let there : slice_get logs n ≡ Some is.log =
                subst (λ k. slice_get logs k ≡ Some is.log) here is.log_is in
                let same : is.log ≡ get_or logs n no_log = cc in
                absurd (run_or_fault is.log _ (subst IsLocalRun (sym same) run) is.fault)
          ])
          | inr stops ↦ elim (before_decided logs order o matches n stops.0.position s.at.place s.at.position) [
            | inl happened ↦ inl (stop_of n stops.0, is_stop logs n (get_or logs n no_log) stops.0 at stops.1, happened)
            | inr never ↦ inr (λ other is below. elim (cases_eq other.at.place n) [
              | inr ne ↦ before other is (omega (arith, below, ne))
              | inl here ↦ λ happened.
                  let same : stop_of n stops.0 ≡ other =
                  same_stop logs n (get_or logs n no_log) stops.0 other at stops.1 is here in
                  never (subst (λ (x : FaultyEvent). HappenedBefore logs x.at s.at) (sym same) happened)
            ])
          ]
        ]
  ]

  go_back : (room : ℕ) (s : FaultyEvent) (t : ℕ) → t < room → StandsAt order t s.at.place s.at.position
      → IsFirstFaultyEvent logs s
      → IsOrigin logs s ⊎ ((b : FaultyEvent) × IsOrigin logs b × HappenedBefore logs b.at s.at)
  go_back zero s t l stands is = absurd (omega (arith, l))
  go_back (suc room) s t l stands is = elim (earlier s (length logs) (omega arith)) [
    | inr none ↦ inl (record {
      faulty = is;
      least = λ other first. none other first (stop_event logs other first).place;
    })
    | inl found ↦
        let event = stop_event logs found.0 found.1 in
        let there = place_of logs order o found.0.at.place found.0.at.position event.place event.first event.last in
        let lower : there.0 < t =
        before_stands logs order o found.0.at.place found.0.at.position s.at.place s.at.position found.2 there.0 t
        there.1 stands in
        elim (go_back room found.0 there.0 (omega (arith, l, lower)) there.1 found.1) [
          | inl here ↦ inr (found.0, here, found.2)
          | inr further ↦ inr (further.0, further.1, onward further.2 found.2)
        ]
  ]

pub some_origin : (logs : List Log) (named : FaultyEvent) → HasOrder logs → IsFirstFaultyEvent logs named
    → IsOrigin logs named
    ⊎ ((s : FaultyEvent) × IsOrigin logs s × HappenedBefore logs s.at named.at)
some_origin logs named has is =
    let event = stop_event logs named is in
    let here = place_of logs has.1 has.2 named.at.place named.at.position event.place event.first event.last in
    go_back logs has.1 has.2 has.0 (here.0 + 1) named here.0 (omega arith) here.1 is

pub steps_before : (logs : List Log) (s : FaultyEvent) (j b : ℕ) (log : Log) → IsOrigin logs s
    → Before logs j b s.at.place s.at.position → slice_get logs j ≡ Some log
    → (t : NodeState) × LeadsTo log.nodes (first_state log.initiator) (take b log.events) t
steps_before logs s j b log is before at = elim (run_or_stop log) [
  | inl run ↦ leads_prefix log.nodes (first_state log.initiator) log.events run.0 b run.1
  | inr stops ↦ elim (cases_lt b stops.0.position) [
    | inl low ↦
        let f = stops.1 in
        let short : b ≤ length stops.1.before = omega (arith, low, stops.1.position) in
        let front : take b log.events ≡ take b stops.1.before =
        ap (take b) stops.1.parts ∙ take-append-le b stops.1.before (stops.1.event ∷ stops.1.after) short in
        let begun = leads_prefix log.nodes (first_state log.initiator) stops.1.before stops.1.state b stops.1.leads in
        (begun.0, subst (λ xs. LeadsTo log.nodes (first_state log.initiator) xs begun.0) (sym front) begun.1)
    | inr high ↦
        let stop = is_stop logs j log stops.0 at stops.1 in
        let w = before_within logs j b s.at.place s.at.position before in
        elim (cases_eq stops.0.position b) [
          | inl same ↦ absurd (is.least (stop_of j stops.0) stop (rw same before))
          | inr other ↦
              let event = stop_event logs (stop_of j stops.0) stop in
              absurd (is.least (stop_of j stops.0) stop
              (onward (own refl event.place event.first (omega (arith, high, other)) w.1) before))
        ]
  ]
]
