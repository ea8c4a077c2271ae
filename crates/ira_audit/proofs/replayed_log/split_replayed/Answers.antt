use Rattle.std.proofs.Common.{◌≡◌, ◌+◌, List, [], ◌∷◌, ◌++◌, Some, ap, arith, length, append_assoc, append-nil, subst}
use Rattle.std.proofs.Common.{sym, ◌∙◌, length-append, rules}
use Rattle.std.specs.Prelude.{slice_get}
use Rattle.std.specs.Vec.Iter.{into_iter_items}
use Rattle.std.proofs.lemmas.List.{nil_from_length}
use Rattle.ira_event.specs.Log.{Log}
use Rattle.ira_replay.proofs.FirstFaults.{run_or_fault}
use Rattle.ira_order.proofs.FaultyEvents.{StopsSoFar, no_stops, stop_of, stops_all, stops_more, stops_over}
use Rattle.ira_order.specs.declared.faulty_event.FaultyEvent.{FaultyEvent}
use Rattle.ira_audit.specs.ReplayedLogs.{IsReplayed}
use Rattle.ira_audit.proofs.ReplayedLogs.{member_after}
use Rattle.ira_audit.proofs.replayed_log.split_replayed.Goals as goal

-- one log more was split off
module _ (all logs left pushed : List Log) (log : Log) (whole : logs ++ log ∷ left ≡ all)
    (is : pushed ≡ logs ++ log ∷ []) where
  parts_of : pushed ++ left ≡ all
  parts_of = ap (λ ls. ls ++ left) is ∙ append_assoc logs (log ∷ []) left ∙ whole

  next_log : slice_get all (length logs) ≡ Some log
  next_log = subst (λ ls. slice_get ls (length logs) ≡ Some log) whole (member_after logs left log)

  so_many : (stops : List FaultyEvent) → StopsSoFar all stops (length logs + 1) → StopsSoFar all stops (length pushed)
  so_many stops h = subst (StopsSoFar all stops) (sym (ap length is ∙ length-append logs (log ∷ []))) h

pub loop-read-init : goal.loop-read-init
loop-read-init g c = record {
  may_go_on = tt;
  ends = tt;
  left = search rules;
  parts = search rules;
  stops = λ ring. rw (c.in_ok-logs.ensures.items, c.new-faulty_events.ensures.items) (no_stops c.args.replayed.items);
}

pub loop-read-preserved-in_ok-push-2 : goal.loop-read-preserved-in_ok-push-2
loop-read-preserved-in_ok-push-2 g c =
    let all = c.args.replayed.items in
    let logs = c.loop-read.logs.items in
    let log = c.read.inside.log in
    let left = into_iter_items c.next.new.self in
    let steps = c.in-Some.ensures.steps in
    let rest : into_iter_items c.loop-read.read-iterator ≡ c.in-Some.read ∷ left = steps.0 in
    let whole : logs ++ log ∷ left ≡ all = ap (λ x. logs ++ x) (ap (λ y. y ∷ left) c.read.view_is ∙ sym rest)
    ∙ c.loop-read.invariant.parts in
    let pushed = c.push.new.self.items in
    let is : pushed ≡ logs ++ log ∷ [] = c.in_ok-push.ensures.items in
    let stops = c.loop-read.faulty_events.items in
    let f = c.in-Some-first_fault.field-0 in
    let fault = subst (IsReplayed log) c.in-Some-first_fault.is c.read.invariant in
    let at = next_log all logs left pushed log whole is in
    record {
      may_go_on = tt;
      ends = tt;
      left = omega (arith, ap length rest, steps.1);
      parts = parts_of all logs left pushed log whole is;
      stops = λ ring.
          let here : c.place-place.result ≡ length logs = c.place-place.ensures.value ∙ ring.places (length logs) log at in
          let same = ap (λ k. stops ++ stop_of k f ∷ []) (sym here) in
          let grown = same ∙ sym c.in_ok-push-2.ensures.items in
          so_many all logs left pushed log whole is c.push-in-Some-first_fault.new.self.items
          (subst (λ (xs : List FaultyEvent). StopsSoFar all xs (length logs + 1)) grown
          (stops_more all stops (length logs) log f at fault (c.loop-read.invariant.stops ring)));
    }

pub loop-read-preserved : goal.loop-read-preserved
loop-read-preserved g c =
    let all = c.args.replayed.items in
    let logs = c.loop-read.logs.items in
    let log = c.read.inside.log in
    let left = into_iter_items c.next.new.self in
    let steps = c.in-Some.ensures.steps in
    let rest : into_iter_items c.loop-read.read-iterator ≡ c.in-Some.read ∷ left = steps.0 in
    let whole : logs ++ log ∷ left ≡ all = ap (λ x. logs ++ x) (ap (λ y. y ∷ left) c.read.view_is ∙ sym rest)
    ∙ c.loop-read.invariant.parts in
    let pushed = c.push.new.self.items in
    let is : pushed ≡ logs ++ log ∷ [] = c.in_ok-push.ensures.items in
    let run = subst (IsReplayed log) c.in_default.is c.read.invariant in
    record {
      may_go_on = tt;
      ends = tt;
      left = omega (arith, ap length rest, steps.1);
      parts = parts_of all logs left pushed log whole is;
      stops = λ ring. so_many all logs left pushed log whole is c.loop-read.faulty_events.items
          (stops_over all c.loop-read.faulty_events.items (length logs) log (next_log all logs left pushed log whole is)
          (λ f fault. run_or_fault log f run fault) (c.loop-read.invariant.stops ring));
    }

pub returns : goal.returns
returns g c =
    let all = c.args.replayed.items in
    let logs = c.loop-read.logs.items in
    let stops = c.loop-read.faulty_events.items in
    let done = c.in-None.ensures.steps.0 in
    let none : into_iter_items c.loop-read.read-iterator ≡ [] = nil_from_length _ (omega arith) in
    let whole : logs ≡ all = sym (append-nil logs) ∙ ap (λ x. logs ++ x) (sym none) ∙ c.loop-read.invariant.parts in (
      whole,
      λ ring. stops_all all stops (length logs) (omega (arith, ap length whole)) (c.loop-read.invariant.stops ring),
    )
