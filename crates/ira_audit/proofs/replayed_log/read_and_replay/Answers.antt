use Rattle.std.proofs.Common.{◌≡◌, ◌+◌, ℕ, refl, None, Option, Some, arith, false, inr, sym, subst}
use Rattle.std.specs.Option.{is_some}
use Rattle.ira_event.specs.LogTextFault.{RecordsFault, AreAllRecords}
use Rattle.ira_event.specs.Records.{IsAtEnd}
use Rattle.std.proofs.lemmas.Result.{err_from_is_err_and}
use Rattle.ira_event.proofs.LogReading.{after_all, after_fault, was_read}
use Rattle.ira_audit.proofs.LogAudits.{none_read}
use Rattle.ira_node.specs.NodeState.{first_state}
use Rattle.ira_replay.specs.declared.replay_fault.ReplayFault.{ReplayFault}
use Rattle.ira_audit.specs.Replaying.{HasKept}
use Rattle.ira_audit.proofs.Replaying.{kept_more, leads_on, stays_stopped, stops_there}
use Rattle.ira_audit.proofs.replayed_log.read_and_replay.Goals as goal
use Rattle.ira_audit.proofs.replayed_log.read_and_replay.Goals.{
  After-rest-before,
  then-is_none+then-is_none-2+in_ok-read_known,
  else-is_none,
  then-is_none-3+in-Ok,
  then-is_none-3+in-Err,
  else-is_none-3,
}

no_fault : (f : Option ReplayFault) → is_some f ≡ false → f ≡ None
no_fault None none = refl
no_fault (Some f) none = absurd cc

-- what was read before the next record
kept : (g : _) (c : After-rest-before g)
    → HasKept c.args.records.version c.args.records.rest c.args.nodes (first_state c.args.initiator)
    c.if-is_none.records c.if-is_none.events c.if-is_none.state c.loop-state.first_fault
kept g c = elim c.if-is_none.branch [
  | then-is_none+then-is_none-2+in_ok-read_known w ↦
      let none = no_fault c.loop-state.first_fault w.if-is_none.ensures in
      let old = subst (λ f. HasKept c.args.records.version c.args.records.rest c.args.nodes
      (first_state c.args.initiator) c.loop-state.records c.loop-state.events c.loop-state.state f) none
      c.loop-state.invariant in
      rw (w.records-is, w.events-is, w.state-is) (subst (λ f. HasKept c.args.records.version c.args.records.rest
      c.args.nodes (first_state c.args.initiator) w.read_known.new.records w.read_known.new.events
      w.read_known.new.state f) (sym none) (w.in_ok-read_known.ensures.kept _ _ _ old))
  | else-is_none w ↦ rw (w.records-is, w.events-is, w.state-is) c.loop-state.invariant
]

pub returns-in_err-event-clause-read : goal.returns-in_err-event-clause-read
returns-in_err-event-clause-read g c =
    let p = err_from_is_err_and c.from_residual-in_err-event.result c.from_residual-in_err-event.ensures.1 in
    let same : p.0 ≡ c.in_err-event.field-0.0 = p.2 in
    let k = kept g (goal.at.returns-in_err-event-clause-read g c).After-rest-before in
    rw (p.1, same) (inr (subst (λ (v : ℕ). RecordsFault v c.args.records.rest c.in_err-event.field-0.0) k.same
    (after_fault _ _ _ _ k.read c.in_err-event.ensures.0)))

pub returns-in_default-clause-read : goal.returns-in_default-clause-read
returns-in_default-clause-read g c =
    let k = kept g (goal.at.returns-in_default-clause-read g c).After-rest-before in
    let end = none_read _ _ _ c.in_ok-event.ensures c.in_default.is in
    subst (λ (v : ℕ). AreAllRecords v c.args.records.rest c.if-is_none.events) k.same
    (after_all _ _ _ k.read (subst IsAtEnd end.1 end.0))

pub returns-in_default-clause-replay : goal.returns-in_default-clause-replay
returns-in_default-clause-replay g c =
    let k = kept g (goal.at.returns-in_default-clause-replay g c).After-rest-before in
    (c.if-is_none.state, k.replay)

pub loop-state-preserved : goal.loop-state-preserved
loop-state-preserved g c =
    let k = kept g (goal.at.loop-state-preserved g c).After-rest-before in
    let r = was_read _ _ _ _ c.in_ok-event.ensures c.in-Some.is in
    rw c.in_ok-push.ensures.ok (elim c.if-is_none-3.branch [
      | then-is_none-3+in-Err w ↦
          rw w.first_fault-is (kept_more _ _ _ _ _ _ _ _ _ _ _ _ r k
          (stops_there _ _ _ _ c.if-is_none-3.state _ _ _ k.replay w.if-is_none-3.ensures
          (omega (arith, k.read.1, r.count, w.count-position.ensures.value)) w.in-Err.ensures.steps))
      | then-is_none-3+in-Ok w ↦ rw (w.state-is, w.first_fault-is) (kept_more _ _ _ _ _ _ _ _ _ _ _ _ r k
          (leads_on _ _ _ _ _ _ _ k.replay w.if-is_none-3.ensures w.in-Ok.ensures.steps))
      | else-is_none-3 w ↦ rw w.first_fault-is (kept_more _ _ _ _ _ _ _ _ _ _ _ _ r k
          (stays_stopped _ _ _ _ _ _ _ k.replay w.if-is_none-3.ensures))
    ])
