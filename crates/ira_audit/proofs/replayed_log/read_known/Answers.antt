use Rattle.std.proofs.Common.{◌≡◌, ℕ, None, refl, subst, sym, ap, arith, length}
use Rattle.ira_event.proofs.LogReading.{record_shorter}
use Rattle.ira_event.specs.Records.{RecordsLeft, ReadsRecord}
use Rattle.ira_event.specs.SentLine.{passed_on}
use Rattle.ira_event.specs.declared.msg.Msg.{Msg}
use Rattle.ira_event.specs.declared.event.Event.TheVariants.{Got, Sent}
use Rattle.ira_event.specs.declared.load.Load.TheVariants.{Msg as Message}
use Rattle.ira_node.specs.Handling.{Handles}
use Rattle.ira_node.specs.Msg.{raised}
use Rattle.ira_node.specs.NodeState.{owing}
use Rattle.ira_node.specs.NodeStep.{NodeStep}
use Rattle.ira_node.specs.declared.handling.Handling.TheVariants.{Passes, Purges}
use Rattle.ira_node.specs.declared.node_state.NodeState.{NodeState}
use Rattle.ira_audit.specs.Replaying.{HasKept}
use Rattle.ira_audit.proofs.Replaying.{free_is, kept_step}
use Rattle.ira_audit.proofs.replayed_log.read_known.Goals as goal
use Rattle.ira_audit.proofs.replayed_log.read_known.Goals.{
  else-loop-received-test,
  then-loop-received-test+in-None-1,
  then-loop-received-test+in-Some+in-Some-Passes+then-not-next_receipt,
  then-loop-received-test+in-Some+in-Some-Passes+else-not-next_receipt+in_ok-push-in-Some-Passes+then-not-next_passed,
  then-loop-received-test+in-Some+in-Some-Purges+then-not-next_receipt-2,
  then-loop-received-test+in-Some+in-None,
}

pub loop-received-init : goal.loop-received-init
loop-received-init g c = record {
  kept = λ version text first kept.
      let same : c.new-left.result ≡ c.args.records.now =
      rw (c.new-left.ensures, c.version.ensures, c.rest.ensures, c.count.ensures.value) refl in
      subst (λ (r : RecordsLeft). HasKept version text c.args.nodes first r c.args.events.now c.args.state.now None)
      (sym same) kept;
  same = refl;
  shorter = omega (arith, ap length c.rest.ensures, ap (λ (r : RecordsLeft). length r.rest) c.new-left.ensures);
}

-- a message that is purged
purged : (n : ℕ) (s : NodeState) (m : Msg) → s.owed ≡ None → Handles n s.phase m Purges → NodeStep n s (Got (Message m)) s
purged n s m none h = subst (λ f. NodeStep n f (Got (Message m)) f) (free_is s none) (h s.term)

-- a message that is passed on
received : (n : ℕ) (s : NodeState) (m : Msg) → s.owed ≡ None → Handles n s.phase m Passes
    → NodeStep n s (Got (Message m)) (owing s.term s.phase (Message (raised m)))
received n s m none h =
    subst (λ f. NodeStep n f (Got (Message m)) (owing s.term s.phase (Message (raised m)))) (free_is s none) (h.1 s.term)

passed : (n : ℕ) (s : NodeState) (m : Msg) → s.owed ≡ None → Handles n s.phase m Passes
    → NodeStep n (owing s.term s.phase (Message (raised m))) (Sent (Message (raised m))) s
passed n s m none h =
    subst (λ f. NodeStep n (owing s.term s.phase (Message (raised m))) (Sent (Message (raised m))) f) (free_is s none)
    (h.2 s.term)

-- the receipt by the message as it was taken
of_message : (old new : RecordsLeft) (m line : Msg) → m ≡ line → ReadsRecord old new (Got (Message line))
    → ReadsRecord old new (Got (Message m))
of_message old new m line same r = subst (λ (k : Msg). ReadsRecord old new (Got (Message k))) (sym same) r

sent_message : (old new : RecordsLeft) (m line : Msg) → m ≡ line → ReadsRecord old new (Sent (Message (passed_on line)))
    → ReadsRecord old new (Sent (Message (raised m)))
sent_message old new m line same r =
    subst (λ (k : Msg). ReadsRecord old new (Sent (Message (passed_on k)))) (sym same) r

pub loop-received-preserved : goal.loop-received-preserved
loop-received-preserved g c = record {
  kept = λ version text first kept.
      let s = c.args.state.now in
      let m = c.message-message.result in
      let h = subst (Handles c.args.nodes s.phase m) c.in-Some-Purges.field-0-is c.in-Some-Purges.ensures in
      let r = of_message _ _ m _ c.message-message.ensures.value c.if-not-next_receipt-2.ensures in
      rw c.in_ok-push-in-Some-Purges.ensures.ok (kept_step version text c.args.nodes first _ _ _ s s (Got (Message m)) r
      (c.loop-received.invariant.kept version text first kept) (purged c.args.nodes s m c.requires h));
  same = c.loop-received.invariant.same;
  shorter = omega (
    arith,
    record_shorter _ _ _ c.if-not-next_receipt-2.ensures,
    c.loop-received.invariant.shorter,
  );
}

pub loop-received-preserved-in-Some-Passes : goal.loop-received-preserved-in-Some-Passes
loop-received-preserved-in-Some-Passes g c = record {
  kept = λ version text first kept.
      let s = c.args.state.now in
      let m = c.message-message.result in
      let h = subst (Handles c.args.nodes s.phase m) c.in-Some-Passes.field-0-is c.in-Some-Passes.ensures in
      let r = of_message _ _ m _ c.message-message.ensures.value c.if-not-next_receipt.ensures in
      let one = kept_step version text c.args.nodes first _ _ _ s _ (Got (Message m)) r
      (c.loop-received.invariant.kept version text first kept) (received c.args.nodes s m c.requires h) in
      let q = sent_message _ _ m _ c.message-message.ensures.value c.if-not-next_passed.ensures.read in
      rw (c.in_ok-push-in-Some-Passes-2.ensures.ok, c.in_ok-push-in-Some-Passes.ensures.ok) (kept_step version text
      c.args.nodes first _ _ _ _ s (Sent (Message (raised m))) q one (passed c.args.nodes s m c.requires h));
  same = c.loop-received.invariant.same;
  shorter = omega (
    arith,
    record_shorter _ _ _ c.if-not-next_receipt.ensures,
    record_shorter _ _ _ c.if-not-next_passed.ensures.read,
    c.loop-received.invariant.shorter,
  );
}

pub returns-clause-kept : goal.returns-clause-kept
returns-clause-kept g c = λ version text first kept.
    let s = c.args.state.now in
    let same = c.loop-received.invariant.same in
    let old = c.loop-received.invariant.kept version text first kept in
    elim c.loop-received-test.branch [
      | else-loop-received-test w ↦ rw (w.left-is, w.events-is, w.state-is, same) old
      | then-loop-received-test+in-None-1 w ↦ rw (w.left-is, w.events-is, w.state-is, same) old
      | then-loop-received-test+in-Some+in-Some-Passes+then-not-next_receipt w ↦
          rw (w.left-is, w.if-not-next_receipt.ensures, w.events-is, w.state-is, same) old
      | then-loop-received-test+in-Some+in-Some-Passes+else-not-next_receipt+in_ok-push-in-Some-Passes+then-not-next_passed w ↦
          let m = w.message-message.result in
          let h = subst (Handles c.args.nodes s.phase m) w.in-Some-Passes.field-0-is w.in-Some-Passes.ensures in
          let r = of_message _ _ m _ w.message-message.ensures.value w.if-not-next_receipt.ensures in
          rw (
            w.left-is,
            w.if-not-next_passed.ensures.read,
            w.events-is,
            w.in_ok-push-in-Some-Passes.ensures.ok,
            w.state-is,
            same,
          ) (kept_step version text c.args.nodes first _ _ _ s _ (Got (Message m)) r old
          (received c.args.nodes s m c.requires h))
      | then-loop-received-test+in-Some+in-Some-Purges+then-not-next_receipt-2 w ↦
          rw (w.left-is, w.if-not-next_receipt-2.ensures, w.events-is, w.state-is, same) old
      | then-loop-received-test+in-Some+in-None w ↦ rw (w.left-is, w.events-is, w.state-is, same) old
    ]

pub returns-clause-shorter : goal.returns-clause-shorter
returns-clause-shorter g c =
    let old = c.loop-received.invariant.shorter in
    elim c.loop-received-test.branch [
      | else-loop-received-test w ↦ rw w.left-is old
      | then-loop-received-test+in-None-1 w ↦ rw w.left-is old
      | then-loop-received-test+in-Some+in-Some-Passes+then-not-next_receipt w ↦
          rw (w.left-is, w.if-not-next_receipt.ensures) old
      | then-loop-received-test+in-Some+in-Some-Passes+else-not-next_receipt+in_ok-push-in-Some-Passes+then-not-next_passed w ↦
          rw (w.left-is, w.if-not-next_passed.ensures.read) (omega (
            arith,
            record_shorter _ _ _ w.if-not-next_receipt.ensures,
            old,
          ))
      | then-loop-received-test+in-Some+in-Some-Purges+then-not-next_receipt-2 w ↦
          rw (w.left-is, w.if-not-next_receipt-2.ensures) old
      | then-loop-received-test+in-Some+in-None w ↦ rw w.left-is old
    ]
