use Rattle.std.proofs.Common.{◌≡◌, ℕ, ◌++◌, ◌+◌, ◌∷◌, [], Some, length, sym, ap, subst, ◌∙◌, arith, replicate, rules}
use Rattle.std.proofs.lemmas.List.{append-nil}
use Rattle.ira_node.specs.NodeState.{first_state}
use Rattle.ira_replay.specs.StatesLeft.{states_left}
use Rattle.ira_cand.specs.Profile.{IsProfile, WalkedTo, stage, stages_in}
use Rattle.ira_cand.proofs.Profiles.{not_advanced, span_more, stays, walked_more, walked_none}
use Rattle.ira_cand.proofs.profile.Profile.new.Goals as goal
use Rattle.ira_cand.proofs.profile.Profile.new.Goals.{In_ok-add_span-2, in-Some+then-is_err, in_default}

pub loop-event-init : goal.loop-event-init
loop-event-init g c =
    let log = c.args.log.now in (
      rw (c.new-spans.ensures.items, c.first-state.ensures, c.events-events.ensures.list, c.initiator.ensures)
          (walked_none log.nodes (first_state log.initiator) log.events),
      λ k d lt. absurd (omega (arith, ap length c.new-spans.ensures.items, lt)),
      c.of-stage.ensures,
    )

pub loop-event-preserved-then-ne : goal.loop-event-preserved-then-ne
loop-event-preserved-then-ne g c =
    let log = c.args.log.now in
    let spans = c.loop-event.spans.items in
    let span = c.in_ok-add_span.ensures.span in
    let more = walked_more log.nodes c.nodes.result (first_state log.initiator) c.loop-event.state c.advance.new.self
    log.events c.loop-event.events c.next.new.self (stages_in spans) c.loop-event.count c.in-Some.event c.advance.result
    c.loop-event.invariant.0 c.in-Some.ensures.steps c.nodes.ensures c.advance.ensures.value c.if-is_err.ensures.value in (
      subst (λ xs. WalkedTo log.nodes (first_state log.initiator) log.events xs c.advance.new.self c.next.new.self)
          (span_more spans c.add_span.new.spans.items span.0 (stage c.loop-event.state) (c.loop-event.count + 1) span.1
          (span.2 ∙ c.loop-event.invariant.2) span.3 ∙ sym (append-nil (stages_in c.add_span.new.spans.items))) more,
      c.in_ok-add_span.ensures.kinds,
      c.of-after.ensures,
    )

pub loop-event-preserved : goal.loop-event-preserved
loop-event-preserved g c =
    let log = c.args.log.now in
    let spans = c.loop-event.spans.items in
    let same : c.of-after.result ≡ c.loop-event.stage = search rules in
    let more = walked_more log.nodes c.nodes.result (first_state log.initiator) c.loop-event.state c.advance.new.self
    log.events c.loop-event.events c.next.new.self (stages_in spans) c.loop-event.count c.in-Some.event c.advance.result
    c.loop-event.invariant.0 c.in-Some.ensures.steps c.nodes.ensures c.advance.ensures.value c.if-is_err.ensures.value in (
      subst (λ a. WalkedTo log.nodes (first_state log.initiator) log.events
          (stages_in spans ++ replicate (c.loop-event.count + 1) a) c.advance.new.self c.next.new.self)
          (sym c.loop-event.invariant.2 ∙ sym same ∙ c.of-after.ensures) more,
      c.loop-event.invariant.1,
      sym same ∙ c.of-after.ensures,
    )

-- the last state, and that none comes after it
ends : (g : _) (c : In_ok-add_span-2 g) → (c.match-next.state ≡ c.loop-event.state)
    × ((p : ℕ) → states_left c.args.log.now.nodes (Some (p, c.loop-event.state)) c.loop-event.events
    ≡ (p, c.loop-event.state) ∷ [])
ends g c = elim c.match-next.branch [
  | in-Some+then-is_err w ↦ (
    w.state-is ∙ stays w.advance.result _ w.advance.ensures.err w.if-is_err.ensures.value,
    λ p. not_advanced c.args.log.now.nodes w.nodes.result p c.loop-event.state w.advance.new.self w.in-Some.event
        c.loop-event.events c.next.new.self w.advance.result w.in-Some.ensures.steps w.nodes.ensures
        w.advance.ensures.value w.if-is_err.ensures.value,
  )
  | in_default w ↦ (
    w.state-is,
    λ p. ap (states_left c.args.log.now.nodes (Some (p, c.loop-event.state))) w.in_default.ensures.steps.0,
  )
]

pub invariant_of-result : goal.invariant_of-result
invariant_of-result g c =
    let log = c.args.log.now in
    let spans = c.add_span-2.new.spans.items in
    let span = c.in_ok-add_span-2.ensures.span in
    let end = ends g (goal.at.invariant_of-result g c).In_ok-add_span-2 in
    subst (IsProfile log spans c.add_span-2.new.kinds.items) (sym end.0) (record {
      left = c.loop-event.events;
      walked = subst (λ xs. WalkedTo log.nodes (first_state log.initiator) log.events xs c.loop-event.state
          c.loop-event.events)
          (span_more c.loop-event.spans.items spans span.0 (stage c.loop-event.state) c.loop-event.count span.1
          (span.2 ∙ c.loop-event.invariant.2) span.3) c.loop-event.invariant.0;
      ends = end.1;
      kinds_are = c.in_ok-add_span-2.ensures.kinds;
      few = search rules;
    })
