use Rattle.std.proofs.Common.{◌≡◌, ◌∙◌, ◌++◌, ◌∷◌, [], Some, ap, append-nil, append_assoc, refl, rules, sym}
use Rattle.ira_node.specs.NodeState.{first_state}
use Rattle.ira_replay.specs.StatesLeft.{states_left}
use Rattle.ira_replay.proofs.Along.{are_placed_states}
use Rattle.ira_view_evidence.proofs.LastStates.{kept, kept_more, kept_over, node_evidence}
use Rattle.ira_view_evidence.proofs.node_evidence.NodeEvidence.find.Goals as goal

pub loop-position-preserved-in-Continue-branch-2 : goal.loop-position-preserved-in-Continue-branch-2
loop-position-preserved-in-Continue-branch-2 g c =
    let front : c.loop-position.position-iterator ≡ (c.in-Some.position, c.in-Some.state) ∷ c.next.new.self =
    search rules in
    ap (λ xs. xs ++ kept c.saturating_sub-first.result c.next.new.self) c.in_ok-push.ensures.items
    ∙ append_assoc c.loop-position.states.items (c.in-Some.state
    ∷ []) (kept c.saturating_sub-first.result c.next.new.self)
    ∙ ap (λ xs. c.loop-position.states.items ++ xs)
    (sym (kept_more c.saturating_sub-first.result c.in-Some.position c.in-Some.state c.next.new.self
    c.if-position-first.true))
    ∙ ap (λ xs. c.loop-position.states.items ++ kept c.saturating_sub-first.result xs) (sym front)
    ∙ c.loop-position.invariant

pub loop-position-preserved : goal.loop-position-preserved
loop-position-preserved g c =
    let front : c.loop-position.position-iterator ≡ (c.in-Some.position, c.in-Some.state) ∷ c.next.new.self =
    search rules in
    ap (λ xs. c.loop-position.states.items ++ xs)
    (sym (kept_over c.saturating_sub-first.result c.in-Some.position c.in-Some.state c.next.new.self
    c.if-position-first.false))
    ∙ ap (λ xs. c.loop-position.states.items ++ kept c.saturating_sub-first.result xs) (sym front)
    ∙ c.loop-position.invariant

pub returns : goal.returns
returns g c =
    let none : c.loop-position.position-iterator ≡ [] = search rules in
    let states : c.loop-position.states.items
    ≡ kept c.saturating_sub-first.result
    (states_left c.args.log.now.nodes (Some (0, first_state c.args.log.now.initiator)) c.args.log.now.events) =
    sym (append-nil c.loop-position.states.items)
    ∙ ap (λ xs. c.loop-position.states.items ++ kept c.saturating_sub-first.result xs) (sym none)
    ∙ c.loop-position.invariant in
    let states' = rw c.saturating_sub-first.ensures at states in
    rw c.saturating_sub-first.ensures
    (node_evidence c.args.log.now c.in-Err.fault c.loop-position.states.items _
    ((c.in-Err.ensures.err c.in-Err.fault).0 refl)
    (are_placed_states c.args.log.now.nodes (first_state c.args.log.now.initiator) c.args.log.now.events) states')
