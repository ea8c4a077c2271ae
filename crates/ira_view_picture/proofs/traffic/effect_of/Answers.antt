use Rattle.std.proofs.Common.{◌≡◌, ◌∙◌, ap, refl, rules}
use Rattle.ira_node.specs.declared.node_state.NodeState.{NodeState}
use Rattle.ira_view_picture.specs.declared.after.After.TheVariants.{State}
use Rattle.ira_view_picture.proofs.traffic.effect_of.Goals as goal

-- states are equal whose parts are
same_state : (s t : NodeState) → s.phase ≡ t.phase → s.owed ≡ t.owed → s.term ≡ t.term → s ≡ t
same_state s t phase owed term =
    let parts : record { phase = s.phase; owed = s.owed; term = s.term }
    ≡ record { phase = t.phase; owed = t.owed; term = t.term } = cc in
    parts

pub returns-in-State : goal.returns-in-State
returns-in-State c =
    let eq = c.eq.ensures in
    let phase : c.in-State.after.phase ≡ c.args.before.phase = search rules in
    let term : c.in-State.after.term ≡ c.args.before.term = search rules in
    let owed : c.in-State.after.owed ≡ c.args.before.owed = search rules depth 8 in
    let same : c.in-State.after ≡ c.args.before = same_state c.in-State.after c.args.before phase owed term in
    (λ nothing. c.in-State.is ∙ ap State same, λ same. refl)
