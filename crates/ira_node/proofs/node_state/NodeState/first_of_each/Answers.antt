use Rattle.std.proofs.Common.{◌≡◌, ◌∙◌, ◌∷◌, ◌++◌, ◌+◌, List, [], ap, map, rules, sym, take}
use Rattle.std.proofs.lemmas.List.{map-append, take_more}
use Rattle.std.proofs.lemmas.Option.{get_or_from_slice_get, slice_get_within}
use Rattle.ira_event.specs.Log.{Log}
use Rattle.ira_node.specs.declared.node_state.NodeState.{NodeState}
use Rattle.ira_node.specs.NodeState.{first_state}
use Rattle.ira_node.proofs.node_state.NodeState.first_of_each.Goals as goal

pub loop-place-preserved : goal.loop-place-preserved
loop-place-preserved g c =
    let logs = c.args.logs.now in
    let log = c.log.result.now in
    let at = c.log.ensures.value in
    let next : take (c.loop-place.place + 1) logs ≡ take c.loop-place.place logs ++ log ∷ [] =
    take_more logs c.loop-place.place log (slice_get_within logs c.loop-place.place log at)
    ∙ ap (λ (x : Log). take c.loop-place.place logs ++ x ∷ [])
    (get_or_from_slice_get logs c.loop-place.place log log at) in
    let pushed : c.push.new.self.items ≡ c.loop-place.states.items ++ first_state log.initiator ∷ [] = search rules in
    pushed
    ∙ ap (λ (xs : List NodeState). xs ++ first_state log.initiator ∷ []) c.loop-place.invariant
    ∙ sym (ap (map (λ (x : Log). first_state x.initiator)) next
    ∙ map-append (λ (x : Log). first_state x.initiator) (take c.loop-place.place logs) (log ∷ []))
