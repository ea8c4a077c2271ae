use Rattle.std.proofs.Common.{◌≡◌, ◌∷◌, rules}
use Rattle.ira_view_explain.proofs.RingHints.{same_more}
use Rattle.ira_view_explain.proofs.ring_search.has_same_events.Goals as goal

pub loop-event-preserved : goal.loop-event-preserved
loop-event-preserved g c =
    let first : c.loop-event.event-iterator ≡ c.in-Some.event ∷ c.next.new.self = search rules in
    let second : c.loop-event.others ≡ c.in-Some.event ∷ c.next-in-loop-event.new.self = search rules in
    same_more _ _ _ _ _ _ c.in-Some.event c.loop-event.invariant first second
