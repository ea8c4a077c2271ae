use Rattle.ira_view_explain.proofs.Reorderings.{one_more}
use Rattle.ira_view_explain.proofs.reordering.are_reordered.Goals as goal

pub loop-i-preserved : goal.loop-i-preserved
loop-i-preserved g c =
    one_more c.args.loads.now c.args.others.now c.loop-i.left.items c.deref.result.now c.remove.new.self.items c.loop-i.i
    c.in-Some.at _ c.deref.ensures.value c.in-Some.ensures.0 c.in-Some.ensures.1 c.remove.ensures.items
    c.loop-i-test.true c.loop-i.invariant
