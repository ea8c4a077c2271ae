use Rattle.std.proofs.Common.{◌≡◌, ◌∷◌, ◌++◌, [], ap, arith, length}
use Rattle.std.specs.Prelude.{slice_index}
use Rattle.std.proofs.lemmas.List.{length_push}
use Rattle.ira_view_moment.specs.NodeProgress.{IsProgress}
use Rattle.ira_view_moment.proofs.OnTheWay.{node_more}
use Rattle.ira_view_moment.proofs.moment.progress_of_nodes.Goals as goal

pub loop-place-preserved : goal.loop-place-preserved
loop-place-preserved g c =
    let items : c.push.new.self.items ≡ c.loop-place.nodes.items ++ c.after.result ∷ [] = c.in_ok-push.ensures.items in
    let after : IsProgress c.log.result.now (slice_index c.args.cut.now c.from-in-loop-place.result) c.after.result =
    c.after.ensures in
    let is : IsProgress c.log.result.now (slice_index c.args.cut.now c.loop-place.place) c.after.result =
    rw c.from-in-loop-place.ensures at after in
    record {
      number = omega (
        arith,
        ap length items,
        length_push c.loop-place.nodes.items c.after.result,
        c.loop-place.invariant.number,
      );
      each = λ i log p at at_node.
          node_more c.args.logs.now c.args.cut.now c.loop-place.nodes.items c.loop-place.place c.log.result.now
          c.after.result c.loop-place.invariant.number c.loop-place.invariant.each c.log.ensures.value is
          i log p at (rw items at at_node);
    }
