use Rattle.std.proofs.Common.{◌≡◌, ◌∙◌, ℕ, None, replicate, ap, arith}
use Rattle.ira_ring_setup.specs.Setup.{Setup}
use Rattle.ira_ring_threads.proofs.room.Room.reserve.Goals as goal

pub returns : goal.returns
returns g c =
    let s : Setup = c.args.setup.now in
    let size : c.setup.inside.nodes ≡ s.nodes = ap (λ (x : Setup). x.nodes) c.setup.view_is in
    let nodes : c.from-nodes.result ≡ s.nodes = c.from-nodes.ensures ∙ c.get.ensures.value ∙ size in
    record {
      tasks = c.in_ok-tasks.ensures.tasks;
      started_nodes = (
        c.in_ok-started_nodes.ensures.items,
        omega (arith, nodes, c.in_ok-started_nodes.ensures.capacity),
      );
      finished_nodes = (
        c.in_ok-finished_nodes.ensures.items,
        omega (arith, nodes, c.in_ok-finished_nodes.ensures.capacity),
      );
      collector = c.in_ok-collector.ensures ∙ ap (λ (n : ℕ). replicate n None) size;
    }
