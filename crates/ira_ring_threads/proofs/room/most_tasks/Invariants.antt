use Rattle.std.proofs.Common.{◌≡◌, []}
use Rattle.ira_ring_threads.specs.NodeTask.{AreTasksOfPlaces}
use Rattle.ira_ring_threads.proofs.room.most_tasks.Given as goal

abbrev pub invariant-loop-place : goal.invariant-loop-place
invariant-loop-place g l = record {
  tasks : AreTasksOfPlaces l.setup.cap 0 l.fn.first.link l.tasks.items l.place l.input.link;
  fresh : l.input.frames ≡ [];
}
