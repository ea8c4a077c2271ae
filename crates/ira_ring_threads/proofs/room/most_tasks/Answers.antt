use Rattle.std.proofs.Common.{◌≡◌, ◌∙◌, ◌+◌, ◌++◌, ◌∷◌, [], List, ap, sym, subst, refl}
use Rattle.ira_links.specs.LinkEnd.{LinkName}
use Rattle.ira_ring_setup.specs.Setup.{Setup}
use Rattle.ira_ring_threads.specs.NodeTask.{NodeTask, AreTasksOfPlaces}
use Rattle.ira_ring_threads.proofs.NodeTasks.{tasks_more}
use Rattle.ira_ring_threads.proofs.room.most_tasks.Goals as goal

pub loop-place-preserved : goal.loop-place-preserved
loop-place-preserved g c =
    let s : Setup = c.args.setup.now in
    let task = c.in_ok-task.task in
    let is = c.in_ok-task.ensures in
    let room : task.cap ≡ s.cap = ap (λ (x : NodeTask). x.cap) is ∙ ap (λ (x : Setup). x.cap) c.setup.view_is in
    let more = tasks_more s.cap 0 c.loop-place.place (c.loop-place.place + 1) c.args.first.link c.loop-place.input.link
    c.loop-place.tasks.items task c.loop-place.invariant.tasks (ap (λ (x : NodeTask). x.place) is) room
    (ap (λ (x : NodeTask). x.input) is) refl in
    let written : task.output ≡ c.in_ok-output.next.link =
    ap (λ (x : NodeTask). x.output) is ∙ c.in_ok-output.ensures.same in
    let P : List NodeTask × LinkName → Type 0 =
    λ z. AreTasksOfPlaces s.cap 0 c.args.first.link z.0 (c.loop-place.place + 1) z.1 in
    let pushed : c.push_back.new.self.items ≡ c.loop-place.tasks.items ++ task ∷ [] = c.in_ok-push_back.ensures.items in
    record {
      tasks = subst P (λ j. (sym pushed j, written j)) more;
      fresh = c.in_ok-output.ensures.empty.1;
    }
