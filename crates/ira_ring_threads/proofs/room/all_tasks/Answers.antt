use Rattle.std.proofs.Common.{◌≡◌, ◌∙◌, ◌+◌, ◌-◌, ◌++◌, ◌∷◌, [], List, ap, sym, subst, arith}
use Rattle.ira_links.specs.LinkEnd.{LinkName}
use Rattle.ira_ring_setup.specs.Setup.{Setup}
use Rattle.ira_ring_threads.specs.NodeTask.{NodeTask, AreTasksOfPlaces}
use Rattle.ira_ring_threads.proofs.NodeTasks.{tasks_more}
use Rattle.ira_ring_threads.proofs.room.all_tasks.Goals as goal

pub returns : goal.returns
returns g c =
    let s : Setup = c.args.setup.now in
    let task = c.in_ok-task.task in
    let is = c.in_ok-task.ensures in
    let link = c.in_ok-last.first.link in
    let nodes : c.setup.inside.nodes ≡ s.nodes = ap (λ (x : Setup). x.nodes) c.setup.view_is in
    let place : task.place ≡ s.nodes - 1 =
    ap (λ (x : NodeTask). x.place) is ∙ omega (arith, c.get-2.ensures.value, nodes) in
    let room : task.cap ≡ s.cap = ap (λ (x : NodeTask). x.cap) is ∙ ap (λ (x : Setup). x.cap) c.setup.view_is in
    let some : s.nodes ≡ s.nodes - 1 + 1 = omega (arith, c.get-2.ensures.valid, c.get-2.ensures.value, nodes) in
    let more = tasks_more s.cap 0 (s.nodes - 1) s.nodes link c.in_ok-input.input.link c.most_tasks.new.tasks.items task
    c.in_ok-input.ensures.tasks place room (ap (λ (x : NodeTask). x.input) is) some in
    let written : task.output ≡ link = ap (λ (x : NodeTask). x.output) is ∙ c.in_ok-last.ensures.same in
    let pushed : c.push_back.new.self.items ≡ c.most_tasks.new.tasks.items ++ task ∷ [] =
    c.in_ok-push_back.ensures.items in
    let P : List NodeTask × LinkName → Type 0 = λ z. AreTasksOfPlaces s.cap 0 link z.0 s.nodes z.1 in
    record { tasks = (link, subst P (λ j. (sym pushed j, written j)) more) }
