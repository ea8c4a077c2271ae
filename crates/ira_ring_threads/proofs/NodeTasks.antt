-- Tasks of places that follow one another.
use Rattle.std.proofs.Common.{◌≡◌, ℕ, ◌+◌, List, [], ◌∷◌, ◌++◌, length, refl, sym, ◌∙◌, arith}
use Rattle.ira_links.specs.LinkEnd.{LinkName}
use Rattle.ira_ring_threads.specs.NodeTask.{NodeTask, AreTasksOfPlaces}

-- one task more
pub tasks_more : (most k m p : ℕ) (a b : LinkName) (tasks : List NodeTask) (task : NodeTask)
    → AreTasksOfPlaces most k a tasks m b → task.place ≡ m → task.cap ≡ most → task.input ≡ b → p ≡ m + 1
    → AreTasksOfPlaces most k a (tasks ++ task ∷ []) p task.output
tasks_more most k m p a b [] task h place room input next =
    (place ∙ sym h.0, room, input ∙ sym h.1, (omega (arith, h.0, next), refl))
tasks_more most k m p a b (s ∷ ss) task h place room input next =
    (h.0, h.1, h.2, tasks_more most (k + 1) m p s.output b ss task h.3 place room input next)

pub tasks_count : (most k m : ℕ) (a b : LinkName) (tasks : List NodeTask) → AreTasksOfPlaces most k a tasks m b
    → k + length tasks ≡ m
tasks_count most k m a b [] h = omega (arith, h.0)
tasks_count most k m a b (s ∷ ss) h = omega (arith, tasks_count most (k + 1) m s.output b ss h.3)
