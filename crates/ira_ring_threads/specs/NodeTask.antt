-- Helpers, no definitions: what the threads of a ring start from.
use Rattle.std.specs.Prelude.{◌≡◌, ℕ, ◌+◌, List, [], ◌∷◌}
use Rattle.ira_links.specs.LinkEnd.{LinkName}

-- a node's place, the most events of its log, and the links that it reads and writes
pub record NodeTask : Type 0 where
  pub place : ℕ
  pub cap : ℕ
  pub input : LinkName
  pub output : LinkName

-- the tasks of the places from k on that are below m, one by one, each for this cap: the first one reads
-- link a, each next one reads the link that the one before it writes, and the last one writes link b
abbrev pub AreTasksOfPlaces : ℕ → ℕ → LinkName → List NodeTask → ℕ → LinkName → Type 0
AreTasksOfPlaces cap k a [] m b = (k ≡ m) × (a ≡ b)
AreTasksOfPlaces cap k a (task ∷ tasks) m b =
    (task.place ≡ k) × (task.cap ≡ cap) × (task.input ≡ a) × AreTasksOfPlaces cap (k + 1) task.output tasks m b

-- the tasks of all places of a ring of n nodes, round it, each for this cap
abbrev pub AreTasksOfRing : ℕ → ℕ → List NodeTask → Type 0
AreTasksOfRing cap n tasks = (link : LinkName) × AreTasksOfPlaces cap 0 link tasks n link
