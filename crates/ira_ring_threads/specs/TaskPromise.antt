-- Helpers, no definitions: what the thread of a node promises.
use Rattle.std.specs.Prelude.{ℕ}
use Rattle.ira_links.specs.LinkEnd.{LinkName}
use Rattle.ira_ring_setup.specs.Setup.{Setup}
use Rattle.ira_ring_threads.specs.NodeTask.{NodeTask}

-- to be the node at this place of the setup's ring, and to read and write these links
pub record TaskPromise : Type 0 where
  pub setup : Setup
  pub place : ℕ
  pub input : LinkName
  pub output : LinkName

-- the promise of the thread that is given the task
abbrev pub promise_of : Setup → NodeTask → TaskPromise
promise_of s task = record { setup = s; place = task.place; input = task.input; output = task.output }
