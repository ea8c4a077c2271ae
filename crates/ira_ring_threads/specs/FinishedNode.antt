-- Helpers, no definitions: what the threads of a ring give back.
use Rattle.std.specs.Prelude.{◌≡◌, ℕ, ◌+◌, List, [], ◌∷◌, ⊤}
use mathlib.Core.List.{IsPrefix}
use Rattle.ira_event.specs.Log.{Log}
use Rattle.ira_links.specs.declared.frame.Frame.{Frame}
use Rattle.ira_links.specs.LinkEnd.{LinkName, LinkEnd}
use Rattle.ira_ring_setup.specs.declared.node_end.NodeEnd.{NodeEnd}
use Rattle.ira_ring_setup.specs.Setup.{Setup, KeepsRules, is_initiator, node_draws}
use Rattle.ira_ring_threads.specs.TaskPromise.{TaskPromise}
use Rattle.ira_ring_threads.specs.NodeFrames.{frames_put, frames_taken}
use Rattle.ira_ring_setup.specs.Recording.{IsRecorded}

-- the part of a node, and the ends of the links that it read and wrote
pub record FinishedNode : Type 0 where
  pub place : ℕ
  pub log : Log
  pub end : NodeEnd
  pub input : LinkEnd
  pub output : LinkEnd

-- it keeps this promise: it is of the promise's place, the node there recorded the log and ended
-- so, the links are those of the promise, and the frames that passed them are those that a node with this
-- log and this end put and took
pub record KeepsPromise (promise : TaskPromise) (finished : FinishedNode) : Type 0 where
  pub place : finished.place ≡ promise.place
  pub recorded : IsRecorded promise.setup.nodes promise.place (is_initiator promise.setup promise.place)
      (node_draws promise.setup promise.place) promise.setup.cap promise.setup.terms finished.log finished.end
  pub input : finished.input.link ≡ promise.input
  pub output : finished.output.link ≡ promise.output
  pub put : finished.output.frames ≡ frames_put finished.log.events
  pub taken : finished.input.frames ≡ frames_taken finished.log.events finished.end

-- each of these keeps the promise of its number
abbrev pub KeepPromises : List TaskPromise → List FinishedNode → Type 0
KeepPromises [] [] = ⊤
KeepPromises [] (finished ∷ finished_nodes) = ⊥
KeepPromises (promise ∷ promises) [] = ⊥
KeepPromises (promise ∷ promises) (finished ∷ finished_nodes) = KeepsPromise promise finished
    × KeepPromises promises finished_nodes

-- they are of the setup's places from k on that are below m, one by one: the first one read link a, each
-- next one read the link that the one before it wrote, and the last one wrote link b
abbrev pub AreFinishedOnPlaces : Setup → ℕ → LinkName → List FinishedNode → ℕ → LinkName → Type 0
AreFinishedOnPlaces s k a [] m b = (k ≡ m) × (a ≡ b)
AreFinishedOnPlaces s k a (finished ∷ finished_nodes) m b =
    KeepsPromise (record { setup = s; place = k; input = a; output = finished.output.link }) finished
    × AreFinishedOnPlaces s (k + 1) finished.output.link finished_nodes m b

-- they are of all places of the setup's ring, round it
abbrev pub AreFinishedOnRing : Setup → List FinishedNode → Type 0
AreFinishedOnRing s finished_nodes = (link : LinkName) × AreFinishedOnPlaces s 0 link finished_nodes s.nodes link

-- the frames that the first one took begin `before`, those that each next one took begin the frames that
-- the one before it put, and the last one put `after`
abbrev pub FramesPass : List Frame → List FinishedNode → List Frame → Type 0
FramesPass before [] after = before ≡ after
FramesPass before (finished ∷ finished_nodes) after = IsPrefix finished.input.frames before
    × FramesPass finished.output.frames finished_nodes after

-- the same round the ring
abbrev pub FramesPassRoundRing : List FinishedNode → Type 0
FramesPassRoundRing finished_nodes = (last : List Frame) × FramesPass last finished_nodes last

-- they are of all places of the ring, of n nodes, of some setup that keeps the rules
abbrev pub AreOfOneRing : ℕ → List FinishedNode → Type 0
AreOfOneRing n finished_nodes = (s : Setup) × (s.nodes ≡ n) × AreFinishedOnRing s finished_nodes × KeepsRules s
