-- What the log and the end of a node say of the frames that it put on its link and took from the other.
use Rattle.std.specs.Prelude.{List, [], ◌∷◌, ◌++◌, map}
use Rattle.ira_event.specs.declared.event.Event.{Event}
use Rattle.ira_event.specs.declared.load.Load.{Load}
use Rattle.ira_links.specs.declared.frame.Frame.{Frame}
use Rattle.ira_links.specs.declared.frame.Frame.TheVariants.{Load as Loaded, Stop}
use Rattle.ira_order.specs.Matching.{sent, got}
use Rattle.ira_ring_setup.specs.declared.node_end.NodeEnd.{NodeEnd}
use Rattle.ira_ring_setup.specs.declared.node_end.NodeEnd.TheVariants.{Leader, Stopped, DrawsSpent, LogFull, NoStep, Quiet}

-- these loads as frames
abbrev pub frames : List Load → List Frame
frames loads = map Loaded loads

-- the frame that was taken and isn't recorded
abbrev pub last_taken : NodeEnd → List Frame
last_taken Stopped = Stop ∷ []
last_taken (NoStep l) = Loaded l ∷ []
last_taken Leader = []
last_taken DrawsSpent = []
last_taken LogFull = []
last_taken Quiet = []

-- the frames that a node with these events put: its sendings, then one `Stop`
abbrev pub frames_put : List Event → List Frame
frames_put events = frames (sent events) ++ Stop ∷ []

-- the frames that a node with these events and this end took: its receipts, then one frame more where
-- it ended by taking one
abbrev pub frames_taken : List Event → NodeEnd → List Frame
frames_taken events end = frames (got events) ++ last_taken end
