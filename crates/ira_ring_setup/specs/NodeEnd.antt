-- How a node ended.
use Rattle.std.specs.Prelude.{Bool, true, false}
use Rattle.ira_ring_setup.specs.declared.node_end.NodeEnd.{NodeEnd}
use Rattle.ira_ring_setup.specs.declared.node_end.NodeEnd.TheVariants.{Leader, Stopped, DrawsSpent, LogFull, NoStep, Quiet}

-- whether a node ended because the node before it had
abbrev pub is_stopped : NodeEnd → Bool
is_stopped Leader = false
is_stopped Stopped = true
is_stopped DrawsSpent = false
is_stopped LogFull = false
is_stopped (NoStep l) = false
is_stopped Quiet = false

-- whether a node had to draw, and had no draw left
abbrev pub is_draws_spent : NodeEnd → Bool
is_draws_spent Leader = false
is_draws_spent Stopped = false
is_draws_spent DrawsSpent = true
is_draws_spent LogFull = false
is_draws_spent (NoStep l) = false
is_draws_spent Quiet = false
