-- What a node is doing.
use Rattle.ira_node.specs.declared.phase.Phase.{Phase}
use Rattle.ira_node.specs.declared.phase.Phase.TheVariants as phase
use Rattle.ira_view_picture.specs.declared.after.After.{After}
use Rattle.ira_view_picture.specs.declared.after.After.TheVariants as after
use Rattle.ira_view_picture.specs.declared.band.BandKind.{BandKind}
use Rattle.ira_view_picture.specs.declared.band.BandKind.TheVariants.{Active, Choosing, Leader, Passive, Unknown, Yielding}

-- the kind of a phase
abbrev pub kind_of_phase : Phase → BandKind
kind_of_phase (phase.Choosing round) = Choosing
kind_of_phase (phase.Active round id) = Active
kind_of_phase phase.Passive = Passive
kind_of_phase (phase.Leader round id) = Leader
kind_of_phase phase.Yielding = Yielding

-- the kind of what is known of a node
abbrev pub kind_of : After → BandKind
kind_of (after.State s) = kind_of_phase s.phase
kind_of after.NoStep = Unknown
kind_of after.Unknown = Unknown
