-- Frames that a link may hold.
use Rattle.std.specs.Prelude.{Bool, true}
use Rattle.ira_event.specs.Event.{is_load}
use Rattle.ira_links.specs.declared.frame.Frame.{Frame}
use Rattle.ira_links.specs.declared.frame.Frame.TheVariants.{Load, Stop}

-- a frame all of whose numbers a record may hold
abbrev pub is_frame : Frame → Bool
is_frame (Load l) = is_load l
is_frame Stop = true
