-- Numbers, messages, loads and events that a record may hold, and in which version of a log.
use Rattle.std.specs.Prelude.{ℕ, Bool, true, false, nat_le, nat_lt, ◌&&◌, ◌||◌, not}
use Rattle.ira_event.specs.Limits.{MAX_NUMBER}
use Rattle.ira_event.specs.declared.msg.Msg.{Msg}
use Rattle.ira_event.specs.declared.load.Load.{Load}
use Rattle.ira_event.specs.declared.load.Load.TheVariants.{Msg as Message, Reset}
use Rattle.ira_event.specs.declared.event.Event.{Event}
use Rattle.ira_event.specs.declared.event.Event.TheVariants.{Draw, Sent, Got, Yield}

-- a number that a record may hold
abbrev pub is_number : ℕ → Bool
is_number n = nat_le 1 n && nat_le n MAX_NUMBER

-- a message all of whose numbers a record may hold
abbrev pub is_msg : Msg → Bool
is_msg m = is_number m.round && is_number m.id && is_number m.hop

-- a load all of whose numbers a record may hold
abbrev pub is_load : Load → Bool
is_load (Message m) = is_msg m
is_load (Reset h) = is_number h

-- an event all of whose numbers a record may hold
abbrev pub is_event : Event → Bool
is_event (Draw d) = is_number d
is_event (Sent l) = is_load l
is_event (Got l) = is_load l
is_event Yield = true

-- the load is one of version 2 alone: a reset
abbrev pub is_reset : Load → Bool
is_reset (Message m) = false
is_reset (Reset h) = true

-- the event is one of version 2 alone: a yield, or one of a reset
abbrev pub is_later : Event → Bool
is_later (Draw d) = false
is_later (Sent l) = is_reset l
is_later (Got l) = is_reset l
is_later Yield = true

-- a log of this version may have the event
abbrev pub is_of_version : ℕ → Event → Bool
is_of_version version e = not (is_later e) || nat_lt 1 version
