-- Helpers, no definitions: how an event is packed into a word, two bits of kind, one of dirt, and 20 for each
-- number. A reset is what no message is: its hop alone, as no message has round 0. A yield is what no draw is: one of
-- ID 0.
-- That an event within the limits comes back is proved.
use Rattle.std.specs.Prelude.{ℕ, ◌+◌, ◌*◌, ◌/◌, ◌%◌, ◌==◌, if◌then◌else◌}
use Rattle.ira_event.specs.declared.msg.Msg.{Msg}
use Rattle.ira_event.specs.declared.load.Load.{Load}
use Rattle.ira_event.specs.declared.load.Load.TheVariants.{Msg as Message, Reset}
use Rattle.ira_event.specs.declared.event.Event.{Event}
use Rattle.ira_event.specs.declared.event.Event.TheVariants.{Draw, Sent, Got, Yield}

-- the word of a message that was sent or received
abbrev pub message_word : ℕ → Msg → ℕ
message_word kind m = kind + 4 * ((if m.dirty then 1 else 0) + 2 * (m.round + 1048576 * (m.id + 1048576 * m.hop)))

-- the word of a load that was sent or received
abbrev pub load_word : ℕ → Load → ℕ
load_word kind (Message m) = message_word kind m
load_word kind (Reset h) = kind + 4 * (2 * (1048576 * (1048576 * h)))

-- the first number in a word
abbrev pub number_in : ℕ → ℕ
number_in w = w / 8 % 1048576

-- the message in a word
abbrev pub message_in : ℕ → Msg
message_in w = record {
  round = number_in w;
  id = w / 8 / 1048576 % 1048576;
  hop = w / 8 / 1048576 / 1048576;
  dirty = w / 4 % 2 == 1;
}

-- the load in a word
abbrev pub load_in : ℕ → Load
load_in w = if w / 4 % 2199023255552 == 0 then Reset (w / 8 / 1048576 / 1048576) else Message (message_in w)

-- the draw of this ID, or the yield, where it is none
abbrev pub draw_in : ℕ → Event
draw_in id = if id == 0 then Yield else Draw id

-- the event in a word of this kind
abbrev pub event_in : ℕ → ℕ → Event
event_in kind w =
    if kind == 0 then draw_in (number_in w) else
    if kind == 1 then Sent (load_in w) else
    Got (load_in w)

-- the event in a word
abbrev pub unpacked : ℕ → Event
unpacked w = event_in (w % 4) w
