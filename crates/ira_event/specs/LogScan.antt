-- Helpers, no definitions: how the lines of a log text are scanned, as the reader's contracts say.
use Rattle.std.specs.Option.{option_map}
use Rattle.std.specs.Prelude.{ℕ, Bool, true, false, List, Option, Some, None, codes}
use Rattle.ira_event.specs.Scan.{kept_at, after_word, ◌>>=◌, or, then_or}
use Rattle.ira_event.specs.declared.msg.Msg.{Msg}
use Rattle.ira_event.specs.declared.load.Load.{Load}
use Rattle.ira_event.specs.declared.load.Load.TheVariants.{Msg as Message, Reset}
use Rattle.ira_event.specs.declared.event.Event.TheVariants.{Draw, Sent, Got, Yield}
use Rattle.ira_event.specs.declared.log_line.LogLine.{LogLine}
use Rattle.ira_event.specs.declared.log_line.LogLine.TheVariants.{Record, End}
use Rattle.ira_event.specs.declared.log_line.LineWord.{LineWord}
use Rattle.ira_event.specs.declared.log_line.LineWord.TheVariants as word
use Rattle.ira_event.specs.declared.log_head.HeadLines.{HeadLines}

-- the bit at the end of a message's line, and what follows the line
abbrev pub bit_at : List ℕ → Option (Bool × List ℕ)
bit_at text = or (option_map (λ rest. (false, rest)) (after_word (codes " clean\n") text))
    (option_map (λ rest. (true, rest)) (after_word (codes " dirty\n") text))

-- a message to its line's end, and what follows the line
unfoldable pub message_at : List ℕ → Option (Msg × List ℕ)
message_at text = do
  round ← kept_at text
  a ← after_word (codes " ") round.1
  id ← kept_at a
  b ← after_word (codes " ") id.1
  hop ← kept_at b
  dirty ← bit_at hop.1
  Some (record { round = round.0; id = id.0; hop = hop.0; dirty = dirty.0 }, dirty.1)

-- a number to its line's end, and what follows the line
abbrev pub number_line : List ℕ → Option (ℕ × List ℕ)
number_line text = do
  n ← kept_at text
  rest ← after_word (codes "\n") n.1
  Some (n.0, rest)

-- a reset to its line's end, and what follows the line
abbrev pub reset_at : List ℕ → Option (ℕ × List ℕ)
reset_at text = after_word (codes "reset ") text >>= number_line

-- a load to its line's end, and what follows the line
abbrev pub load_at : List ℕ → Option (Load × List ℕ)
load_at text = or (option_map (λ p. (Message p.0, p.1)) (message_at text))
    (option_map (λ p. (Reset p.0, p.1)) (reset_at text))

-- a yield to its line's end, and what follows the line
abbrev pub yield_at : List ℕ → Option (LogLine × List ℕ)
yield_at text = option_map (λ r. (Record Yield, r)) (after_word (codes "yield\n") text)

-- the word before a line's first space, and what follows that
abbrev pub word_at : List ℕ → Option (LineWord × List ℕ)
word_at text =
    then_or (after_word (codes "draw ") text) (λ r. Some (word.Draw, r))
    (then_or (after_word (codes "send ") text) (λ r. Some (word.Send, r))
    (then_or (after_word (codes "recv ") text) (λ r. Some (word.Recv, r))
    (then_or (after_word (codes "end ") text) (λ r. Some (word.End, r)) None)))

-- a record's line or the end line, and what follows it
unfoldable pub line_at : List ℕ → Option (LogLine × List ℕ)
line_at text =
    then_or (after_word (codes "draw ") text) (λ r. option_map (λ p. (Record (Draw p.0), p.1)) (number_line r))
    (then_or (after_word (codes "send ") text) (λ r. option_map (λ p. (Record (Sent p.0), p.1)) (load_at r))
    (then_or (after_word (codes "recv ") text) (λ r. option_map (λ p. (Record (Got p.0), p.1)) (load_at r))
    (then_or (after_word (codes "end ") text) (λ r. option_map (λ p. (End p.0, p.1)) (number_line r)) (yield_at text))))

-- the word for a start kind at its line's end, and what follows the line
abbrev pub start_at : List ℕ → Option (Bool × List ℕ)
start_at text = or (option_map (λ rest. (true, rest)) (after_word (codes "initiator\n") text))
    (option_map (λ rest. (false, rest)) (after_word (codes "passive\n") text))

-- the head's four lines, their numbers of any size, and what follows them
unfoldable pub head_at : List ℕ → Option (HeadLines × List ℕ)
head_at text = do
  v ← after_word (codes "irlog ") text
  version ← kept_at v
  a ← after_word (codes "\nnodes ") version.1
  nodes ← kept_at a
  b ← after_word (codes "\nplace ") nodes.1
  place ← kept_at b
  c ← after_word (codes "\nstart ") place.1
  start ← start_at c
  Some (record { version = version.0; nodes = nodes.0; place = place.0; initiator = start.0 }, start.1)
