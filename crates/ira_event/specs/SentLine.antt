-- Helpers, no definitions: the lines that a message has in the logs of its sender and of its receiver.
use Rattle.std.specs.Prelude.{◌≡◌, ℕ, ◌+◌, List, ◌++◌, codes}
use Rattle.ira_event.specs.declared.msg.Msg.{Msg}
use Rattle.ira_event.specs.LogText.{IsMessage}

-- the line of the message after this word, with its line feed
abbrev pub IsLineOf : List ℕ → List ℕ → Msg → Type 0
IsLineOf word line m = (text : List ℕ) × (line ≡ word ++ text ++ codes "\n") × IsMessage text m

-- the line of a message's receipt
abbrev pub IsReceiptLine : List ℕ → Msg → Type 0
IsReceiptLine line m = IsLineOf (codes "recv ") line m

-- the line of its sending
abbrev pub IsSendingLine : List ℕ → Msg → Type 0
IsSendingLine line m = IsLineOf (codes "send ") line m

-- the message after one more link
abbrev pub passed_on : Msg → Msg
passed_on m = record { round = m.round; id = m.id; hop = m.hop + 1; dirty = m.dirty }
