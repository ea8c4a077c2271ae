-- How a receipt differs from its sending.
use Rattle.std.specs.Prelude.{◌≡◌, ◌≢◌, ◌⊎◌, ℕ, ◌+◌, ◌≤◌, List, Some, length, slice_get}
use Rattle.ira_event.specs.declared.msg.Msg.{Msg}
use Rattle.ira_event.specs.declared.load.Load.{Load}
use Rattle.ira_event.specs.declared.load.Load.TheVariants.{Msg as Message, Reset}
use Rattle.ira_view_evidence.specs.declared.load_difference.FieldPair.{FieldPair}
use Rattle.ira_view_evidence.specs.declared.load_difference.FieldPair.TheVariants.{RoundAndId, RoundAndHop, IdAndHop}
use Rattle.ira_view_evidence.specs.declared.load_difference.LoadField.{LoadField}
use Rattle.ira_view_evidence.specs.declared.load_difference.LoadField.TheVariants.{Round, Id, Hop, Bit}
use Rattle.ira_view_evidence.specs.declared.load_difference.LoadDifference.{LoadDifference}
use Rattle.ira_view_evidence.specs.declared.load_difference.LoadDifference.TheVariants.{RaisedHop, LoweredHop, OneField, Exchanged}

-- the one message with this field of the other
abbrev pub with_field : LoadField → Msg → Msg → Msg
with_field Round m other = record m { round = other.round }
with_field Id m other = record m { id = other.id }
with_field Hop m other = record m { hop = other.hop }
with_field Bit m other = record m { dirty = other.dirty }

-- the second load is the first with the hop raised by one
abbrev pub IsRaised : Load → Load → Type 0
IsRaised (Message m) (Message n) = n ≡ record m { hop = m.hop + 1 }
IsRaised (Reset h) (Reset g) = g ≡ h + 1
IsRaised (Message m) (Reset g) = ⊥
IsRaised (Reset h) (Message n) = ⊥

-- the second load is another one than the first, but only in this field
abbrev pub IsOtherIn : LoadField → Load → Load → Type 0
IsOtherIn field (Message m) (Message n) = (n ≡ with_field field m n) × (m ≢ n)
IsOtherIn Hop (Reset h) (Reset g) = h ≢ g
IsOtherIn field a b = ⊥

-- the message with these two fields exchanged
abbrev pub exchanged : FieldPair → Msg → Msg
exchanged RoundAndId m = record m { round = m.id; id = m.round }
exchanged RoundAndHop m = record m { round = m.hop; hop = m.round }
exchanged IdAndHop m = record m { id = m.hop; hop = m.id }

-- the second load is another one than the first: the same with these two fields exchanged
abbrev pub IsExchanged : FieldPair → Load → Load → Type 0
IsExchanged pair (Message m) (Message n) = (n ≡ exchanged pair m) × (m ≢ n)
IsExchanged pair a b = ⊥

-- the receipt differs so from the sending
abbrev pub DiffersBy : LoadDifference → Load → Load → Type 0
DiffersBy RaisedHop sending receipt = IsRaised sending receipt
DiffersBy LoweredHop sending receipt = IsRaised receipt sending
DiffersBy (OneField field) sending receipt = IsOtherIn field sending receipt
DiffersBy (Exchanged pair) sending receipt = IsExchanged pair sending receipt

-- each receipt has a sending, and is of its load or differs from it so
pub record DifferAlike (how : LoadDifference) (sent received : List Load) : Type 0 where
  pub each_is_sent : length received ≤ length sent
  pub alike : (i : ℕ) (sending receipt : Load) → slice_get sent i ≡ Some sending → slice_get received i ≡ Some receipt
      → (receipt ≡ sending) ⊎ DiffersBy how sending receipt
