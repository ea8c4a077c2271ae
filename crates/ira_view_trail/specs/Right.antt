-- Helpers, no definitions: what is looked at of columns that were found.
use Rattle.std.specs.Prelude.{◌≡◌, ℕ, ◌<◌, ◌≤◌, List, Option, Some, length, slice_get, slice_index, take}
use Rattle.std.specs.List.{filter_map}
use Rattle.ira_event.specs.declared.event.Event.{Event}
use Rattle.ira_event.specs.declared.load.Load.{Load}
use Rattle.ira_event.specs.Log.{Log}
use Rattle.ira_order.specs.Matching.{receipt, sending}
use Rattle.ira_order.specs.Order.{IsPair}
use Rattle.ira_order.specs.Ring.{log_of, next}
use Rattle.ira_view_trail.specs.declared.right.End.{End}
use Rattle.ira_view_trail.specs.declared.right.End.TheVariants.{Receipts, Sendings}
use Rattle.ira_view_trail.specs.Columns.{Columns, column_of}

-- a node's columns rise, those of the events that are held left of the line and all others right of it
pub record IsRow (events held line : ℕ) (row : List ℕ) : Type 0 where
  pub count : length row ≡ events
  pub first : (k : ℕ) → k < length row → 1 ≤ slice_index row k
  pub rise : (k h : ℕ) → k < h → h < length row → slice_index row k < slice_index row h
  pub inside : (k : ℕ) → k < length row → k < held → slice_index row k < line
  pub outside : (k : ℕ) → k < length row → held ≤ k → line < slice_index row k

-- so do those of each node
pub record AreRows (logs : List Log) (cut : List ℕ) (line : ℕ) (table : List (List ℕ)) : Type 0 where
  pub places : length table ≡ length logs
  pub each : (i : ℕ) (row : List ℕ) → slice_get table i ≡ Some row
      → IsRow (length (log_of logs i)) (slice_index cut i) line row

-- each node has one for each event
pub record HasRows (logs : List Log) (table : List (List ℕ)) : Type 0 where
  pub places : length table ≡ length logs
  pub each : (i : ℕ) (row : List ℕ) → slice_get table i ≡ Some row → length row ≡ length (log_of logs i)

-- what an event sends or receives
abbrev pub load_at : End → Event → Option Load
load_at Sendings = sending
load_at Receipts = receipt

-- the columns of those of the first n events that send, or receive, one after the other
pub record HasPicked (h : Event → Option Load) (events : List Event) (row : List ℕ) (n : ℕ) (picked : List ℕ)
    : Type 0 where
  pub count : length picked ≡ length (filter_map h (take n events))
  pub each :
      (a : ℕ) (e : Event) (m : Load) → a < n → slice_get events a ≡ Some e → h e ≡ Some m
      → slice_index picked (length (filter_map h (take a events))) ≡ slice_index row a

-- each receipt of the link is right of its sending
abbrev pub IsLinkRight : List Log → Columns → ℕ → Type 0
IsLinkRight logs columns i = (a b : ℕ) → IsPair logs i a b
    → column_of columns i a < column_of columns (next (length logs) i) b

-- of each link
abbrev pub AreLinksRight : List Log → Columns → Type 0
AreLinksRight logs columns = (i : ℕ) → i < length logs → IsLinkRight logs columns i
