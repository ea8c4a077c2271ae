-- What is printed of a fault.
use Rattle.std.proofs.Common.{◌⊎◌, ℕ, List, Result, Ok, Err, inl, inr}
use Rattle.ira_event.specs.Sink.{SinkState, Wrote, Takes, StopsIn}

-- a text that was written reached the sink whole, or the write of it failed
pub reported : {T E : Type 0} (r : Result T E) (text : List ℕ) (s t : SinkState) → Wrote r text s t
    → Takes text s t ⊎ StopsIn text s t
reported (Ok x) text s t wrote = inl wrote
reported (Err e) text s t wrote = inr wrote
