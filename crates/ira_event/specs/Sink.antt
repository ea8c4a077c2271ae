-- What a sink takes of a text, and how it fails.
use Rattle.std.specs.Prelude.{◌≡◌, ℕ, ◌+◌, ◌-◌, ◌^◌, List, ◌++◌, length, min, Option, Result, Ok, Err, if◌then◌else◌}
use Rattle.std.specs.Prelude.{nat_eq, nat_lt, ◌&&◌}
use Rattle.std.specs.Io.KnownBytes.{Appends}

-- what a sink in memory has taken, and how often it has failed, up to the last u64
pub record Memory : Type 0 where
  pub bytes : List ℕ
  pub failures : ℕ

-- the writer that a sink hands on to, and how often it has failed
pub record Passing (W : Type 0) : Type 0 where
  pub writer : W
  pub failures : ℕ

-- what a sink has taken, where it tells it, and how often it has failed; the last u64 stands for itself and everything
-- above
pub record SinkState : Type 0 where
  pub taken : Option (List ℕ)
  pub failures : ℕ

-- the state of a sink that hands on to a writer whose contents this function tells
abbrev pub passing_state : {W : Type 0} → (W → Option (List ℕ)) → Passing W → SinkState
passing_state contents sink = record { taken = contents sink.writer; failures = sink.failures }

-- one failure more; the count stops at the last u64
abbrev pub one_more : ℕ → ℕ
one_more n = min (n + 1) (2 ^ 64 - 1)

-- how often a sink has failed after a push of these bytes
abbrev pub failures_after : {E : Type 0} → Result ℕ E → List ℕ → ℕ → ℕ
failures_after (Ok n) bytes failures = if nat_eq n 0 && nat_lt 0 (length bytes) then one_more failures else failures
failures_after (Err e) bytes failures = one_more failures

-- the sink took the whole text, and its count of failures stayed
pub record Takes (text : List ℕ) (old new : SinkState) : Type 0 where
  pub took : Appends old.taken new.taken text
  pub same : new.failures ≡ old.failures

-- the sink took a first part of the text, and its count shows one failure more
pub record StopsIn (text : List ℕ) (old new : SinkState) : Type 0 where
  pub front : List ℕ
  pub back : List ℕ
  pub parts : front ++ back ≡ text
  pub took : Appends old.taken new.taken front
  pub failed : new.failures ≡ one_more old.failures

-- what a writer of the text does: Ok means that the sink took exactly the text, Err comes only where
-- the sink failed, and then it took a first part of the text
abbrev pub Wrote : {T E : Type 0} → Result T E → List ℕ → SinkState → SinkState → Type 0
Wrote (Ok _) text old new = Takes text old new
Wrote (Err _) text old new = StopsIn text old new
