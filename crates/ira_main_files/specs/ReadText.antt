-- The text that a reader gives, read by read.
use Rattle.std.specs.Prelude.{◌≡◌, ℕ, ◌<◌, ◌≤◌, true, false, List, [], length}
use Rattle.std.specs.Io.KnownBytes.{Consumes, IsAtEnd}
use Rattle.ira_main_files.specs.CountingReader.{Reads, one_more}

-- one read gave these bytes, or none at the end, and didn't fail
pub record IsReadOnce (old new : Reads) (bytes : List ℕ) : Type 0 where
  pub given : Consumes old.left new.left bytes
  pub count : new.reads ≡ one_more old.reads
  pub going : new.is_over ≡ false → 0 < length bytes
  pub end : new.is_over ≡ true → (bytes ≡ []) × IsAtEnd new.left
  pub fine : new.has_failed ≡ false

-- the text is what the reader had left, to its end or to the limit, whichever came first; that it goes to the end is
-- said
-- of a reader that wasn't over. No read failed, if none had failed before
pub record IsReadTo (limit : ℕ) (old new : Reads) (text : List ℕ) : Type 0 where
  pub bytes : Consumes old.left new.left text
  pub size : length text ≤ limit
  pub end : old.is_over ≡ false → length text < limit → IsAtEnd new.left
  pub fine : old.has_failed ≡ false → new.has_failed ≡ false
