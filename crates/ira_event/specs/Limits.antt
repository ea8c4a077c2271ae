-- The limits of logs and of texts.
use Rattle.std.specs.Prelude.{ℕ}

-- the most nodes that a ring has
abbrev pub MAX_NODES : ℕ
MAX_NODES = 255

-- the most nodes of a ring whose logs are of version 1
abbrev pub MAX_VERSION_1_NODES : ℕ
MAX_VERSION_1_NODES = 64

-- the greatest version of a log; the least is 1
abbrev pub MAX_VERSION : ℕ
MAX_VERSION = 2

-- the largest round, ID, hop and draw that a record holds, and the last term
abbrev pub MAX_NUMBER : ℕ
MAX_NUMBER = 1000000

-- the most records that a log has
abbrev pub MAX_RECORDS : ℕ
MAX_RECORDS = 100000

-- the most bytes that a text has: 64 MiB
abbrev pub MAX_TEXT : ℕ
MAX_TEXT = 67108864

-- the most bytes that a piece of a text has which is put together before it is written
abbrev pub MAX_LINE : ℕ
MAX_LINE = 128
