use Rattle.std.proofs.Common.{◌≡◌, ◌+◌, ◌-◌, ◌≤◌, true, false, take, length, cond}
use Rattle.std.specs.Io.KnownBytes.{Consumes, IsAtEnd}
use Rattle.ira_event.specs.Limits.{MAX_TEXT}
use Rattle.ira_main_files.proofs.read_text.read_text.Given as goal

-- a reader that isn't over may be read once without a byte
abbrev pub invariant-loop-input : goal.invariant-loop-input
invariant-loop-input g l = record {
  filled : l.filled ≤ length l.buffer.items;
  size : length l.buffer.items ≤ MAX_TEXT + 1;
  bytes : Consumes l.fn.input.left l.input.left (take l.filled l.buffer.items);
  reads : l.input.reads + cond l.input.is_over 0 1 ≤ l.fn.input.reads + cond l.fn.input.is_over 0 1 + l.filled;
  over : l.input.is_over ≡ true → l.filled ≤ MAX_TEXT;
  fine : l.fn.input.has_failed ≡ false → l.input.has_failed ≡ false;
  end : l.fn.input.is_over ≡ false → l.input.is_over ≡ true → IsAtEnd l.input.left;
}

abbrev pub decreases-loop-input : goal.decreases-loop-input
decreases-loop-input g l = cond l.input.is_over 0 1 + (MAX_TEXT + 1 - l.filled)
