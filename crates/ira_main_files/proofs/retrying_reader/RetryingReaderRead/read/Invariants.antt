use Rattle.std.proofs.Common.{◌≡◌, length}
use Rattle.std.specs.Io.KnownBytes.{Keeps}
use Rattle.ira_main_files.proofs.retrying_reader.RetryingReaderRead.read.Given as goal

abbrev pub invariant-loop : goal.invariant-loop
invariant-loop g l = (length l.buffer ≡ length l.fn.buffer)
    × Keeps (g.I.Read.remaining l.fn.self.reader) (g.I.Read.remaining l.self.reader)
