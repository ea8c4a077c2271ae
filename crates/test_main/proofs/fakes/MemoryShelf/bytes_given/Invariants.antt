use Rattle.std.proofs.Common.{◌≢◌, All, take}
use Rattle.test_main.proofs.fakes.MemoryShelf.bytes_given.Given as goal

abbrev pub invariant-loop-i : goal.invariant-loop-i
invariant-loop-i l = All (λ file. file.name ≢ l.name) (take l.i l.self.given)
