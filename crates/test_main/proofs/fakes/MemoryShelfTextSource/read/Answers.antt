use Rattle.std.proofs.Common.{◌++◌}
use Rattle.test_main.proofs.FirstFiles.{file_read}
use Rattle.test_main.proofs.fakes.MemoryShelfTextSource.read.Goals as goal

pub returns-in-Some-clause-read : goal.returns-in-Some-clause-read
returns-in-Some-clause-read g c =
    file_read (c.args.self.now.written ++ c.args.self.now.given) c.args.name.now c.in-Some.bytes.now _ c.new.result
    c.fill.new.input c.fill.result c.in-Some.ensures c.new.ensures c.fill.ensures.text
