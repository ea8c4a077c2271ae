use Rattle.std.proofs.lemmas.Option.{IfSome_then}
use Rattle.test_main.proofs.FirstFiles.{first_after}
use Rattle.test_main.proofs.fakes.MemoryShelf.bytes_of.Goals as goal

pub returns-in-None : goal.returns-in-None
returns-in-None c =
    let files = c.args.self.now in
    IfSome_then c.bytes_given.result c.bytes_given.ensures
    (λ bytes. first_after files.written files.given c.args.name.now bytes.now c.in-None.ensures)
