use Rattle.std.proofs.Common.{List, Ok, refl, ℕ}
use Rattle.std.specs.Borrow.{Bor}
use Rattle.ira_commands.specs.Reply.{IsNoText, MadeFiles}
use Rattle.ira_commands.specs.Reply.MadeFiles.{logs_of, no_files, one_text}
use Rattle.ira_main_files.specs.Shelf.{Writing, writing_by}
use Rattle.ira_main.specs.Delivery.{KeepsText}
use Rattle.ira_main.proofs.delivery.keep_text.Goals as goal

-- where there is no text none is kept
none_kept : (A : Type 0) {S : Type 0} (writes : Writing S) (name : Bor (List ℕ)) (files : MadeFiles) (shelf : S)
    → IsNoText files → KeepsText {A = A} writes name files shelf shelf (Ok tt)
none_kept A writes name no_files shelf none = (refl, refl)
none_kept A writes name (one_text text) shelf none = absurd (none text refl)
none_kept A writes name (logs_of logs) shelf none = (refl, refl)

pub returns-in_default : goal.returns-in_default
returns-in_default g c =
    let writes = writing_by g.F.Shelf.creates g.F.Shelf.closes g.F.Shelf.keeps g.F.Out.Sink.state in
    none_kept _ writes c.args.name _ c.args.shelf.now (rw c.in_default.is at c.text.ensures)

pub returns-in-Ok : goal.returns-in-Ok
returns-in-Ok g c = rw (rw c.in-Some.is at c.text.ensures) c.in-Ok.ensures

pub returns-in-Err : goal.returns-in-Err
returns-in-Err g c =
    rw (rw c.in-Some.is at c.text.ensures) (c.in-Err.fault, c.in-Err.ensures, c.cannot_write.ensures)
