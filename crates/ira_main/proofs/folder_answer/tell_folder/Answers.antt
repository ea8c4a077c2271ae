use Rattle.std.proofs.Common.{◌∙◌, Err, ap, subst, sym}
use Rattle.ira_commands.proofs.Served.{if_ok}
use Rattle.ira_main.proofs.FilesRead.{reads_many}
use Rattle.ira_main.specs.Each.IsTold.{judged, unread}
use Rattle.ira_main.specs.FolderText.{IsFolderText}
use Rattle.ira_main.proofs.folder_answer.tell_folder.Goals as goal

pub tell_read-requires : goal.tell_read-requires
tell_read-requires g c =
    let taken = (rw c.in-Ok.is at c.in_ok-read.ensures).2 in
    (taken.0, taken.1, reads_many g.F.TextSource.reads c.args.shelf.now _ taken.0 taken.2)

pub returns-in-Ok : goal.returns-in-Ok
returns-in-Ok g c =
    let had = rw c.in-Ok.is at c.in_ok-read.ensures in
    let taken = had.2 in
    if_ok c.tell_read.result (λ told is. judged _ _ taken.0 had.0 had.1 taken.2 is) (c.tell_read.ensures taken.0 taken.1)

pub returns-in_ok-clone-in-Err : goal.returns-in_ok-clone-in-Err
returns-in_ok-clone-in-Err g c =
    let why = rw c.in-Err.is at c.in_ok-read.ensures in
    if_ok c.told.result (λ it is. unread _ why (is.0 ∙ ap (λ name. Err name) c.into_name.ensures)
    (subst (λ answer. IsFolderText c.args.asked.form c.args.folder.now answer it.text.bytes) (sym is.0) is.1))
    c.told.ensures
