use Rattle.std.proofs.Common.{subst}
use Rattle.std.proofs.lemmas.Option.{get_or_from_slice_get}
use Rattle.ira_commands.proofs.Served.{if_ok}
use Rattle.ira_main.specs.Each.{IsTold}
use Rattle.ira_main.proofs.judge_each.fn.tell_at_once.tell.Goals as goal

pub returns : goal.returns
returns g c =
    let of = c.before.captures in
    if_ok c.tell_folder.result (λ told is folder at.
    subst (λ f. IsTold g.row.A.Denot g.F.TextSource.reads of.asked.form of.asked.expected.now of.asked.detail
    of.asked.is_summed of.shelf.now f told.answer told.text.bytes) (get_or_from_slice_get of.folders.now c.args.i folder _ at) is)
    c.tell_folder.ensures
