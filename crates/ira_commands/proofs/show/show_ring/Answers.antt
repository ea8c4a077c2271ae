use Rattle.std.proofs.Common.{◌∙◌, sym}
use Rattle.std.proofs.lemmas.Slice.Zip.{AllZip-long}
use Rattle.ira_event.specs.LogText.{IsLogText}
use Rattle.ira_commands.proofs.Served.{if_ok}
use Rattle.ira_commands.proofs.Shown.{not_good}
use Rattle.ira_commands.specs.Show.ShowsLogs.{good}
use Rattle.ira_commands.proofs.show.show_ring.Goals as goal

pub show_good-requires : goal.show_good-requires
show_good-requires g c =
    let are = rw c.in-Good.is at c.requires.judged.1 in
    c.requires.judged.2 ∙ sym (AllZip-long IsLogText c.requires.judged.0 c.in-Good.logs are.texts_are)

pub returns-in-Good : goal.returns-in-Good
returns-in-Good g c = λ names texts judged are.
    if_ok c.show_good.result (λ reply shows. good c.in-Good.logs (rw c.in-Good.is at judged) shows) c.show_good.ensures

pub tell_no-requires-clause-judged : goal.tell_no-requires-clause-judged
tell_no-requires-clause-judged g c =
    (c.requires.judged.0, c.requires.judged.1, not_good c.args.judged c.in_default.not-Good)

pub returns-in_default : goal.returns-in_default
returns-in_default g c = λ names texts judged are. c.tell_no.ensures c.args.question.now names texts judged are
