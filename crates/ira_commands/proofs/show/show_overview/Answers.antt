use Rattle.ira_commands.proofs.Served.{if_ok}
use Rattle.ira_commands.proofs.Shown.{not_good}
use Rattle.ira_commands.specs.Show.ShowsGood.{no_moment, shown}
use Rattle.ira_commands.specs.Show.ShowsLogs.{good}
use Rattle.ira_view.specs.Texts.{texts_of}
use Rattle.ira_commands.proofs.show.show_overview.Goals as goal

pub returns-in-Ok : goal.returns-in-Ok
returns-in-Ok g c = λ names texts files.
    let are = rw (files.texts_are, c.in-Good.is) at c.requires in
    if_ok c.tell_both.result (λ both told. (
      good c.in-Good.logs are (shown c.in-Ok.ring c.in-Ok.ensures told.0),
      good c.in-Good.logs are (shown c.in-Ok.ring c.in-Ok.ensures told.1),
    )) c.tell_both.ensures

pub returns-in_ok-tell_fault-in-Err : goal.returns-in_ok-tell_fault-in-Err
returns-in_ok-tell_fault-in-Err g c = λ names texts files.
    let are = rw (files.texts_are, c.in-Good.is) at c.requires in (
      good c.in-Good.logs are (no_moment c.in-Err.fault c.in-Err.ensures c.in_ok-picture-in-Err.ensures),
      good c.in-Good.logs are (no_moment c.in-Err.fault c.in-Err.ensures c.in_ok-tell_fault-in-Err.ensures),
    )

pub tell_no-requires-clause-judged : goal.tell_no-requires-clause-judged
tell_no-requires-clause-judged g c =
    (texts_of c.args.files.now, c.requires, not_good c.args.judged c.in_default.not-Good)

pub tell_no-requires-in_default : goal.tell_no-requires-in_default
tell_no-requires-in_default g c = record {
  judged = (texts_of c.args.files.now, c.requires, not_good c.args.judged c.in_default.not-Good);
  files = λ needs. c.requires;
}

pub returns-in_ok-told-in_default : goal.returns-in_ok-told-in_default
returns-in_ok-told-in_default g c = λ names texts files.
    let judged = rw files.texts_are at c.requires in (
      c.in_ok-drawn-in_default.ensures c.args.question.now names texts judged (λ needs. files),
      c.in_ok-told-in_default.ensures c.args.question.now names texts judged (λ needs. files),
    )
