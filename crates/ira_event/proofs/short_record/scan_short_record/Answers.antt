use Rattle.std.proofs.Common.{◌∙◌, refl, sym, ap}
use Rattle.std.specs.Prelude.{codes}
use Rattle.ira_event.specs.Scan.{after_word}
use Rattle.ira_event.proofs.LineWords.{line-of-word}
use Rattle.ira_event.proofs.Rest.{slice-from}
use Rattle.ira_event.proofs.ShortNumbers.{number-line-there}
use Rattle.ira_event.proofs.short_record.scan_short_record.Goals as goal

pub returns-in_ok-rest-in-Draw-clause-line : goal.returns-in_ok-rest-in-Draw-clause-line
returns-in_ok-rest-in-Draw-clause-line c =
    let text = c.in_ok-word.rest.now in
    let end = c.in_ok-drawn-in-Draw.end in
    let feed = ap (after_word (codes "\n")) (sym (slice-from text end)) ∙ c.in_ok-rest-in-Draw.ensures in
    let number = number-line-there text end c.in_ok-drawn-in-Draw.drawn _ c.in_ok-drawn-in-Draw.ensures.number feed in
    line-of-word c.args.text.now c.in_ok-word.rest.now c.in_ok-word.word c.in_ok-word.ensures
    ∙ rw (c.in-Draw.is, number) refl

pub returns-in_ok-message-in-Send-clause-line : goal.returns-in_ok-message-in-Send-clause-line
returns-in_ok-message-in-Send-clause-line c =
    line-of-word c.args.text.now c.in_ok-word.rest.now c.in_ok-word.word c.in_ok-word.ensures
    ∙ rw (c.in-Send.is, c.in_ok-message-in-Send.ensures.message) refl

pub returns-in_ok-message-in-Recv-clause-line : goal.returns-in_ok-message-in-Recv-clause-line
returns-in_ok-message-in-Recv-clause-line c =
    line-of-word c.args.text.now c.in_ok-word.rest.now c.in_ok-word.word c.in_ok-word.ensures
    ∙ rw (c.in-Recv.is, c.in_ok-message-in-Recv.ensures.message) refl
