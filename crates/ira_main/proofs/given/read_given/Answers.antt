use Rattle.std.proofs.Common.{◌++◌, None, inl, inr, rules}
use Rattle.ira_main.proofs.FilesRead.{reads_many, reads_more, stops_back, stops_front}
use Rattle.ira_main.specs.Given.{named, question_file}
use Rattle.ira_main.proofs.given.read_given.Goals as goal

pub returns-in-Err : goal.returns-in-Err
returns-in-Err g c = inl (rw c.in-Err.is at c.in_ok-names.ensures)

pub returns-in-Some : goal.returns-in-Some
returns-in-Some g c = inr (
  _,
  rw c.in-Ok.is at c.in_ok-names.ensures,
  inl (
    _,
    rw (c.in-Some.is, c.deref.ensures.value, c.question_file-question_file.ensures)
        at c.overwritten_input.ensures,
    search rules,
  ),
)

pub returns-in-Err-2 : goal.returns-in-Err-2
returns-in-Err-2 g c =
    let reads = g.F.TextSource.reads in
    let shelf = c.args.shelf.now in
    let asked = named (question_file c.args.inputs.question) in
    let certified = named c.args.inputs.certificate in
    let stop = stops_front reads shelf _ asked certified
    (rw (c.in-Err-2.is, c.question_file-question_file.ensures) at c.in_ok-text.ensures) in
    inr (_, rw c.in-Ok.is at c.in_ok-names.ensures, inr (stops_front reads shelf _ (asked ++ certified) _ stop))

pub returns-in-Err-3 : goal.returns-in-Err-3
returns-in-Err-3 g c =
    let reads = g.F.TextSource.reads in
    let shelf = c.args.shelf.now in
    let asked = named (question_file c.args.inputs.question) in
    let certified = named c.args.inputs.certificate in
    let stop = stops_back reads shelf _ asked _ certified
    (rw (c.in-Ok-2.is, c.question_file-question_file.ensures) at c.in_ok-text.ensures) (rw c.in-Err-3.is at c.in_ok-text-2.ensures) in
    inr (_, rw c.in-Ok.is at c.in_ok-names.ensures, inr (stops_front reads shelf _ (asked ++ certified) _ stop))

pub returns-in-Ok-4 : goal.returns-in-Ok-4
returns-in-Ok-4 g c =
    let reads = g.F.TextSource.reads in
    let shelf = c.args.shelf.now in
    let asked = named (question_file c.args.inputs.question) in
    let certified = named c.args.inputs.certificate in
    let both = reads_more reads shelf asked _ certified _ None
    (rw (c.in-Ok-2.is, c.question_file-question_file.ensures) at c.in_ok-text.ensures) (rw c.in-Ok-3.is at c.in_ok-text-2.ensures) in
    let taken = rw (c.in-Ok-4.is, c.deref-2.ensures.value) at c.in_ok-logs.ensures in
    record {
      names_are = rw c.in-Ok.is at c.in_ok-names.ensures;
      kept = rw (c.in_default.is, c.deref.ensures.value, c.question_file-question_file.ensures)
          at c.overwritten_input.ensures;
      texts = taken.0;
      many = reads_many reads shelf _ taken.0 taken.2;
      found = taken.1;
      all = reads_more reads shelf (asked ++ certified) _ _ taken.0 None both taken.2;
    }

pub returns-in-Err-4 : goal.returns-in-Err-4
returns-in-Err-4 g c =
    let reads = g.F.TextSource.reads in
    let shelf = c.args.shelf.now in
    let asked = named (question_file c.args.inputs.question) in
    let certified = named c.args.inputs.certificate in
    let both = reads_more reads shelf asked _ certified _ None
    (rw (c.in-Ok-2.is, c.question_file-question_file.ensures) at c.in_ok-text.ensures) (rw c.in-Ok-3.is at c.in_ok-text-2.ensures) in
    let stop = rw (c.in-Err-4.is, c.deref-2.ensures.value) at c.in_ok-logs.ensures in
    inr (_, rw c.in-Ok.is at c.in_ok-names.ensures, inr (stops_back reads shelf _ (asked ++ certified) _ _ both stop))
