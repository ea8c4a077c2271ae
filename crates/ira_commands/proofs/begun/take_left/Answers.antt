use Rattle.std.proofs.Common.{arith, subst, take}
use Rattle.std.proofs.lemmas.List.{length-map, take_all}
use Rattle.ira_audit.proofs.LogTexts.{next_taken}
use Rattle.ira_mend.specs.RecordedLogs.{HasRecorded}
use Rattle.ira_view_page.specs.declared.named_text.NamedText.{NamedText}
use Rattle.ira_view.proofs.Texts.{text_at}
use Rattle.ira_view.specs.Texts.{texts_of}
use Rattle.ira_commands.proofs.begun.take_left.Goals as goal

pub loop-file-preserved : goal.loop-file-preserved
loop-file-preserved g c =
    let texts = texts_of c.args.texts.now in
    let i = c.loop-file.file-index in
    let at = text_at c.args.texts.now i _ c.loop-file-test.true in
    record {
      within = omega arith;
      taken = subst (HasRecorded c.take.new.self) (next_taken texts i _ at)
          (c.in_ok-take.ensures.ok (take i texts) c.loop-file.invariant.taken);
    }

pub returns : goal.returns
returns g c =
    let texts = texts_of c.args.texts.now in
    let all = take_all c.loop-file.file-index texts
    (omega (arith, length-map c.args.texts.now (λ (file : NamedText). file.text.now), c.loop-file-test.false)) in
    subst (HasRecorded c.loop-file.recorded) all c.loop-file.invariant.taken
