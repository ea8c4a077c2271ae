use Rattle.std.proofs.Common.{refl}
use Rattle.ira_audit.proofs.Judging.{refused_reason}
use Rattle.ira_audit.proofs.TextRuns.{yes_runs}
use Rattle.ira_audit.specs.RingAnswer.IsRingAnswer.{yes}
use Rattle.ira_audit.specs.declared.answer.Answer.TheVariants.{Yes}
use Rattle.ira_view.specs.Texts.{texts_of}
use Rattle.ira_commands.proofs.Served.{if_ok}
use Rattle.ira_commands.specs.ExplainExpected.ExplainsExpected.{good, no}
use Rattle.ira_commands.proofs.explain_expected.explain_expected.Goals as goal

pub returns-in-Words : goal.returns-in-Words
returns-in-Words g c =
    let texts = texts_of c.args.files.now in
    let are = rw c.in-Good.is at c.requires in
    let runs = yes_runs texts Yes (yes c.in-Good.logs are refl) refl in
    if_ok c.tell_explained.result (λ reply told. good c.in-Good.logs are runs (rw c.in-Words.is told)) c.tell_explained.ensures

pub returns-in-Json : goal.returns-in-Json
returns-in-Json g c =
    let texts = texts_of c.args.files.now in
    let are = rw c.in-Good.is at c.requires in
    let runs = yes_runs texts Yes (yes c.in-Good.logs are refl) refl in
    if_ok c.tell_expected.result
    (λ reply told. good c.in-Good.logs are runs (rw c.in-Json.is (rw c.in-Json.is at told))) c.tell_expected.ensures

pub returns-in-Refused : goal.returns-in-Refused
returns-in-Refused g c =
    let texts = texts_of c.args.files.now in
    let is = rw c.in-Refused.is at c.requires in
    let reason = refused_reason texts _ is.0 is.1 in
    if_ok c.explain_all.result (λ reply told. no _ reason told) c.explain_all.ensures

pub returns-in-NoRing : goal.returns-in-NoRing
returns-in-NoRing g c =
    let reason = rw c.in-NoRing.is at c.requires in
    if_ok c.explain_all-in-NoRing.result (λ reply told. no _ (reason.0, reason.2) told) c.explain_all-in-NoRing.ensures
