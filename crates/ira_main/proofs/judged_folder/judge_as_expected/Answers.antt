use Rattle.std.proofs.Common.{◌∙◌, refl, subst, sym}
use Rattle.ira_audit.proofs.Judging.{refused_reason}
use Rattle.ira_audit.proofs.TextRuns.{yes_runs}
use Rattle.ira_audit.specs.Refusal.{IsLogsReason}
use Rattle.ira_audit.specs.RingAnswer.IsRingAnswer.{yes}
use Rattle.ira_audit.specs.declared.answer.Answer.TheVariants.{Yes}
use Rattle.ira_main.specs.JudgedFolder.IsJudgedOf.{good, no}
use Rattle.ira_main.proofs.judged_folder.judge_as_expected.Goals as goal
use Rattle.ira_main.proofs.judged_folder.judge_as_expected.Goals.{in-NoRing, in-Refused}

pub returns-in-Good : goal.returns-in-Good
returns-in-Good g c = λ texts judged.
    let logs = c.in-Good.logs in
    let are = rw c.in-Good.is at judged in
    let runs = yes_runs texts Yes (yes logs are refl) refl in
    good logs _ _ are runs c.in_ok-unmet-in-Good.ensures c.in_ok-features-in-Good.ensures refl

pub returns : goal.returns
returns g c = λ texts judged. elim c.match-judged.branch [
  | in-Refused w ↦
      let is = rw w.in-Refused.is at judged in
      no _ (subst (IsLogsReason texts) (sym (w.reason-is ∙ w.reason-reason.ensures.value))
      (refused_reason texts w.in-Refused.refused is.0 is.1)) refl
  | in-NoRing w ↦
      let is = rw w.in-NoRing.is at judged in no _ (subst (IsLogsReason texts) (sym w.reason-is) (is.0, is.2)) refl
]
