use Rattle.std.proofs.Common.{◌++◌, refl}
use Rattle.ira_audit.specs.LogTextAnswer.{no_log}
use Rattle.ira_audit.proofs.Replaying.{exactly, log_reportable, of_log, text_fault_other}
use Rattle.ira_audit.proofs.log_audit.LogAudit.finish.Goals as goal

pub returns-in-Ok-clause-answer : goal.returns-in-Ok-clause-answer
returns-in-Ok-clause-answer c = λ text a taken.
    let h = c.in-Ok.ensures text taken in
    exactly (text ++ c.args.rest.now) c.in-Ok.answer (of_log _ h.0 c.in-Ok.answer h.1 h.2) a

pub returns-in-Ok-clause-reportable : goal.returns-in-Ok-clause-reportable
returns-in-Ok-clause-reportable c = λ text taken. let h = c.in-Ok.ensures text taken in
    log_reportable h.0 c.in-Ok.answer h.2

pub returns-in-Err-clause-answer : goal.returns-in-Err-clause-answer
returns-in-Err-clause-answer c =
    λ text a taken. exactly (text ++ c.args.rest.now) _ (no_log c.in-Err.fault (c.in-Err.ensures text taken) refl) a

pub returns-in-Err-clause-reportable : goal.returns-in-Err-clause-reportable
returns-in-Err-clause-reportable c =
    λ text taken. text_fault_other (text ++ c.args.rest.now) c.in-Err.fault (c.in-Err.ensures text taken)
