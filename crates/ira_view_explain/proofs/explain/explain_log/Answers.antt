use Rattle.std.proofs.Common.{◌≡◌, ◌≢◌, refl, rules, subst}
use Rattle.std.specs.Prelude.{Err, Ok, Result}
use Rattle.ira_event.proofs.Unless.{unless_err, unless_ok}
use Rattle.ira_event.specs.Log.{Log}
use Rattle.ira_event.specs.Result.{UnlessErr}
use Rattle.ira_event.specs.declared.log_fault.LogFault.{LogFault}
use Rattle.ira_event.specs.declared.log_fault.LogFault.TheVariants.{OutOfMemory}
use Rattle.ira_audit.specs.LogTextAnswer.{no_log, stopped, yes}
use Rattle.ira_view_explain.proofs.explain.explain_log.Goals as goal

-- what is said of a result that is this one, where it doesn't say that memory ran out
said_of_err : (P : Type 0) (r : Result Log LogFault) (f : LogFault) → r ≡ Err f → f ≢ OutOfMemory
    → UnlessErr r OutOfMemory P → P
said_of_err P r f is other h =
    unless_err f OutOfMemory P other (subst (λ (s : Result Log LogFault). UnlessErr s OutOfMemory P) is h)

said_of_ok : (P : Type 0) (r : Result Log LogFault) (log : Log) → r ≡ Ok log → UnlessErr r OutOfMemory P → P
said_of_ok P r log is h =
    unless_ok log OutOfMemory P (subst (λ (s : Result Log LogFault). UnlessErr s OutOfMemory P) is h)

pub explain_text-requires : goal.explain_text-requires
explain_text-requires g c =
    let fault = c.in-Err.fault in
    let other : fault ≢ OutOfMemory = search rules in
    (said_of_err _ c.read_log.result fault c.in-Err.is other (c.read_log.ensures.err fault)).0 c.in-Err.is

pub returns-in-Err : goal.returns-in-Err
returns-in-Err g c =
    let fault = c.in-Err.fault in
    let other : fault ≢ OutOfMemory = search rules in
    record {
      answer = no_log fault ((said_of_err _ c.read_log.result fault c.in-Err.is other (c.read_log.ensures.err fault)).0
          c.in-Err.is) refl;
      reportable = other;
      ring = c.in_ok-explain_text-in-Err.ensures.ring;
      told = (c.in_ok-explain_text-in-Err.ensures.state, c.in_ok-explain_text-in-Err.ensures.told);
    }

pub returns-in-Ok-replay-clause-answer : goal.returns-in-Ok-replay-clause-answer
returns-in-Ok-replay-clause-answer g c =
    let log = c.in-Ok.log in
    let text = (said_of_ok _ c.read_log.result log c.in-Ok.is (c.read_log.ensures.ok log)).0 c.in-Ok.is in
    yes log text (c.in-Ok-replay.end, (c.replay.ensures.ok c.in-Ok-replay.end).0 c.in-Ok-replay.is) refl

pub returns-clause-answer : goal.returns-clause-answer
returns-clause-answer g c =
    let log = c.in-Ok.log in
    let text = (said_of_ok _ c.read_log.result log c.in-Ok.is (c.read_log.ensures.ok log)).0 c.in-Ok.is in
    let f = c.in-Err-replay.field-0 in
    stopped log f text ((c.replay.ensures.err f).0 c.in-Err-replay.is) (rw c.place-place.ensures.value refl)

pub returns-clause-told : goal.returns-clause-told
returns-clause-told g c =
    let log = c.in-Ok.log in
    let text = (said_of_ok _ c.read_log.result log c.in-Ok.is (c.read_log.ensures.ok log)).0 c.in-Ok.is in
    (log, text, c.in_ok-explain_stopped-in-Err-replay.ensures.told)
