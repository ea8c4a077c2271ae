use Rattle.std.proofs.Common.{◌≢◌, inl, inr, rules}
use Rattle.ira_event.specs.declared.log_fault.LogFault.TheVariants.{Head, OutOfMemory}
use Rattle.ira_mend.proofs.recorded_log.RecordedLog.of_text.Goals as goal

pub returns-in-Err : goal.returns-in-Err
returns-in-Err g c =
    let f = c.in-Err.fault in
    let full : f ≢ OutOfMemory = search rules in
    let head : f ≢ Head = search rules in
    elim c.in-Err.ensures [
      | inl refused ↦ absurd (full refused)
      | inr bad ↦ (bad.0, bad.1, λ e. absurd (head e))
    ]
