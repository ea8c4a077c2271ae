use Rattle.std.proofs.Common.{refl}
use Rattle.ira_audit.specs.RingAnswer.{yes}
use Rattle.ira_mend.proofs.MendedRuns.{runs_mended}
use Rattle.ira_mend.proofs.laws.mended_runs_are_runs.Goals as goal

pub returns-clause-runs : goal.returns-clause-runs
returns-clause-runs c = λ whole left mended cut logs order runs are is.
    runs_mended whole left mended cut are is logs order runs

pub returns-clause-answer : goal.returns-clause-answer
returns-clause-answer c = λ whole left mended cut texts logs order runs are is texts_are.
    let r = runs_mended whole left mended cut are is logs order runs in
    yes mended (record { texts_are = texts_are; are_good = record { ring = r.0; order = r.1; runs = r.2 } }) refl
