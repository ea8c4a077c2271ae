use Rattle.std.proofs.Common.{◌≡◌, ℕ, [], sym, subst, inr, refl, ◌∙◌}
use Rattle.std.proofs.lemmas.Result.{err_from_is_err_and}
use Rattle.ira_event.specs.LogTextFault.{RecordsFault}
use Rattle.ira_event.specs.Records.{HasRead}
use Rattle.ira_event.proofs.LogReading.{after_nothing, after_more, after_fault, record_shorter}
use Rattle.ira_mend.specs.RecordedLogs.{HasReadLines}
use Rattle.ira_mend.proofs.RecordedTexts.{lines_read, read_whole}
use Rattle.ira_mend.proofs.recorded_log.read_lines.Goals as goal

pub loop-events-init : goal.loop-events-init
loop-events-init g c =
    let none : c.in_ok-events.events ≡ [] = c.in_ok-events.ensures in
    record {
      read = subst (λ es. HasRead c.args.records.rest es c.args.records) (sym none)
          (after_nothing c.args.records.rest c.args.records refl c.requires);
      version = refl;
    }

pub returns-in_err-event : goal.returns-in_err-event
returns-in_err-event g c =
    let p = err_from_is_err_and c.from_residual-in_err-event.result c.from_residual-in_err-event.ensures.1 in
    let same : p.0 ≡ c.in_err-event.field-0.0 = p.2 in
    rw (p.1, same) (inr (
      subst (λ (v : ℕ). RecordsFault v c.args.records.rest c.in_err-event.field-0.0)
          c.loop-events.invariant.version (after_fault _ _ _ _ c.loop-events.invariant.read c.in_err-event.ensures.0),
      c.in_err-event.ensures.1,
    ))

pub loop-events-smaller : goal.loop-events-smaller
loop-events-smaller g c =
    record_shorter c.loop-events.records c.next_whole_line.new.records c.in-Some.event
    (read_whole _ _ _ _ c.in_ok-event.ensures c.in-Some.is)

pub loop-events-preserved : goal.loop-events-preserved
loop-events-preserved g c =
    let read = read_whole _ _ _ _ c.in_ok-event.ensures c.in-Some.is in
    record {
      read = rw c.in_ok-push.ensures.ok (after_more _ _ _ _ _ c.loop-events.invariant.read read);
      version = read.version ∙ c.loop-events.invariant.version;
    }

pub returns : goal.returns
returns g c =
    subst (λ (v : ℕ). HasReadLines v c.args.records.rest c.loop-events.events) c.loop-events.invariant.version
    (lines_read _ _ _ _ _ c.loop-events.invariant.read c.in_ok-event.ensures c.in_default.is)
