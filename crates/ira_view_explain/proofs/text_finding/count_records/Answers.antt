use Rattle.std.proofs.Common.{◌∙◌, ◌++◌, ◌∷◌, [], refl}
use Rattle.ira_event.proofs.LogReading.{after_more, after_nothing, record_shorter, was_read}
use Rattle.ira_view_explain.proofs.Reading.{fault_after, opened_not}
use Rattle.ira_view_explain.proofs.text_finding.count_records.Goals as goal
use Rattle.ira_view_explain.proofs.text_finding.count_records.Goals.{in_default, in_default-2}

pub loop-init : goal.loop-init
loop-init c = record {
  events = [];
  read = after_nothing c.in-Ok.records.rest c.in-Ok.records refl c.in-Ok.ensures.2;
  version = refl;
}

pub loop-smaller : goal.loop-smaller
loop-smaller c =
    record_shorter c.loop.records c.next_event.new.self c.in-Ok-Some.field-0-0
    (was_read _ _ _ _ c.in-Ok-Some.ensures c.in-Ok-Some.field-0-is)

pub loop-preserved : goal.loop-preserved
loop-preserved c =
    let read = was_read _ _ _ _ c.in-Ok-Some.ensures c.in-Ok-Some.field-0-is in
    record {
      events = c.loop.invariant.events ++ c.in-Ok-Some.field-0-0 ∷ [];
      read = after_more _ _ _ _ _ c.loop.invariant.read read;
      version = read.version ∙ c.loop.invariant.version;
    }

pub returns-after-next_event-clause-fault : goal.returns-after-next_event-clause-fault
returns-after-next_event-clause-fault c = λ f fault opened.
    let before = c.loop.invariant in
    let opening = c.in-Ok.ensures in
    rw c.count.ensures.value (fault_after c.args.file.now.text.now c.in-Ok.field-0-0 c.in-Ok.records.rest before.events
    c.loop.records c.next_event.new.self c.next_event.result f opening.0 opening.1 before.read
    (before.version ∙ opening.3) c.next_event.ensures (λ e same. elim c.match-next_event.branch [
      | in_default w ↦ absurd (let is = w.in_default.is in cc)
      | in_default-2 w ↦ absurd (let is = w.in_default.is in cc)
    ]) fault)

pub returns-in-Err-clause-fault : goal.returns-in-Err-clause-fault
returns-in-Err-clause-fault c = λ f fault opened.
    absurd (opened_not c.args.file.now.text.now f c.in-Err.field-0 c.in-Err.ensures fault opened)
