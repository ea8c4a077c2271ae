use Rattle.std.proofs.Common.{◌≡◌, ◌∙◌, arith, refl}
use Rattle.ira_event.proofs.LogReading.{record_shorter, was_read}
use Rattle.ira_audit.proofs.LogAudits.{begun_more, none_read, suffix_all, suffix_read}
use Rattle.ira_audit.proofs.Replaying.{leads_on, stays_stopped, stops_there}
use Rattle.ira_audit.proofs.partial_replay.PartialReplay.read_on.Goals as goal
use Rattle.ira_audit.proofs.partial_replay.PartialReplay.read_on.Goals.{in-Ok-None, in-Err}

pub loop-event-init : goal.loop-event-init
loop-event-init c = record {
  begun = λ text b. record {
    rest = b.rest;
    head = b.head;
    version = b.version;
    events = b.events;
    read = b.read;
    came = b.came;
  };
  suffix = suffix_all _;
  version = c.requires.version;
}

pub loop-event-smaller : goal.loop-event-smaller
loop-event-smaller c = record_shorter _ _ _ (was_read _ _ _ _ c.in-Ok-Some.ensures c.in-Ok-Some.field-0-is)

pub loop-event-preserved-in-Ok : goal.loop-event-preserved-in-Ok
loop-event-preserved-in-Ok c =
    let r = was_read _ _ _ _ c.in-Ok-Some.ensures c.in-Ok-Some.field-0-is in
    record {
      begun = λ text b. begun_more text _ _ _ _ _ refl r (λ es n h.
          leads_on _ _ _ _ _ _ _ h c.if-is_none.ensures c.in-Ok.ensures.steps) (c.loop-event.invariant.begun text b);
      suffix = suffix_read _ _ _ _ r c.loop-event.invariant.suffix;
      version = r.version ∙ c.loop-event.invariant.version;
    }

pub loop-event-preserved-in-Err-advance : goal.loop-event-preserved-in-Err-advance
loop-event-preserved-in-Err-advance c =
    let r = was_read _ _ _ _ c.in-Ok-Some.ensures c.in-Ok-Some.field-0-is in
    record {
      begun = λ text b. begun_more text _ _ _ _ _ refl r (λ es n h.
          stops_there _ _ _ _ c.advance.new.self _ _ _ h c.if-is_none.ensures
          (omega (arith, n, r.count, c.count-position.ensures.value)) c.in-Err-advance.ensures.steps)
          (c.loop-event.invariant.begun text b);
      suffix = suffix_read _ _ _ _ r c.loop-event.invariant.suffix;
      version = r.version ∙ c.loop-event.invariant.version;
    }

pub loop-event-preserved : goal.loop-event-preserved
loop-event-preserved c =
    let r = was_read _ _ _ _ c.in-Ok-Some.ensures c.in-Ok-Some.field-0-is in
    record {
      begun = λ text b. begun_more text _ _ _ _ _ refl r (λ es n h.
          stays_stopped _ _ _ _ _ _ _ h c.if-is_none.ensures) (c.loop-event.invariant.begun text b);
      suffix = suffix_read _ _ _ _ r c.loop-event.invariant.suffix;
      version = r.version ∙ c.loop-event.invariant.version;
    }

-- where no record was read nothing changed
kept : (c : goal.After-count) → c.next_event.new.self ≡ c.loop-event.records
kept c = elim c.match-next_event.branch [
  | in-Ok-None w ↦
      (none_read _ _ _ w.in-Ok-None.ensures w.in-Ok-None.field-0-is).1
  | in-Err w ↦ w.in-Err.ensures.1
]

pub returns-clause-begun : goal.returns-clause-begun
returns-clause-begun c = λ text b.
    let h = c.loop-event.invariant.begun text b in
    rw (kept c) (record {
      rest = h.rest;
      head = h.head;
      version = h.version;
      events = h.events;
      read = h.read;
      came = h.came;
    })

pub returns-clause-version : goal.returns-clause-version
returns-clause-version c = rw (kept c) c.loop-event.invariant.version

pub returns-clause-suffix : goal.returns-clause-suffix
returns-clause-suffix c = rw (kept c) c.loop-event.invariant.suffix

pub returns-clause-end : goal.returns-clause-end
returns-clause-end c = elim c.match-next_event.branch [
  | in-Ok-None w ↦ rw w.end-is (none_read _ _ _ w.in-Ok-None.ensures w.in-Ok-None.field-0-is).0
  | in-Err w ↦ let same = w.in-Err.ensures.1 in rw (w.end-is, same) w.in-Err.ensures.0
]
