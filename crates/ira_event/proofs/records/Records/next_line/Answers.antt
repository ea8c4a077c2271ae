use Rattle.std.proofs.Common.{◌≡◌, ◌≢◌, Some, sym, ap, ◌∙◌, arith, rules}
use Rattle.ira_event.specs.Limits.{MAX_RECORDS}
use Rattle.ira_event.proofs.LogReading.{reads_record, at_end, fault_too_many, fault_range, fault_count, fault_trailing}
use Rattle.ira_event.proofs.LogReading.{empty_is, not_empty}
use Rattle.ira_event.proofs.records.Records.next_line.Goals as goal

pub returns-in_default : goal.returns-in_default
returns-in_default c = (rw (← c.self.view_is) c.unread_fault.ensures, search rules)

pub returns-then-not-is_of_version : goal.returns-then-not-is_of_version
returns-then-not-is_of_version c = (rw (← c.self.view_is) c.unread_fault-then-not-is_of_version.ensures, search rules)

pub returns-then-self-eq-MAX_RECORDS : goal.returns-then-self-eq-MAX_RECORDS
returns-then-self-eq-MAX_RECORDS c = (
  rw (← c.self.view_is) (fault_too_many c.self.inside.version c.self.inside.rest.now c.in-Some.after.now
      c.self.inside.count c.in-Record.event (c.in-Some.ensures
      ∙ ap (λ x. Some (x, c.in-Some.after.now)) c.in-Record.is) (sym c.is_of_version.ensures
      ∙ c.if-not-is_of_version.false) c.if-self-eq-MAX_RECORDS.true),
  search rules,
)

pub returns-then-not-is_in_range : goal.returns-then-not-is_in_range
returns-then-not-is_in_range c =
    let few : c.self.inside.count ≢ MAX_RECORDS = omega arith in (
      rw (← c.self.view_is) (fault_range c.self.inside.version c.self.inside.rest.now c.in-Some.after.now
          c.self.inside.count c.in-Record.event (c.in-Some.ensures
          ∙ ap (λ x. Some (x, c.in-Some.after.now)) c.in-Record.is) (sym c.is_of_version.ensures
          ∙ c.if-not-is_of_version.false) few (sym c.is_in_range.ensures ∙ c.if-not-is_in_range.true)),
      search rules,
    )

pub returns-then-count-self : goal.returns-then-count-self
returns-then-count-self c =
    let other : c.in-End.count ≢ c.self.inside.count = omega arith in (
      rw (← c.self.view_is) (fault_count c.self.inside.version c.self.inside.rest.now c.in-Some.after.now
          c.self.inside.count c.in-End.count (c.in-Some.ensures
          ∙ ap (λ x. Some (x, c.in-Some.after.now)) c.in-End.is) c.self.invariant other),
      search rules,
    )

pub returns-then-not-is_empty : goal.returns-then-not-is_empty
returns-then-not-is_empty c =
    let same : c.in-End.count ≡ c.self.inside.count = omega arith in (
      rw (← c.self.view_is) (fault_trailing c.self.inside.version c.self.inside.rest.now c.in-Some.after.now
          c.self.inside.count c.in-End.count (c.in-Some.ensures
          ∙ ap (λ x. Some (x, c.in-Some.after.now)) c.in-End.is) c.self.invariant same
          (not_empty c.in-Some.after.now (sym c.is_empty.ensures ∙ c.if-not-is_empty.true))),
      search rules,
    )

pub returns-else-not-is_in_range : goal.returns-else-not-is_in_range
returns-else-not-is_in_range c =
    let few : c.self.inside.count ≢ MAX_RECORDS = omega arith in
    rw (← c.self.view_is) (reads_record c.self.inside.version c.self.inside.rest.now c.in-Some.after.now
    c.self.inside.count c.in-Record.event (c.in-Some.ensures
    ∙ ap (λ x. Some (x, c.in-Some.after.now)) c.in-Record.is) (sym c.is_of_version.ensures
    ∙ c.if-not-is_of_version.false) few (sym c.is_in_range.ensures ∙ c.if-not-is_in_range.false))

pub returns-else-not-is_empty : goal.returns-else-not-is_empty
returns-else-not-is_empty c =
    let same : c.in-End.count ≡ c.self.inside.count = omega arith in (
      rw (← c.self.view_is) (at_end c.self.inside.version c.self.inside.rest.now c.in-Some.after.now c.self.inside.count
          c.in-End.count (c.in-Some.ensures ∙ ap (λ x. Some (x, c.in-Some.after.now)) c.in-End.is) c.self.invariant same
          (empty_is c.in-Some.after.now (sym c.is_empty.ensures ∙ c.if-not-is_empty.false))),
      search rules,
    )
