use Rattle.std.proofs.Common.{refl, sym, ◌∙◌, subst, arith}
use Rattle.ira_event.specs.NextLine.{cut}
use Rattle.ira_event.proofs.LogReading.{FirstFeed, no_line_end, line_end_at, fault_unread_too_many, fault_line}
use Rattle.ira_event.proofs.records.unread_fault.Goals as goal
use Rattle.ira_event.proofs.records.unread_fault.Goals.{
  else-records-eq-MAX_RECORDS-via-then-records-eq-MAX_RECORDS+else-begins_as_record,
}
use Rattle.ira_event.proofs.records.unread_fault.Goals.{else-records-eq-MAX_RECORDS-via-else-records-eq-MAX_RECORDS}

pub returns-in_default : goal.returns-in_default
returns-in_default c = cut (no_line_end c.args.text.now (sym c.line_end.ensures ∙ c.in_default.is)) refl

pub returns-then-begins_as_record : goal.returns-then-begins_as_record
returns-then-begins_as_record c =
    let feed = line_end_at c.args.text.now c.in-Some.end (sym c.line_end.ensures ∙ c.in-Some.is) in
    let line : FirstFeed c.args.text.now c.split_at.result.0.now =
    subst (FirstFeed c.args.text.now) (sym c.split_at.ensures.front) feed in
    fault_unread_too_many c.args.version c.args.records c.args.text.now c.requires.unread c.split_at.result.0.now line
    c.if-records-eq-MAX_RECORDS.true (c.begins_as_record.ensures.0 c.if-begins_as_record.true)

pub returns : goal.returns
returns c =
    let feed = line_end_at c.args.text.now c.in-Some.end (sym c.line_end.ensures ∙ c.in-Some.is) in
    let line : FirstFeed c.args.text.now c.split_at.result.0.now =
    subst (FirstFeed c.args.text.now) (sym c.split_at.ensures.front) feed in
    fault_line c.args.version c.args.records c.args.text.now c.requires.unread c.split_at.result.0.now line
    (λ many begins. elim c.else-records-eq-MAX_RECORDS.branch [
      | else-records-eq-MAX_RECORDS-via-then-records-eq-MAX_RECORDS+else-begins_as_record w ↦ let no =
          w.begins_as_record.ensures.1 begins in let is = w.if-begins_as_record.false in cc
      | else-records-eq-MAX_RECORDS-via-else-records-eq-MAX_RECORDS w ↦
          absurd (omega (arith, many, w.if-records-eq-MAX_RECORDS.false))
    ])
