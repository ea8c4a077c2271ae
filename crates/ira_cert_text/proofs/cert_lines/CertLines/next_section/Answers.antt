use Rattle.std.proofs.Common.{sym, ◌∙◌}
use Rattle.ira_event.proofs.LogReading.{not_empty}
use Rattle.ira_cert_text.proofs.Reading.{fault_too_many_sections, fault_trailing}
use Rattle.ira_cert_text.proofs.cert_lines.CertLines.next_section.Goals as goal

pub returns-then-sections-eq-MAX_SECTIONS : goal.returns-then-sections-eq-MAX_SECTIONS
returns-then-sections-eq-MAX_SECTIONS c =
    rw (← c.self.view_is) (fault_too_many_sections c.self.inside.number c.args.sections c.self.inside.rest.now
    c.in-Some.after.now c.in-Some.ensures c.if-sections-eq-MAX_SECTIONS.true)

pub returns-in_default-skip_word : goal.returns-in_default-skip_word
returns-in_default-skip_word c = rw (← c.self.view_is) (c.outside_fault.ensures c.args.sections)

pub returns-then-not-is_empty : goal.returns-then-not-is_empty
returns-then-not-is_empty c =
    rw (← c.self.view_is) (fault_trailing c.self.inside.number c.args.sections c.self.inside.rest.now
    c.in-Some-skip_word.after.now c.in-Some-skip_word.ensures
    (not_empty c.in-Some-skip_word.after.now (sym c.is_empty.ensures ∙ c.if-not-is_empty.true)))
