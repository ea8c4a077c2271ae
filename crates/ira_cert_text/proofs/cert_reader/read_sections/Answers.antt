use Rattle.std.proofs.Common.{◌≡◌, ◌∙◌}
use Rattle.std.proofs.lemmas.Result.{err_from_is_err_and}
use Rattle.ira_cert_text.proofs.Reading.{section_was_read, section_refused, sections_refused}
use Rattle.ira_cert_text.proofs.cert_reader.read_sections.Goals as goal

pub returns-in_err-next_section : goal.returns-in_err-next_section
returns-in_err-next_section g c =
    let p = err_from_is_err_and c.from_residual-in_err-next_section.result c.from_residual-in_err-next_section.ensures.1
    in
    let same : p.0 ≡ c.in_err-next_section.field-0.0 = p.2 in
    rw (p.1, same) (sections_refused c.args.nodes c.len.result c.args.lines.rest c.loop-sections.sections.items
    c.in_err-next_section.field-0.0 c.loop-sections.lines c.next_section.new.self c.loop-sections.invariant
    (c.len.ensures ∙ c.loop-sections.sections.ok.0) c.in_err-next_section.ensures)

pub returns-in_err-read_section : goal.returns-in_err-read_section
returns-in_err-read_section g c =
    let p = err_from_is_err_and c.from_residual-in_err-read_section.result c.from_residual-in_err-read_section.ensures.1
    in
    let same : p.0 ≡ c.in_err-read_section.field-0.0 = p.2 in
    rw (p.1, same) (section_refused c.args.nodes c.len.result c.args.lines.rest c.loop-sections.sections.items
    c.in_ok-next_section.field-0 c.in_err-read_section.field-0.0 c.loop-sections.lines c.next_section.new.self
    c.read_section.new.lines c.loop-sections.invariant (c.len.ensures
    ∙ c.loop-sections.sections.ok.0) c.in_ok-next_section.ensures c.if-branch.true c.in_err-read_section.ensures)

pub loop-sections-preserved : goal.loop-sections-preserved
loop-sections-preserved g c =
    section_was_read c.args.nodes c.len.result c.args.lines.rest c.loop-sections.sections.items c.push.new.self.items
    c.in_ok-next_section.field-0 c.in_ok-read_section.field-0 c.loop-sections.lines c.next_section.new.self
    c.read_section.new.lines c.loop-sections.invariant (c.len.ensures
    ∙ c.loop-sections.sections.ok.0) c.in_ok-next_section.ensures c.if-branch.true c.in_ok-read_section.ensures
    c.in_ok-push.ensures.items
