use Rattle.std.proofs.Common.{◌+◌, drop, arith}
use Rattle.std.specs.List.{flat_map}
use Rattle.std.proofs.lemmas.Result.{err_from_is_err_and}
use Rattle.ira_event.proofs.Writing.{HasWritten-more, HasWritten-stops}
use Rattle.ira_cert_text.specs.CertText.{section_text}
use Rattle.ira_event.proofs.Rest.{next_text}
use Rattle.ira_cert_text.proofs.cert_writer.write_sections.Goals as goal

pub loop-section-preserved : goal.loop-section-preserved
loop-section-preserved g c =
    let xs = c.args.sections.now in
    let i = c.loop-section.section-index in
    let x = c.section-item.result in
    HasWritten-more (flat_map section_text xs) (flat_map section_text (drop i xs)) (section_text x)
    (flat_map section_text (drop (i + 1) xs)) _ _ _ c.loop-section.invariant
    (next_text section_text xs i x x (omega arith) c.section-item.is) c.in_ok-write_section.ensures

pub returns-in_err-write_section : goal.returns-in_err-write_section
returns-in_err-write_section g c =
    let stop = err_from_is_err_and c.from_residual.result c.from_residual.ensures.1 in
    let xs = c.args.sections.now in
    let i = c.loop-section.section-index in
    let x = c.section-item.result in
    HasWritten-stops _ _ stop.1 (flat_map section_text xs) (flat_map section_text (drop i xs)) (section_text x)
    (flat_map section_text (drop (i + 1) xs)) _ _ _ c.loop-section.invariant
    (next_text section_text xs i x x (omega arith) c.section-item.is) c.in_err-write_section.ensures
