use Rattle.std.proofs.Common.{arith, refl}
use Rattle.ira_event.specs.declared.log_fault.LogFault.TheVariants.{Count}
use Rattle.ira_view_explain.proofs.Reading.{count_opened}
use Rattle.ira_view_explain.proofs.text_finding.TextFinding.of_count.Goals as goal

pub returns : goal.returns
returns c =
    let text = c.args.file.now.text.now in (
      c.count_records-records.result,
      c.count_records-records.ensures.fault Count c.requires (count_opened text),
      c.line-line.result.now,
      c.line-line.ensures (omega arith),
      c.new-beside.result.text,
      rw (c.new.ensures, c.at-stop.ensures, c.new-beside.ensures) refl,
    )
