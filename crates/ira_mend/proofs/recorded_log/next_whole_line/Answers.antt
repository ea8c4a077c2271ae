use Rattle.std.proofs.Common.{◌≢◌, inl, inr, refl, rules}
use Rattle.ira_event.specs.declared.log_fault.LogFault.TheVariants.{Cut, TooMany}
use Rattle.ira_mend.proofs.RecordedTexts.{goes_on, reads_on, reads_to_end}
use Rattle.ira_mend.proofs.recorded_log.next_whole_line.Goals as goal

pub returns-in-Ok : goal.returns-in-Ok
returns-in-Ok c = reads_on _ _ c.in-Ok.read c.in-Ok.ensures

pub returns-in-Err-Cut : goal.returns-in-Err-Cut
returns-in-Err-Cut c = reads_to_end _ _ Cut (inl refl) (rw c.in-Err-Cut.field-0-is at c.in-Err-Cut.ensures)

pub returns-in-Err-TooMany : goal.returns-in-Err-TooMany
returns-in-Err-TooMany c =
    reads_to_end _ _ TooMany (inr refl) (rw c.in-Err-TooMany.field-0-is at c.in-Err-TooMany.ensures)

pub returns-in-Err : goal.returns-in-Err
returns-in-Err c =
    let whole : c.in-Err.fault ≢ Cut = search rules in
    let few : c.in-Err.fault ≢ TooMany = search rules in
    (c.in-Err.ensures.0, goes_on c.in-Err.fault whole few, c.in-Err.ensures.1)
