use Rattle.std.proofs.Common.{◌∙◌, ap, length, subst, sym, List}
use Rattle.ira_event.specs.Log.{Log}
use Rattle.ira_commands.proofs.Served.{if_ok}
use Rattle.ira_commands.proofs.Shown.{fault_reportable, ring_logs}
use Rattle.ira_commands.specs.RingForm.{leaders_of}
use Rattle.ira_commands.specs.RingLeaders.{AreDifferencesOf}
use Rattle.ira_commands.specs.Show.ShowsGood.{no_moment, no_place, shown}
use Rattle.ira_commands.proofs.show.show_good.Goals as goal

pub returns-in_default : goal.returns-in_default
returns-in_default g c =
    no_place (rw (c.in_default.is, c.leaders.ensures) at c.in_ok-differences.ensures) c.refused.ensures

pub tell_ring-requires-clause-names : goal.tell_ring-requires-clause-names
tell_ring-requires-clause-names g c =
    c.requires ∙ sym (ap length (ring_logs c.args.logs c.args.moment.now c.args.question.now _ c.in-Ok.ensures))

pub tell_ring-requires-clause-differences : goal.tell_ring-requires-clause-differences
tell_ring-requires-clause-differences g c =
    let differ = rw (c.in-Some.is, c.leaders.ensures) at c.in_ok-differences.ensures in
    subst (λ (logs : List Log). AreDifferencesOf logs (leaders_of c.args.form) c.in-Some.differences)
    (sym (ring_logs c.args.logs c.args.moment.now c.args.question.now _ c.in-Ok.ensures)) differ

pub returns-in-Ok : goal.returns-in-Ok
returns-in-Ok g c =
    if_ok c.tell_ring.result (λ reply told. shown c.in-Ok.ring c.in-Ok.ensures told) c.tell_ring.ensures

pub tell_fault-requires : goal.tell_fault-requires
tell_fault-requires g c =
    fault_reportable c.args.logs c.args.moment.now c.args.question.now c.in-Err.fault c.in-Err.ensures

pub returns-in-Err : goal.returns-in-Err
returns-in-Err g c =
    if_ok c.tell_fault.result (λ reply told. no_moment c.in-Err.fault c.in-Err.ensures told)
    (rw c.of_answer.ensures at c.tell_fault.ensures)
