use Rattle.std.proofs.Common.{IfOk, false, rules}
use Rattle.ira_ring.specs.SeededRing.{setup_of}
use Rattle.ira_ring_setup.specs.Agreement.{Agrees}
use Rattle.ira_ring_setup.specs.Recording.{HasOwnEnd, IsRecording}
use Rattle.ira_ring_setup.specs.declared.run_fault.RunFault.TheVariants as fault
use Rattle.ira_commands.proofs.Runs.{many_terms, ring_run, threads_fault}
use Rattle.ira_commands.proofs.Served.{if_both, if_ok}
use Rattle.ira_commands.specs.AskedRun.{ring_of}
use Rattle.ira_commands.specs.Run.{IsRunOf}
use Rattle.ira_commands.specs.Run.RunsRing.{failed}
use Rattle.ira_commands.proofs.run.run_asked_on_threads.Goals as goal

pub returns-in_default-try_from : goal.returns-in_default-try_from
returns-in_default-try_from g c =
    failed (search rules) fault.Setup (many_terms (setup_of (ring_of c.args.asked.now)) (λ few. c.in_default-try_from.ensures few))
    c.refused-in_default-try_from.ensures

pub returns : goal.returns
returns g c =
    let asked = c.args.asked.now in
    let setup = setup_of (ring_of asked) in
    let run = c.run_ring-run.result in
    let ran = rw c.in_ok-setup.ensures at c.run_ring-run.ensures in
    let ended = if_both (Agrees setup) HasOwnEnd run ran.agrees ran.ended in
    let all = if_both (IsRecording setup) (λ r. Agrees setup r × HasOwnEnd r) run ran.recording ended in
    let recorded : IfOk run (IsRunOf false setup) = if_ok run (λ r is. (is.0, is.1.0, is.1.1)) all in
    ring_run false asked run c.tell_run.result (search rules) ran.kept recorded
    (threads_fault setup run ran.rules ran.faults ran.no_end) c.tell_run.ensures
