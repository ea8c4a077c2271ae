use Rattle.std.proofs.Common.{rules, true}
use Rattle.ira_ring.specs.SeededRing.{setup_of}
use Rattle.ira_commands.proofs.Runs.{alone_fault, ring_run}
use Rattle.ira_commands.specs.AskedRun.{ring_of}
use Rattle.ira_commands.proofs.run.run_asked.Goals as goal

pub returns : goal.returns
returns g c =
    let asked = c.args.asked.now in
    let ran = rw c.ring.ensures at c.run_alone-run.ensures in
    ring_run true asked c.run_alone-run.result c.tell_run.result (search rules) ran.kept ran.run
    (alone_fault (setup_of (ring_of asked)) c.run_alone-run.result ran.broken ran.faults) c.tell_run.ensures
