use Rattle.ira_main.proofs.asked_run.record_run_on_threads.Goals as goal

pub returns : goal.returns
returns g c = rw c.requires (rw c.run_of.ensures at c.in_ok-run_asked_on_threads.ensures)
