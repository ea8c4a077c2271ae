use Rattle.ira_main.proofs.judge_each.settled.Goals as goal

pub returns-then-is_ok : goal.returns-then-is_ok
returns-then-is_ok g c = rw c.in-Ok.is at c.requires
