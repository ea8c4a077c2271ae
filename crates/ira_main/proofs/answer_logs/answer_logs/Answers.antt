use Rattle.std.proofs.Common.{inl, inr}
use Rattle.ira_main.proofs.Delivering.{told}
use Rattle.ira_main.proofs.answer_logs.answer_logs.Goals as goal

pub returns-in-Some : goal.returns-in-Some
returns-in-Some g c = inr (_, rw c.in-Some.is at c.several_folders.ensures, rw c.requires at c.judge_each.ensures)

pub returns : goal.returns
returns g c = inl (
  rw c.in_default.is at c.several_folders.ensures,
  told _ _ _ _ _ _ c.judge_logs.ensures c.deliver.ensures,
)
