use Rattle.std.proofs.Common.{inl, inr}
use Rattle.ira_main.proofs.folder_answer.read_folder.Goals as goal

pub returns-in-Err : goal.returns-in-Err
returns-in-Err g c = inl (rw c.in-Err.is at c.in_ok-places.ensures)

pub returns-in-Err-2 : goal.returns-in-Err-2
returns-in-Err-2 g c = inr (inl (rw c.in-Err-2.is at c.in_ok-names.ensures))

pub returns-in-Ok-3 : goal.returns-in-Ok-3
returns-in-Ok-3 g c = (
  rw c.in-Ok.is at c.in_ok-places.ensures,
  rw c.in-Ok-2.is at c.in_ok-names.ensures,
  rw (c.in-Ok-3.is, c.deref.ensures.value, c.has_reasons.ensures) at c.in_ok-logs.ensures,
)

pub returns : goal.returns
returns g c = inr (inr (
  _,
  rw c.in-Ok-2.is at c.in_ok-names.ensures,
  rw (c.in-Err-3.is, c.deref.ensures.value) at c.in_ok-logs.ensures,
))
