use Rattle.std.proofs.Common.{inl, inr, rules}
use Rattle.ira_main.proofs.mend_files.mend_files.Goals as goal

pub returns-in-Err : goal.returns-in-Err
returns-in-Err g c = inl (rw c.in-Err.is at c.in_ok-left.ensures)

pub returns-in-Some : goal.returns-in-Some
returns-in-Some g c = inr (
  _,
  _,
  rw c.in-Ok.is at c.in_ok-left.ensures,
  inl (_, rw (c.in-Some.is, c.deref.ensures.value) at c.in_ok-name.ensures, search rules),
)

pub mend_left-requires : goal.mend_left-requires
mend_left-requires g c = let r = rw c.in-Ok-2.is at c.in_ok-recorded.ensures in (r.0, r.1)

pub returns-in-Ok-2 : goal.returns-in-Ok-2
returns-in-Ok-2 g c =
    let left = rw c.in-Ok-2.is at c.in_ok-recorded.ensures in
    record {
      in_folder = c.in-Ok.left.in_folder;
      names = c.in-Ok.left.names.items;
      names_are = rw c.in-Ok.is at c.in_ok-left.ensures;
      kept = rw (c.in_default.is, c.deref.ensures.value) at c.in_ok-name.ensures;
      texts = left.0;
      left = left.2;
      reply_is = c.in_ok-mend_left-in-Ok-2.ensures left.0 left.1;
    }

pub returns : goal.returns
returns g c = inr (_, _, rw c.in-Ok.is at c.in_ok-left.ensures, inr (rw c.in-Err-2.is at c.in_ok-recorded.ensures))
