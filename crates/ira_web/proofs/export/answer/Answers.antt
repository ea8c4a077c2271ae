use Rattle.std.proofs.Common.{refl, sym}
use Rattle.ira_web.proofs.Written.{tells}
use Rattle.ira_web.proofs.export.answer.Goals as goal

pub returns : goal.returns
returns c =
    let told = rw c.deref-3.ensures.value at c.in_ok-of_replies.ensures in let replies = c.in-Some-3.replies.items in
    let first = rw c.deref-2.ensures.value at c.in-Some-first.ensures.value in (
      record { status = c.status.result; parts = told.0 },
      (
        replies,
        record {
          request = c.in-Some.request;
          files = c.in-Some-2.files.items;
          asked = c.in-Some.ensures;
          given = rw c.in-Some-2.is at c.in_ok-files.ensures;
          serves = rw c.deref.ensures.value at (rw c.in-Some-3.is at c.in_ok-replies.ensures);
        },
        tells replies c.in-Some-first.first.now c.status.result told.0 (sym first) c.status.ensures told.1,
      ),
      refl,
      told.2,
    )
