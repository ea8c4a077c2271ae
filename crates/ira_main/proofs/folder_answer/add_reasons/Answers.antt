use Rattle.std.proofs.Common.{[], append-nil, inl, inr, refl, rules, sym}
use Rattle.ira_main.proofs.folder_answer.add_reasons.Goals as goal

pub answer_read-requires : goal.answer_read-requires
answer_read-requires g c = let r = c.requires in (r.0, r.1, r.2, λ _. r.3)

pub returns-then-is_some : goal.returns-then-is_some
returns-then-is_some g c = λ given judged are. (
  [],
  (_, c.in_ok-reply.ensures given judged (λ _. are), inr (search rules, refl)),
  sym (append-nil _),
)

pub returns-in-Ok : goal.returns-in-Ok
returns-in-Ok g c = λ given judged are.
    let wrote = rw c.out.ensures at c.in-Ok.ensures in (
      wrote.0,
      (_, c.in_ok-reply.ensures given judged (λ _. are), inl (search rules, wrote.1)),
      wrote.2.took,
    )
