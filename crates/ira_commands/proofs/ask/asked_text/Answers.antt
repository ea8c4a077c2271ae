use Rattle.std.proofs.Common.{◌∙◌, ap, inl, inr, rules, subst}
use Rattle.ira_ask.specs.SentenceAnswer.{IsAsked, IsSentenceFault}
use Rattle.ira_commands.specs.Reply.{Reply, with_files}
use Rattle.ira_commands.specs.Reply.MadeFiles.{one_text}
use Rattle.ira_commands.proofs.ask.asked_text.Goals as goal

pub returns-in_default : goal.returns-in_default
returns-in_default g c = λ size. absurd (search rules)

pub returns-in-Ok : goal.returns-in-Ok
returns-in-Ok g c = λ size.
    let it = c.in-Ok.ensures in
    (it.0, subst (λ n. IsAsked n c.args.sentence.now it.0) c.in-Some.ensures.value it.1, it.2)

pub returns-in_ok-page-in_default-fault : goal.returns-in_ok-page-in_default-fault
returns-in_ok-page-in_default-fault g c =
    elim c.in-Err.ensures [
      | inl none ↦ absurd (c.in_default-fault.not-OutOfMemory none)
      | inr why ↦ (
        c.in-Err.fault,
        subst (λ n. IsSentenceFault n c.args.sentence.now c.in-Err.fault) c.in-Some.ensures.value why,
        c.in_ok-page-in_default-fault.page,
        search rules,
        c.with_files.ensures
            ∙ ap (λ (r : Reply). with_files r (one_text c.in_ok-page-in_default-fault.page)) c.refused-reply.ensures,
      )
    ]
