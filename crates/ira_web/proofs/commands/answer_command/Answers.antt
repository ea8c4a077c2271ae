use Rattle.std.proofs.Common.{◌∙◌, map, refl, sym}
use Rattle.std.proofs.lemmas.List.{length-map}
use Rattle.ira_view.specs.Texts.{texts_of}
use Rattle.ira_web.proofs.commands.answer_command.Goals as goal

pub answer-requires-clause-judged : goal.answer-requires-clause-judged
answer-requires-clause-judged g c =
    let logs = c.in-Some.logs.now in (
      texts_of logs,
      c.in_ok-judged.ensures (texts_of logs) c.in_ok-take_texts.ensures,
      c.in_ok-names.ensures ∙ sym (length-map logs (λ file. file.text.now)),
    )

pub answer-requires-clause-kept : goal.answer-requires-clause-kept
answer-requires-clause-kept g c = λ _. c.in_ok-judged.ensures (texts_of c.in-Some.logs.now) c.in_ok-take_texts.ensures

pub returns : goal.returns
returns g c =
    let logs = c.in-Some.logs.now in (
      c.in-Some.question,
      c.in-Some.certificate,
      logs,
      c.in-Some.ensures,
      c.in_ok-answer.ensures (map (λ file. file.name.now) logs) (texts_of logs)
          (c.in_ok-judged.ensures (texts_of logs) c.in_ok-take_texts.ensures)
          (λ _. record { names_are = refl; texts_are = refl }),
    )
