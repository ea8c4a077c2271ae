use Rattle.std.proofs.Common.{◌≡◌, ◌∙◌, ◌++◌, List, ℕ, ap, rules}
use Rattle.ira_event.specs.Sink.{Memory}
use Rattle.ira_pred.specs.QuestionText.{question_text}
use Rattle.ira_commands.specs.Pairs.AsksPairs.{asked}
use Rattle.ira_commands.specs.Reply.{printed}
use Rattle.ira_view.specs.declared.status.Status.TheVariants.{Yes}
use Rattle.ira_commands.proofs.pairs.ask_pairs.Goals as goal

pub returns : goal.returns
returns g c =
    let question = c.in_ok-question.question in
    let text : c.write_question.new.sink.bytes ≡ question_text question = c.in-Ok.ensures.took
    ∙ ap (λ (m : Memory). m.bytes ++ question_text question) c.new-text.ensures in
    asked (search rules) question (search rules) (search rules)
    (c.printed.ensures ∙ ap (λ (text : List ℕ). printed Yes text) text)
