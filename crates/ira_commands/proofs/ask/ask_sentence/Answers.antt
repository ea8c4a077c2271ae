use Rattle.std.proofs.Common.{◌∙◌, ◌++◌, List, ℕ, ap, rules}
use Rattle.ira_event.specs.RingSize.{IsRingSize}
use Rattle.ira_event.specs.Sink.{Memory}
use Rattle.ira_commands.specs.Ask.AsksSentence.{asked, no_question}
use Rattle.ira_commands.specs.Reply.{printed}
use Rattle.ira_view.specs.declared.status.Status.TheVariants.{Yes}
use Rattle.ira_commands.proofs.ask.ask_sentence.Goals as goal

pub returns-in-Ok-write_bytes : goal.returns-in-Ok-write_bytes
returns-in-Ok-write_bytes g c =
    let size : IsRingSize c.args.nodes = search rules in
    let it = rw c.in-Ok.is at c.in_ok-question.ensures size in
    let text = c.in-Ok-write_bytes.ensures.took
    ∙ ap (λ (m : Memory). m.bytes ++ c.deref.result.now) c.new-text.ensures ∙ c.deref.ensures.value ∙ it.2 in
    asked size it.0 it.1 (c.printed.ensures ∙ ap (λ (t : List ℕ). printed Yes t) text)

pub returns-in-Err : goal.returns-in-Err
returns-in-Err g c =
    let size : IsRingSize c.args.nodes = search rules in
    no_question size (rw c.in-Err.is at c.in_ok-question.ensures)
