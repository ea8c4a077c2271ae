use Rattle.std.proofs.Common.{◌∙◌, ap}
use Rattle.ira_commands.specs.Reply.{Reply, with_files}
use Rattle.ira_commands.specs.Reply.MadeFiles.{one_text}
use Rattle.ira_commands.proofs.show.tell_picture.Goals as goal

pub returns-in_ok-of_answer-in-Ok : goal.returns-in_ok-of_answer-in-Ok
returns-in_ok-of_answer-in-Ok g c =
    rw c.in-Ok.is (c.with_files.ensures
    ∙ ap (λ (reply : Reply). with_files reply (one_text c.in-Ok.picture)) c.in_ok-of_answer-in-Ok.ensures)

pub returns-in-Err-TooManyEvents : goal.returns-in-Err-TooManyEvents
returns-in-Err-TooManyEvents g c =
    let why = rw c.in-Err-TooManyEvents.is at c.in-Err-TooManyEvents.field-0-is in
    rw (c.in-Err-TooManyEvents.is, why) c.refused.ensures
