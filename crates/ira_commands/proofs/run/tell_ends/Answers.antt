use Rattle.std.proofs.Common.{◌≡◌, ◌∙◌, ◌++◌, List, ℕ, ap}
use Rattle.ira_event.specs.Sink.{Memory}
use Rattle.ira_ring_setup.specs.EndsWriter.{ends_text}
use Rattle.ira_commands.specs.Reply.{Reply, printed, with_files}
use Rattle.ira_commands.specs.Reply.MadeFiles.{logs_of}
use Rattle.ira_commands.proofs.run.tell_ends.Goals as goal

pub returns : goal.returns
returns g c =
    let run = c.args.run in
    let ends : c.write_ends.new.sink.bytes ≡ ends_text run = c.in-Ok.ensures.took
    ∙ ap (λ (m : Memory). m.bytes ++ ends_text run) c.new-ends.ensures in
    let status = c.of_ends-status.result in (
      status,
      rw c.ends-2.ensures.value at c.of_ends-status.ensures,
      c.with_files.ensures ∙ ap (λ (reply : Reply). with_files reply (logs_of run.logs))
          (c.printed.ensures ∙ ap (λ (text : List ℕ). printed status text) ends),
    )
