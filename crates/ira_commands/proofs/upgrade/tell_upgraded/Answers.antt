use Rattle.std.proofs.Common.{◌≡◌, ◌∙◌, ◌++◌, List, ℕ, ap, length, map}
use Rattle.std.proofs.lemmas.List.{length-map}
use Rattle.ira_event.specs.Log.{Log}
use Rattle.ira_event.specs.Sink.{Memory}
use Rattle.ira_event.specs.Upgrade.{upgraded}
use Rattle.ira_commands.specs.Reply.{Reply, printed, with_files}
use Rattle.ira_commands.specs.Reply.MadeFiles.{logs_of}
use Rattle.ira_view.specs.UpgradedLine.{upgraded_text}
use Rattle.ira_view.specs.declared.status.Status.TheVariants.{Yes}
use Rattle.ira_commands.proofs.upgrade.tell_upgraded.Goals as goal

pub returns : goal.returns
returns g c =
    let logs = c.args.logs in
    let news = c.in_ok-logs.ensures in
    let size = c.size.ensures.value ∙ ap length news ∙ length-map logs upgraded in
    let line : c.write.new.sink.bytes ≡ upgraded_text (length logs) = c.in-Ok.ensures.took
    ∙ ap (λ (m : Memory). m.bytes ++ c.upgraded_logs.result) c.new-line.ensures
    ∙ c.upgraded_logs.ensures ∙ ap upgraded_text size in
    c.with_files.ensures ∙ ap (λ (ls : List Log). with_files c.printed.result (logs_of ls)) news
    ∙ ap (λ (reply : Reply). with_files reply (logs_of (map upgraded logs)))
    (c.printed.ensures ∙ ap (λ (text : List ℕ). printed Yes text) line)
