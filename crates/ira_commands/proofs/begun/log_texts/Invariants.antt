use Rattle.std.proofs.Common.{◌≡◌, map, take}
use Rattle.ira_event.specs.LogText.{log_text}
use Rattle.ira_commands.specs.Begun.{bytes_of}
use Rattle.ira_commands.proofs.begun.log_texts.Given as goal

abbrev pub invariant-loop-place : goal.invariant-loop-place
invariant-loop-place g l = bytes_of l.texts.items ≡ map log_text (take l.place l.logs)
