-- What is asked of the logs of a ring.
use Rattle.std.specs.Prelude.{Bool, false, true}
use Rattle.ira_commands.specs.RingForm.{needs_files}
use Rattle.ira_commands.specs.declared.logs_command.LogsCommand.{LogsCommand}
use Rattle.ira_commands.specs.declared.logs_command.LogsCommand.TheVariants.{Answer, Check, Decide, Explain, ExplainCheck}
use Rattle.ira_commands.specs.declared.logs_command.LogsCommand.TheVariants.{Expect, ExplainExpected, ExplainQuestion, Show}

-- it tells of the logs with their texts and the names of their files
abbrev pub needs_texts : LogsCommand → Bool
needs_texts (Answer form) = false
needs_texts (Expect form expected) = false
needs_texts (Explain form) = true
needs_texts (ExplainExpected form expected) = true
needs_texts (Decide form is_brief certify) = false
needs_texts (ExplainQuestion form case) = true
needs_texts (Check form) = false
needs_texts (ExplainCheck form) = true
needs_texts (Show form moment) = needs_files form moment
