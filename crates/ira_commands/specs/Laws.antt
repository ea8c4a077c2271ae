-- Laws of what comes of a command on the logs of a ring.
use Rattle.std.specs.Prelude.{◌≡◌, ℕ, Bool, List, Option, Some, ⊤}
use Rattle.ira_view.specs.declared.form.Form.{Form}
use Rattle.ira_view.specs.declared.status.Status.{Status}
use Rattle.ira_view.specs.declared.status.Status.TheVariants.{Yes}
use Rattle.ira_commands.specs.Answers.{Answers}
use Rattle.ira_commands.specs.Check.{ChecksTexts}
use Rattle.ira_commands.specs.Given.{Given}
use Rattle.ira_commands.specs.Judging.{JudgesLogs}
use Rattle.ira_commands.specs.Mend.{MendsTexts}
use Rattle.ira_commands.specs.Reply.{Reply, ReportsAs}
use Rattle.ira_commands.specs.Upgrade.{UpgradesTexts}
use Rattle.ira_commands.specs.declared.command_fault.CommandFault.{CommandFault}
use Rattle.ira_commands.specs.declared.command_fault.CommandFault.TheVariants.{CertificatePastLimits}
use Rattle.ira_commands.specs.declared.logs_command.LogsCommand.{LogsCommand}
use Rattle.ira_commands.specs.declared.logs_command.LogsCommand.TheVariants.{Show}

-- it shows a ring at a moment
abbrev pub Shows : LogsCommand → Type 0
Shows (Show form moment) = ⊤
Shows command = ⊥

-- a status, where a certificate that is past the limits counts as the yes after which it is refused
abbrev pub counted_status : Option CommandFault → Status → Status
counted_status (Some CertificatePastLimits) status = Yes
counted_status fault status = status

-- all replies to a command on what is given have one status so counted, whatever gives memory, where it shows no ring
abbrev pub RepliesHaveOneStatus : Type 0 → Type 0 → Type 0
RepliesHaveOneStatus A B =
    (command : LogsCommand) (given : Given) (a b : Reply) → ¬ (Shows command) → Answers A command given a
    → Answers B command given b → counted_status a.fault a.status ≡ counted_status b.fault b.status

-- What follows is one reply to the byte: its status, what is printed, and the files that are made.

-- of logs that are judged
abbrev pub JudgingHasOneReply : Type 0
JudgingHasOneReply =
    (form : Form) (texts : List (List ℕ)) (a b : Reply) → JudgesLogs (ReportsAs form) texts a
    → JudgesLogs (ReportsAs form) texts b → a ≡ b

-- of a certificate that is checked
abbrev pub CheckingHasOneReply : Type 0
CheckingHasOneReply =
    (form : Form) (question certificate : List ℕ) (texts : List (List ℕ)) (a b : Reply)
    → ChecksTexts (ReportsAs form) question certificate texts a
    → ChecksTexts (ReportsAs form) question certificate texts b → a ≡ b

-- of logs that are upgraded
abbrev pub UpgradingHasOneReply : Type 0
UpgradingHasOneReply = (texts : List (List ℕ)) (a b : Reply) → UpgradesTexts texts a → UpgradesTexts texts b → a ≡ b

-- of logs that are mended
abbrev pub MendingHasOneReply : Type 0
MendingHasOneReply =
    (is_initiator : Bool) (texts : List (List ℕ)) (a b : Reply) → MendsTexts is_initiator texts a
    → MendsTexts is_initiator texts b → a ≡ b
