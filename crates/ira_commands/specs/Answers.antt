-- What comes of a command on the logs of a ring.
use Rattle.std.specs.Prelude.{List}
use Rattle.ira_view_explain_question.specs.declared.asked_files.AskedFiles.{AskedFiles}
use Rattle.ira_view_page.specs.declared.named_text.NamedText.{NamedText}
use Rattle.ira_view.specs.Texts.{AreFiles, texts_of}
use Rattle.ira_commands.specs.Check.{ChecksTexts}
use Rattle.ira_commands.specs.Decide.{DecidesTexts, PrintsDecided}
use Rattle.ira_commands.specs.Explain.{ExplainsAll, ExplainsCheck}
use Rattle.ira_commands.specs.ExplainExpected.{ExplainsExpected}
use Rattle.ira_commands.specs.ExplainQuestion.{ExplainsFindings}
use Rattle.ira_commands.specs.Given.{Given, IsFile}
use Rattle.ira_commands.specs.Judging.{JudgesLogs}
use Rattle.ira_commands.specs.Reply.{Reply, ReportsAs}
use Rattle.ira_commands.specs.Show.{ShowsLogs}
use Rattle.ira_commands.specs.Expected.{JudgesExpected}
use Rattle.ira_commands.specs.declared.logs_command.LogsCommand.{LogsCommand}
use Rattle.ira_commands.specs.declared.logs_command.LogsCommand.TheVariants.{Answer, Check, Decide, Explain, ExplainCheck}
use Rattle.ira_commands.specs.declared.logs_command.LogsCommand.TheVariants.{Expect, ExplainExpected, ExplainQuestion, Show}

-- these are the files of the question and of the logs
abbrev pub AreAsked : Given → AskedFiles → Type 0
AreAsked given asked = AreFiles given.names given.texts asked.logs.now × IsFile given.question asked.question.now

-- the command was done on what is given, and this reply comes of it; the type is that of what gives memory
abbrev pub Answers : Type 0 → LogsCommand → Given → Reply → Type 0
Answers A (Answer form) given reply = JudgesLogs (ReportsAs form) given.texts reply
Answers A (Expect form expected) given reply = JudgesExpected form expected given.texts reply
Answers A (Explain form) given reply =
    (files : List NamedText) × AreFiles given.names given.texts files × ExplainsAll A form files reply
Answers A (ExplainExpected form expected) given reply =
    (files : List NamedText) × AreFiles given.names given.texts files × ExplainsExpected A form expected files reply
Answers A (Decide form is_brief certify) given reply =
    DecidesTexts {A = A} (PrintsDecided form is_brief certify) given.question.text given.texts reply
Answers A (ExplainQuestion form case) given reply = (asked : AskedFiles) × AreAsked given asked
    × DecidesTexts {A = A} (ExplainsFindings form case asked) asked.question.now.text.now (texts_of asked.logs.now) reply
Answers A (Check form) given reply =
    ChecksTexts (ReportsAs form) given.question.text given.certificate.text given.texts reply
Answers A (ExplainCheck form) given reply = (asked : AskedFiles) × (certificate : NamedText) × AreAsked given asked
    × IsFile given.certificate certificate × ChecksTexts (ExplainsCheck A form asked certificate)
    asked.question.now.text.now certificate.text.now (texts_of asked.logs.now) reply
Answers A (Show form moment) given reply =
    ShowsLogs A form moment given.question.text given.names given.texts reply
