-- What comes of explaining the log on the input.
use Rattle.std.specs.Prelude.{ℕ, List, codes}
use Rattle.ira_view.specs.declared.form.Form.{Form}
use Rattle.ira_commands.specs.Explain.{ExplainsLog}
use Rattle.ira_commands.specs.Given.{IsFile}
use Rattle.ira_commands.specs.Judging.{JudgesLog}
use Rattle.ira_commands.specs.Reply.{Reply}
use Rattle.ira_view_page.specs.declared.named_text.NamedText.{NamedText}

-- the answer of the log, which has this text, is explained
abbrev pub ExplainsInput : Type 0 → Form → List ℕ → Reply → Type 0
ExplainsInput A form text reply = (file : NamedText) × IsFile (record { name = codes "-"; text = text }) file
    × JudgesLog (ExplainsLog A form file) text reply
