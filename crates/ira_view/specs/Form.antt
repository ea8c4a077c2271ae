-- In which form an answer is told.
use Rattle.std.specs.Prelude.{Bool, false, true}
use Rattle.ira_view.specs.declared.form.Form.{Form}
use Rattle.ira_view.specs.declared.form.Form.TheVariants.{Json, Words}

-- JSON, where it is asked for
abbrev pub json_form : Bool → Form
json_form true = Json
json_form false = Words
