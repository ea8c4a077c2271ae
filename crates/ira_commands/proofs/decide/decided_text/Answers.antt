use Rattle.std.proofs.Common.{◌∙◌, ◌++◌, ℕ, List, ap, subst, sym, false, true}
use Rattle.ira_audit.specs.DecidedCases.{AreCounted}
use Rattle.ira_audit.specs.declared.findings.Findings.{Findings}
use Rattle.ira_audit.specs.declared.findings.Findings.TheVariants.{Cases, Refused}
use Rattle.ira_elim.specs.declared.decided.Decided.{Decided}
use Rattle.ira_event.specs.Sink.{Memory}
use Rattle.ira_view.specs.ViewText.{IsFindingsText}
use Rattle.ira_view.specs.declared.form.Form.{Form}
use Rattle.ira_view_page.specs.Printable.{IsPrintable}
use Rattle.ira_commands.specs.Decide.{IsDecidedText}
use Rattle.ira_commands.specs.DecidedLine.{IsDecidedLine}
use Rattle.ira_commands.proofs.decide.decided_text.Goals as goal

-- the line on what was counted is that on the findings
line_is : {A : Type 0} (form : Form) (findings : Findings A) (nodes : ℕ) (cases : List (Decided ℕ A)) (line : List ℕ)
    → AreCounted findings nodes cases → IsDecidedLine cases line → IsPrintable line → IsDecidedText form findings true line
line_is form (Refused r) nodes cases line are is shown = absurd are
line_is form (Cases n found) nodes cases line are is shown = (subst (λ cs. IsDecidedLine cs line) are.1 is, shown)

-- the text of each case is that of findings too
as_cases : {A : Type 0} (form : Form) (text : List ℕ) (findings : Findings A) → IsFindingsText form findings text
    → IsDecidedText form findings false text
as_cases form text (Refused r) is = is
as_cases form text (Cases n found) is = is

pub returns-then-is_brief : goal.returns-then-is_brief
returns-then-is_brief g c = λ certify findings are.
    let d = c.args.decided.now in
    let line = c.bytes.result.now in
    let text = c.in-Ok.ensures.took ∙ ap (λ (m : Memory). m.bytes ++ line) c.new-text.ensures in
    rw c.if-is_brief.true (subst (IsDecidedText c.args.form findings true) (sym text)
    (line_is c.args.form findings d.nodes d.cases.items line are.cases
    (subst (IsDecidedLine d.cases.items) (sym c.bytes.ensures.text) (rw c.deref.ensures.value at c.in_ok-line.ensures))
    (subst IsPrintable (sym c.bytes.ensures.text) c.bytes.ensures.printable)))

pub returns : goal.returns
returns g c = λ certify findings are.
    let wrote = c.in-Ok-write_decided_as.ensures certify findings are in
    let text = wrote.2.took ∙ ap (λ (m : Memory). m.bytes ++ wrote.0) c.new-text.ensures in
    rw c.if-is_brief.false (as_cases c.args.form _ findings (subst (IsFindingsText c.args.form findings) (sym text) wrote.1))
