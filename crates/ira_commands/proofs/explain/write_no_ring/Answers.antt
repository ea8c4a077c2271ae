use Rattle.std.proofs.Common.{◌∙◌, ◌++◌, [], List, ℕ, ap, append_assoc, inl, inr, refl, sym}
use Rattle.std.proofs.lemmas.List.{append-nil}
use Rattle.ira_audit.specs.Report.{report_line}
use Rattle.ira_audit.specs.declared.answer.Answer.TheVariants.{No}
use Rattle.ira_commands.specs.Explain.{begun_heading}
use Rattle.ira_commands.proofs.explain.write_no_ring.Goals as goal

pub returns-then-is_of_same_text : goal.returns-then-is_of_same_text
returns-then-is_of_same_text g c =
    ([], inr (c.is_of_same_text.ensures.0 c.if-is_of_same_text.true, refl), sym (append-nil c.args.text.now.bytes))

pub returns : goal.returns
returns g c =
    let line = report_line (No c.args.reason) in (
      begun_heading ++ line,
      inl (
        λ same. (let yes = c.is_of_same_text.ensures.1 same in let no = c.if-is_of_same_text.false in cc),
        refl,
      ),
      c.in-Ok-write_report.ensures.took ∙ ap (λ (t : List ℕ). t ++ line) c.in-Ok.ensures.took
          ∙ append_assoc c.args.text.now.bytes begun_heading line,
    )
