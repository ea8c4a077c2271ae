use Rattle.std.proofs.Common.{◌≡◌, ◌+◌, ℕ, arith, subst}
use Rattle.ira_event.specs.declared.log_fault.LogFault.TheVariants.{Trailing}
use Rattle.ira_view_page.specs.TextStop.{IsWholeLine, after_end}
use Rattle.ira_view_explain.proofs.Reading.{trailing_opened}
use Rattle.ira_view_explain.proofs.text_finding.TextFinding.of_trailing.Goals as goal

pub returns : goal.returns
returns c =
    let text = c.args.file.now.text.now in
    let count = c.count_records-end.result in
    let next : count + 5 + 1 ≡ count + 6 = omega arith in (
      count,
      c.count_records-end.ensures.fault Trailing c.requires (trailing_opened text),
      rw c.new.ensures
          (subst (λ (n : ℕ). IsWholeLine text n (after_end (count + 5)) c.after_end.result) next c.after_end.ensures),
    )
