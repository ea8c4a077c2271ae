use Rattle.std.proofs.Common.{◌≡◌, ◌∙◌, ◌++◌, ap, false, map, sym}
use Rattle.std.specs.List.{list_any}
use Rattle.ira_audit.specs.Findings.{is_present}
use Rattle.ira_audit.proofs.MadeCertificates.{none_among, present_among, present_at, refused_anyway}
use Rattle.ira_elim.specs.declared.found.Found.TheVariants.{Absent}
use Rattle.ira_audit.proofs.findings.into_sections.Goals as goal

pub returns-then-has_present-clause-sections : goal.returns-then-has_present-clause-sections
returns-then-has_present-clause-sections g c =
    present_among c.args.found.items (ap (list_any is_present) (sym c.deref.ensures.value) ∙ sym c.has_present.ensures
    ∙ c.if-has_present.true)

pub returns-in_err-push-in-Absent-clause-absent : goal.returns-in_err-push-in-Absent-clause-absent
returns-in_err-push-in-Absent-clause-absent g c =
    let none : list_any is_present c.args.found.items ≡ false =
    ap (list_any is_present) (sym c.deref.ensures.value) ∙ sym c.has_present.ensures ∙ c.if-has_present.false in
    refused_anyway _ (none_among c.args.found.items none)

pub unreachable-requires : goal.unreachable-requires
unreachable-requires g c =
    let none : list_any is_present c.args.found.items ≡ false =
    ap (list_any is_present) (sym c.deref.ensures.value) ∙ sym c.has_present.ensures ∙ c.if-has_present.false in
    let rest = c.loop-found.invariant.absent
    ∙ ap (λ xs. map Absent c.loop-found.sections.items ++ xs) c.in-Some.ensures.steps.0 in
    none_among c.args.found.items none (present_at _ _ _ _ _ rest c.in-Present.is)
