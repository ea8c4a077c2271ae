use Rattle.std.proofs.Common.{map, refl, subst, sym}
use Rattle.std.proofs.lemmas.Option.{slice_get_past, slice_get_read}
use Rattle.ira_audit.specs.RingAnswer.{IsRingAnswer}
use Rattle.ira_audit.specs.declared.answer.Answer.TheVariants.{No}
use Rattle.ira_audit.specs.declared.reason.Reason.{Reason}
use Rattle.ira_view_page.specs.declared.named_text.NamedText.{NamedText}
use Rattle.ira_view_explain.specs.Refused.{IsNoRingTold}
use Rattle.ira_view_explain.proofs.LogFiles.{file_fault, file_there}
use Rattle.ira_view_explain.proofs.explain.explain_no_ring.Goals as goal
use Rattle.ira_view_show.proofs.Lines.{ok_then}

pub explain_text-requires : goal.explain_text-requires
explain_text-requires g c =
    let files = c.args.files.now in
    let number = c.in-Log.number in
    let lookup = c.in-Some.ensures.lookup in
    let answer = subst (λ (r : Reason). IsRingAnswer (map (λ (x : NamedText). x.text.now) files) (No r)) c.in-Log.is
    c.requires.0 in
    file_fault files number c.in-Log.fault c.in-Some.file.now answer
    (slice_get_read files _ number c.in-Some.file.now refl lookup.3.0 lookup.1)

pub unreachable-requires : goal.unreachable-requires
unreachable-requires g c =
    let files = c.args.files.now in
    let number = c.in-Log.number in
    let answer = subst (λ (r : Reason). IsRingAnswer (map (λ (x : NamedText). x.text.now) files) (No r)) c.in-Log.is
    c.requires.0 in
    file_there files number c.in-Log.fault answer (slice_get_past files number c.in-None.ensures.lookup.3)

pub returns-in-Some-clause-told : goal.returns-in-Some-clause-told
returns-in-Some-clause-told g c =
    let files = c.args.files.now in
    let lookup = c.in-Some.ensures.lookup in
    let there = slice_get_read files _ c.in-Log.number c.in-Some.file.now refl lookup.3.0 lookup.1 in
    ok_then _ _ c.explain_text.result (λ e told.
    subst (λ (r : Reason). IsNoRingTold files r e.evidence.items) (sym c.in-Log.is) (c.in-Some.file.now, there, told))
    c.explain_text.ensures.told
