use Rattle.std.proofs.Common.{◌∙◌, ap, arith, refl, sym}
use Rattle.std.proofs.lemmas.Option.{slice_get_read}
use Rattle.ira_event.specs.declared.log_head.LogHead.{LogHead}
use Rattle.ira_view_explain.proofs.Places.{all_other, one_other}
use Rattle.ira_view_explain.proofs.heads_finding.head_of.Goals as goal

pub loop-i-preserved : goal.loop-i-preserved
loop-i-preserved c =
    one_other c.args.heads.now c.args.place c.args.from c.loop-i.i c.index-heads-i.result
    (slice_get_read c.args.heads.now _ c.loop-i.i c.index-heads-i.result refl c.loop-i-test.true c.index-heads-i.is)
    (λ same. c.if-heads-i.false (sym (ap (λ (h : LogHead). h.place) c.index-heads-i.is) ∙ same)) c.loop-i.invariant

pub returns : goal.returns
returns c =
    all_other c.args.heads.now c.args.place c.args.from c.loop-i.i (omega (arith, c.loop-i-test.false))
    c.loop-i.invariant
