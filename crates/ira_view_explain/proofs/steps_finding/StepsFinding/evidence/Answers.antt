use Rattle.std.proofs.Common.{◌∙◌, List, [], ◌∷◌, ◌++◌, ap, subst}
use Rattle.std.proofs.lemmas.Option.{slice_get-get_or}
use Rattle.ira_view_page.specs.declared.evidence.Evidence.TheVariants.{Faulty}
use Rattle.ira_view_explain.specs.declared.steps_finding.OtherStop.{OtherStop}
use Rattle.ira_view_explain.specs.Refused.{AreStepsTold}
use Rattle.ira_view_page.specs.Parts.{none}
use Rattle.ira_view_explain.proofs.Findings.{steps_all, steps_more}
use Rattle.ira_view_explain.proofs.steps_finding.StepsFinding.evidence.Goals as goal

pub loop-other-init : goal.loop-other-init
loop-other-init g c = record {
  named = c.in_ok-record.field-0;
  rest = [];
  parts = c.in_ok-push.ensures.items ∙ ap (λ ys. ys ++ Faulty c.in_ok-record.field-0 ∷ []) c.new-told.ensures.items;
  named_is = c.in_ok-record.ensures;
  others_are = none;
}

pub loop-other-preserved : goal.loop-other-preserved
loop-other-preserved g c =
    let others = c.deref-other-items.result.now in
    steps_more c.args.ring.now.files.now c.args.self.now.named.at c.args.self.now.log.stopped.event others
    c.loop-other.other-index _ c.loop-other.told.items _ c.in_ok-event.event
    (slice_get-get_or others c.loop-other.other-index _ c.loop-other-test.true) c.loop-other.invariant
    c.in_ok-event.ensures c.in_ok-push-2.ensures.items

pub returns : goal.returns
returns g c =
    let files = c.args.ring.now.files.now in
    let at = c.args.self.now.named.at in
    let event = c.args.self.now.log.stopped.event in
    subst (λ (others : List OtherStop). AreStepsTold files at event others c.loop-other.told.items)
    c.deref-other-items.ensures.value
    (steps_all files at event c.deref-other-items.result.now c.loop-other.other-index c.loop-other.told.items
    c.loop-other-test.false c.loop-other.invariant)
