use Rattle.std.proofs.Common.{◌≡◌, ◌≤◌, ℕ, List, take, length, subst, sym, ◌∙◌, ap, arith}
use Rattle.std.proofs.lemmas.List.{take_all}
use Rattle.ira_cert_text.specs.declared.cert_step.CertStep.{CertStep}
use Rattle.ira_cert_text.specs.Certificate.{Section}
use Rattle.ira_view_evidence.specs.Absence.{ShowsAbsence}
use Rattle.ira_view_evidence.specs.Elimination.{AreOfSteps}
use Rattle.ira_view_evidence.proofs.Eliminations.{AreSoFar, all_absent, next_read, none_so_far, steps_read}
use Rattle.ira_view_evidence.proofs.absence.Absence.of_section.Goals as goal

pub loop-step-init : goal.loop-step-init
loop-step-init g c =
    rw c.new-eliminations.ensures.items ((λ logs case differ sound. none_so_far logs case), AreOfSteps.none)

pub loop-step-preserved : goal.loop-step-preserved
loop-step-preserved g c =
    let same : c.deref-step-items.result.now ≡ c.args.section.now.steps =
    c.deref-step-items.ensures.value ∙ ap (λ (s : Section). s.steps) c.section.view_is in (
      (λ logs case differ sound.
          next_read logs case differ c.args.section.now.steps c.deref-step-items.result.now same c.loop-step.step-index _
          c.loop-step-test.true sound c.loop-step.eliminations.items c.add_step.new.eliminations.items
          (c.loop-step.invariant.0 logs case differ sound) c.in_ok-add_step.ensures),
      steps_read c.args.section.now.steps c.deref-step-items.result.now same c.loop-step.step-index _
          c.loop-step-test.true c.loop-step.eliminations.items c.add_step.new.eliminations.items c.loop-step.invariant.1
          c.in_ok-add_step.ensures,
    )

pub returns : goal.returns
returns g c =
    let steps = c.args.section.now.steps in
    let all = c.loop-step.eliminations.items in
    let same : c.deref-step-items.result.now ≡ steps =
    c.deref-step-items.ensures.value ∙ ap (λ (s : Section). s.steps) c.section.view_is in
    let end : length steps ≤ c.loop-step.step-index =
    (let e = ap (λ (xs : List CertStep). length xs) same in omega (arith, e)) in
    let whole : take c.loop-step.step-index steps ≡ steps = take_all c.loop-step.step-index steps end in
    let spent = ap (λ (s : Section). s.spent) c.section.view_is in
    record {
      absence = λ logs case differ sound.
          let so_far = subst (λ (xs : List CertStep). AreSoFar logs case xs all) whole
          (c.loop-step.invariant.0 logs case differ sound.steps) in
          subst (λ (i : ℕ). ShowsAbsence logs case all i) (sym spent)
          (all_absent logs case c.args.section.now all differ sound so_far);
      steps = subst (λ (xs : List CertStep). AreOfSteps xs all) whole c.loop-step.invariant.1;
      spent = spent;
    }
