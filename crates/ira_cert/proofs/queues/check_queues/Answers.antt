use Rattle.std.proofs.Common.{◌≡◌, ℕ, List, Option, sym, ◌∙◌, ap, subst, drop, length, take, arith}
use Rattle.std.proofs.lemmas.List.{take_at, take_all}
use Rattle.ira_pred.specs.Case.{Conjunct}
use Rattle.ira_cert_text.specs.declared.cert_step.CertStep.{CertStep}
use Rattle.ira_cert_text.specs.Certificate.{Section}
use Rattle.ira_cert.specs.Conjuncts.{HasDifferentPlaces}
use Rattle.ira_cert.specs.Queues.{AreQueues}
use Rattle.ira_cert.specs.QueuesAfter.{AreQueuesAfter}
use Rattle.ira_cert.specs.SoundSection.{AreSoundSteps}
use Rattle.ira_cert.proofs.Judged.{first_is_fault, left_is_fault, empty_is_sound}
use Rattle.ira_cert.proofs.queues.check_queues.Goals as goal
use Rattle.ira_cert.proofs.queues.check_queues.Goals.{After-is_spent}

pub returns-in-Err : goal.returns-in-Err
returns-in-Err g c = λ case differ queues.
    let logs = (g.C.HappenedBefore.logs_of c.args.ordered.now) in
    let steps : c.as_slice-steps.result.now ≡ c.args.section.now.steps =
    c.as_slice-steps.ensures.value ∙ ap (λ (s : Section). s.steps) c.section.view_is in
    let given = subst (λ (fs : List (Option (List ℕ))). AreQueues logs case fs) (sym c.deref_mut.ensures.value) queues
    in
    first_is_fault logs case c.args.section.now c.as_slice-steps.result.now steps c.in-Err.fault
    (c.in-Err.ensures case differ given (λ k s at. cc))

-- all steps
abbrev all : (g : _) (c : After-is_spent g) → List CertStep
all g c = take (length c.as_slice-steps.result.now) c.as_slice-steps.result.now

all_are : (g : _) (c : After-is_spent g) → all g c ≡ c.args.section.now.steps
all_are g c = take_all (length c.as_slice-steps.result.now) c.as_slice-steps.result.now (omega arith)
    ∙ c.as_slice-steps.ensures.value
    ∙ ap (λ (s : Section). s.steps) c.section.view_is

-- are sound, and leave what is looked at
made : (g : _) (c : After-is_spent g) (case : List Conjunct) → HasDifferentPlaces case
    → AreQueues (g.C.HappenedBefore.logs_of c.args.ordered.now) case c.args.queues.items
    → AreSoundSteps (g.C.HappenedBefore.logs_of c.args.ordered.now) case (all g c)
    × AreQueuesAfter (g.C.HappenedBefore.logs_of c.args.ordered.now) case (all g c) c.deref.result.now
made g c case differ queues =
    let logs = (g.C.HappenedBefore.logs_of c.args.ordered.now) in
    let given = subst (λ (fs : List (Option (List ℕ))). AreQueues logs case fs) (sym c.deref_mut.ensures.value) queues
    in
    let whole : c.deref.result.now ≡ c.make_steps.new.queues =
    c.deref.ensures.value ∙ take_at c.make_steps.new.queues
    (drop (length c.make_steps.new.queues) c.args.queues.items) c.args.queues.len (c.make_steps.auto.queues
    ∙ c.deref_mut.ensures.len) in
    let so_far = c.in_default.ensures case differ given (λ k s at. cc) in (
      so_far.0,
      subst (λ (fs : List (Option (List ℕ))). AreQueuesAfter logs case (all g c) fs) (sym whole) so_far.1,
    )

pub returns-then-not-is_spent : goal.returns-then-not-is_spent
returns-then-not-is_spent g c = λ case differ queues.
    let at = (goal.at.returns-then-not-is_spent g c).After-is_spent in
    left_is_fault (g.C.HappenedBefore.logs_of c.args.ordered.now) case c.args.section.now (all g at) (all_are g at)
    differ c.deref.result.now (made g at case differ queues) c.section.inside.spent
    (ap (λ (s : Section). s.spent) c.section.view_is) (λ empty. (let t = c.is_spent.ensures.1 empty in cc))

pub returns : goal.returns
returns g c = λ case differ queues.
    let at = (goal.at.returns g c).After-is_spent in
    empty_is_sound (g.C.HappenedBefore.logs_of c.args.ordered.now) case c.args.section.now (all g at) (all_are g at)
    differ c.deref.result.now (made g at case differ queues) c.section.inside.spent
    (ap (λ (s : Section). s.spent) c.section.view_is) (c.is_spent.ensures.0 c.if-not-is_spent.false)
