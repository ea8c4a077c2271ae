use Rattle.std.proofs.Common.{inl, inr, refl, sym, subst}
use Rattle.ira_cert.specs.declared.queue_head.QueueHead.{QueueHead}
use Rattle.ira_cert.specs.QueueHead.{IsQueueHead}
use Rattle.ira_cert.specs.Front.{IsFront}
use Rattle.ira_cert.specs.SectionFault.{not_front, not_before}
use Rattle.ira_cert.proofs.QueueHeads.{one_front}
use Rattle.ira_cert.proofs.soundness.judge_step.Goals as goal
use Rattle.ira_cert.proofs.soundness.judge_step.Goals.{then-step-front-via-then-step-front}
use Rattle.ira_cert.proofs.soundness.judge_step.Goals.{then-step-front-via-else-step-front+then-step-other_front}

pub returns-then-step-front-clause-verdict : goal.returns-then-step-front-clause-verdict
returns-then-step-front-clause-verdict g c = λ case before differ own other.
    let logs = (g.C.HappenedBefore.logs_of c.args.ordered.now) in let s = c.args.step.now in
    let front : IsFront logs case before s.node c.in-First.front =
    subst (λ (l : QueueHead). IsQueueHead logs case before s.node l) c.in-First.is own in
    let other_front : IsFront logs case before s.other c.in-First-other.other_front =
    subst (λ (l : QueueHead). IsQueueHead logs case before s.other l) c.in-First-other.is other in
    not_front c.if-step.false (c.in-First.front, front) (c.in-First-other.other_front, other_front)
    (elim c.then-step-front.branch [
      | then-step-front-via-then-step-front w ↦
          inl (λ is. w.if-step-front.true (one_front logs case before s.node s.pos c.in-First.front differ is front))
      | then-step-front-via-else-step-front+then-step-other_front w ↦
          inr (λ is. w.if-step-other_front.true
          (one_front logs case before s.other s.other_pos c.in-First-other.other_front differ is other_front))
    ])
    refl

pub returns-then-not-rules_out-clause-verdict : goal.returns-then-not-rules_out-clause-verdict
returns-then-not-rules_out-clause-verdict g c = λ case before differ own other.
    let logs = (g.C.HappenedBefore.logs_of c.args.ordered.now) in let s = c.args.step.now in
    let front : IsFront logs case before s.node c.in-First.front =
    subst (λ (l : QueueHead). IsQueueHead logs case before s.node l) c.in-First.is own in
    let other_front : IsFront logs case before s.other c.in-First-other.other_front =
    subst (λ (l : QueueHead). IsQueueHead logs case before s.other l) c.in-First-other.is other in
    not_before c.if-step.false
    (subst (IsFront logs case before s.node) (sym c.if-step-front.false) front)
    (subst (IsFront logs case before s.other) (sym c.if-step-other_front.false) other_front)
    (λ before. (let t = c.rules_out.ensures.before.1 before in cc))
    refl
