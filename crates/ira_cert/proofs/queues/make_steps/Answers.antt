use Rattle.std.proofs.Common.{◌≡◌, ◌∙◌, ℕ, get_or, take, refl, subst, arith}
use Rattle.std.proofs.lemmas.Option.{slice_get-get_or, slice_get_within}
use Rattle.std.specs.Prelude.{Some}
use Rattle.ira_cert_text.specs.declared.cert_step.CertStep.{CertStep}
use Rattle.ira_cert.specs.QueuesAfter.{AreQueuesAfter}
use Rattle.ira_cert.specs.SoundSection.{AreSoundSteps}
use Rattle.ira_cert.proofs.QueueHeads.{all_left, left_on}
use Rattle.ira_cert.proofs.Prefixes.{sound_below, sound_more}
use Rattle.ira_cert.proofs.queues.make_steps.Goals as goal
use Rattle.ira_cert.proofs.queues.make_steps.Goals.{then-from-queues, else-from-queues}

-- what is read past the end of a list of steps
none : CertStep
none = record { node = 0; pos = 0; other = 0; other_pos = 0 }

pub loop-early-init : goal.loop-early-init
loop-early-init g c = λ case differ queues sound.
    all_left (g.C.HappenedBefore.logs_of c.args.ordered.now) case c.args.queues.now queues

pub loop-early-preserved : goal.loop-early-preserved
unfolding none
loop-early-preserved g c = λ case differ queues sound.
    let logs = g.C.HappenedBefore.logs_of c.args.ordered.now in let steps = c.args.steps.now in
    let k = c.loop-early.early in
    let s : CertStep = get_or steps k none in
    let at = slice_get-get_or steps k none (omega (arith, c.loop-early-test.true, c.requires.range)) in
    let so_far = c.loop-early.invariant case differ queues sound in
    let next = sound_below logs case steps c.args.from sound k s c.loop-early-test.true at in
    elim c.if-from-queues.branch [
      | then-from-queues w ↦ left_on logs case differ steps k s at next c.loop-early.queues so_far
          c.if-from-queues.queues (w.queues-is ∙ w.eliminate.ensures)
      | else-from-queues w ↦
          let own = so_far.asked s.node (next.front.1.formula, next.front.1.asked) in
          absurd (omega (
            arith,
            slice_get_within c.loop-early.queues s.node (Some own.0) own.1,
            c.from.ensures,
            w.if-from-queues.false,
          ))
    ]

pub loop-k-init : goal.loop-k-init
loop-k-init g c = record {
  known = tt;
  made = λ case differ queues sound.
      let end : c.loop-early.early ≡ c.args.from = omega (arith, c.loop-early-test.false, c.loop-early.auto.early-end) in (
        sound,
        subst (λ (n : ℕ). AreQueuesAfter (g.C.HappenedBefore.logs_of c.args.ordered.now) case (take n c.args.steps.now)
            c.loop-early.queues) end (c.loop-early.invariant case differ queues sound),
      );
}

pub returns-in-Err : goal.returns-in-Err
unfolding none
returns-in-Err g c = λ case differ queues sound.
    let steps = c.args.steps.now in let k = c.loop-k.k in
    let so_far = c.loop-k.invariant.made case differ queues sound in (
      k,
      c.in-Err.why,
      refl,
      record {
        before = so_far.0;
        step = get_or steps k none;
        at = slice_get-get_or steps k none (omega (arith, c.loop-k-test.true, c.requires.range));
        reason = c.in-Err.ensures.verdict case (take k steps) differ so_far.1;
      },
    )

pub loop-k-preserved : goal.loop-k-preserved
unfolding none
loop-k-preserved g c =
    let logs = (g.C.HappenedBefore.logs_of c.args.ordered.now) in let steps = c.args.steps.now in let k = c.loop-k.k in
    let at = slice_get-get_or steps k none (omega (arith, c.loop-k-test.true, c.requires.range)) in
    record {
      known = c.check_step.ensures.known;
      made = λ case differ queues sound.
          let so_far = c.loop-k.invariant.made case differ queues sound in
          let next = c.in_default.ensures.verdict case (take k steps) differ so_far.1 in (
            sound_more logs case steps k (get_or steps k none) at so_far.0 next,
            left_on logs case differ steps k (get_or steps k none) at next c.loop-k.queues so_far.1
                c.eliminate-in-loop-k.new.queues c.eliminate-in-loop-k.ensures,
          );
    }

pub returns : goal.returns
returns g c = λ case differ queues sound.
    let logs = (g.C.HappenedBefore.logs_of c.args.ordered.now) in
    let end : c.loop-k.k ≡ c.args.to = omega (arith, c.loop-k-test.false, c.loop-k.auto.k-end, c.requires.range) in
    subst (λ (n : ℕ). AreSoundSteps logs case (take n c.args.steps.now)
    × AreQueuesAfter logs case (take n c.args.steps.now) c.loop-k.queues) end
    (c.loop-k.invariant.made case differ queues sound)
