use Rattle.std.proofs.Common.{◌≡◌, ◌+◌, List, Some, slice_get, subst, arith}
use Rattle.ira_event.specs.Log.{Log}
use Rattle.ira_cert.proofs.Past.{first_exists, second_exists, second_is_numbered}
use Rattle.ira_cert.proofs.soundness.rules_out.Goals as goal
use Rattle.ira_cert.proofs.soundness.rules_out.Goals.{then-step-eq0-via-then-step-eq0}
use Rattle.ira_cert.proofs.soundness.rules_out.Goals.{then-step-eq0-via-else-step-eq0+then-step-len-2}

pub returns-then-step-len-clause-before : goal.returns-then-step-len-clause-before
returns-then-step-len-clause-before g c =
    let logs = (g.C.HappenedBefore.logs_of c.args.ordered.now) in let s = c.args.step.now in
    let at = subst (λ (ls : List Log). slice_get ls s.node
    ≡ Some c.log.result.now) c.logs-logs.ensures c.log.ensures.value in (
      λ t. cc,
      λ before. absurd (first_exists logs s.node (s.pos + 1) s.other s.other_pos c.log.result.now at
          (omega (arith, c.len.ensures.value)) before),
    )

pub returns-then-step-eq0-clause-before : goal.returns-then-step-eq0-clause-before
returns-then-step-eq0-clause-before g c =
    let logs = (g.C.HappenedBefore.logs_of c.args.ordered.now) in let s = c.args.step.now in
    elim c.then-step-eq0.branch [
      | then-step-eq0-via-then-step-eq0 w ↦ (
        λ t. cc,
        λ before. absurd
            (second_is_numbered logs s.node (s.pos + 1) s.other s.other_pos w.if-step-eq0.true before),
      )
      | then-step-eq0-via-else-step-eq0+then-step-len-2 w ↦
          let log = w.log-else-step-eq0.result.now in
          let at = subst (λ (ls : List Log). slice_get ls s.other
          ≡ Some log) c.logs-logs.ensures w.log-else-step-eq0.ensures.value in (
            λ t. cc,
            λ before. absurd (second_exists logs s.node (s.pos + 1) s.other s.other_pos log at
                (omega (arith, w.len-else-step-eq0.ensures.value)) before),
          )
    ]
