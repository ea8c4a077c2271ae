use Rattle.std.proofs.Common.{map, take, subst, rules}
use Rattle.ira_audit.specs.RingAudit.{HasTaken}
use Rattle.ira_audit.proofs.LogTexts.{lent, next_taken, all_taken}
use Rattle.ira_audit.proofs.ring_audit.RingAudit.of_texts.Goals as goal

pub loop-text-preserved : goal.loop-text-preserved
loop-text-preserved g c =
    let texts = map (λ t. t.now) c.args.texts.now in
    let at = lent c.args.texts.now c.loop-text.text-index _ (search rules) in
    subst (HasTaken c.take.new.self) (next_taken texts c.loop-text.text-index _ at)
    (c.in_ok-take.ensures.ok (take c.loop-text.text-index texts) c.loop-text.invariant)

pub returns : goal.returns
returns g c =
    subst (HasTaken c.loop-text.audit) (all_taken c.args.texts.now c.loop-text.text-index (search rules))
    c.loop-text.invariant
