use Rattle.std.proofs.Common.{map, take}
use Rattle.ira_audit.specs.RingAudit.{HasTaken}
use Rattle.ira_audit.proofs.ring_audit.RingAudit.of_texts.Given as goal

abbrev pub invariant-loop-text : goal.invariant-loop-text
invariant-loop-text g l = HasTaken l.audit (take l.text-index (map (λ t. t.now) l.texts))
