use Rattle.std.proofs.Common.{◌≤◌, length, take}
use Rattle.ira_audit.specs.RingAudit.{HasTaken}
use Rattle.ira_view.specs.Texts.{texts_of}
use Rattle.ira_view.proofs.taken.take_texts.Given as goal

abbrev pub invariant-loop-file : goal.invariant-loop-file
invariant-loop-file g l = record {
  within : l.file-index ≤ length l.texts;
  taken : HasTaken l.audit (take l.file-index (texts_of l.texts));
}
