use Rattle.std.proofs.Common.{◌≤◌, length, take}
use Rattle.ira_mend.specs.RecordedLogs.{HasRecorded}
use Rattle.ira_view.specs.Texts.{texts_of}
use Rattle.ira_commands.proofs.begun.take_left.Given as goal

abbrev pub invariant-loop-file : goal.invariant-loop-file
invariant-loop-file g l = record {
  within : l.file-index ≤ length l.texts;
  taken : HasRecorded l.recorded (take l.file-index (texts_of l.texts));
}
