use Rattle.std.proofs.Common.{map, take}
use Rattle.ira_view.specs.Texts.{AreFiles}
use Rattle.ira_main.proofs.read_files.named_texts.Given as goal

abbrev pub invariant-loop-i : goal.invariant-loop-i
invariant-loop-i g l = AreFiles (take l.i l.names) (map (λ text. text.items) (take l.i l.texts)) l.named.items
