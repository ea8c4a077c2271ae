use Rattle.std.proofs.Common.{ℕ, List}
use Rattle.ira_event.specs.declared.log_head.LogHead.{LogHead}
use Rattle.ira_event.specs.LogTextFault.{BeginsWithHead}
use Rattle.ira_view_page.specs.declared.named_text.NamedText.{NamedText}
use Rattle.ira_view_page.proofs.ForEach.{AreSoFar}
use Rattle.ira_view_explain.proofs.heads_finding.read_heads.Given as goal

abbrev pub invariant-loop-file : goal.invariant-loop-file
invariant-loop-file g l =
    AreSoFar (λ (i : ℕ) (file : NamedText) (head : LogHead). (rest : List ℕ) × BeginsWithHead file.text.now head rest)
    l.files l.file-index l.heads.items
