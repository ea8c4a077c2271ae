use Rattle.std.proofs.Common.{◌≡◌, map, take}
use Rattle.ira_main.proofs.source_names.given_names.Given as goal

abbrev pub invariant-loop-word : goal.invariant-loop-word
invariant-loop-word g l = l.names.items ≡ map (λ word. word.now) (take l.word-index l.words)
