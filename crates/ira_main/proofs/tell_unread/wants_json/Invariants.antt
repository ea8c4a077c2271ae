use Rattle.std.proofs.Common.{◌≡◌, drop, map}
use Rattle.ira_main.specs.Unread.{wants_json}
use Rattle.ira_main.proofs.tell_unread.wants_json.Given as goal

abbrev pub invariant-loop-word : goal.invariant-loop-word
invariant-loop-word l =
    wants_json (map (λ word. word.now) l.words)
    ≡ wants_json (map (λ word. word.now) (drop l.word-index l.words))
