-- The words for why a step isn't sound.
use Rattle.std.specs.Prelude.{ℕ, List, codes}
use Rattle.ira_cert.specs.declared.unsound.Unsound.{Unsound}
use Rattle.ira_cert.specs.declared.unsound.Unsound.TheVariants.{NotAsked, SameNode, NodeSpent, NotFront, NotBefore}

-- why a step isn't sound, in words
abbrev pub unsound_words : Unsound → List ℕ
unsound_words NotAsked = codes "not asked"
unsound_words SameNode = codes "same node"
unsound_words NodeSpent = codes "node spent"
unsound_words NotFront = codes "not front"
unsound_words NotBefore = codes "not before"
