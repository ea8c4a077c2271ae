-- The words for why logs aren't those of one ring.
use Rattle.std.specs.Prelude.{codes}
use Rattle.ira_event.specs.declared.head_fault.HeadFault.{HeadFault}
use Rattle.ira_event.specs.declared.head_fault.HeadFault.TheVariants.{Number, Size, Place, Version}
use Rattle.ira_event.specs.FaultWords.{FaultWords, in_words, numbered}

-- why logs aren't those of one ring, in words
abbrev pub head_fault_words : HeadFault → FaultWords
head_fault_words Number = in_words (codes "number")
head_fault_words (Size i) = numbered (codes "size") i
head_fault_words (Place i) = numbered (codes "place") i
head_fault_words (Version i) = numbered (codes "version") i
