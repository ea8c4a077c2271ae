-- The words for what is wrong with a question's text.
use Rattle.std.specs.Prelude.{codes}
use Rattle.ira_event.specs.FaultWords.{FaultWords, in_words, numbered}
use Rattle.ira_pred.specs.declared.ask_fault.AskFault.{AskFault}
use Rattle.ira_pred.specs.declared.ask_fault.AskFault.TheVariants.{TooLong, Head, Line, Place, Depth, Empty, Cases, Cut}
use Rattle.ira_pred.specs.declared.ask_fault.AskFault.TheVariants.{Trailing, OutOfMemory}

-- what is wrong with a question's text, in words
abbrev pub ask_fault_words : AskFault → FaultWords
ask_fault_words TooLong = in_words (codes "too long")
ask_fault_words Head = in_words (codes "head")
ask_fault_words (Line k) = numbered (codes "line") k
ask_fault_words (Place k) = numbered (codes "place") k
ask_fault_words (Depth k) = numbered (codes "depth") k
ask_fault_words (Empty k) = numbered (codes "empty") k
ask_fault_words Cases = in_words (codes "cases")
ask_fault_words Cut = in_words (codes "cut")
ask_fault_words Trailing = in_words (codes "trailing")
ask_fault_words OutOfMemory = in_words (codes "out of memory")
