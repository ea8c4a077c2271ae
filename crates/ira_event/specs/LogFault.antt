-- The words for what is wrong with a log's text.
use Rattle.std.specs.Prelude.{codes}
use Rattle.ira_event.specs.declared.log_fault.LogFault.{LogFault}
use Rattle.ira_event.specs.declared.log_fault.LogFault.TheVariants.{TooLong, Head, Line, Range, TooMany, Cut, Count}
use Rattle.ira_event.specs.declared.log_fault.LogFault.TheVariants.{Trailing, OutOfMemory}
use Rattle.ira_event.specs.FaultWords.{FaultWords, in_words, numbered}

-- what is wrong with a log's text, in words
abbrev pub log_fault_words : LogFault → FaultWords
log_fault_words TooLong = in_words (codes "too long")
log_fault_words Head = in_words (codes "head")
log_fault_words (Line k) = numbered (codes "line") k
log_fault_words (Range k) = numbered (codes "range") k
log_fault_words TooMany = in_words (codes "too many records")
log_fault_words Cut = in_words (codes "cut")
log_fault_words Count = in_words (codes "count")
log_fault_words Trailing = in_words (codes "trailing")
log_fault_words OutOfMemory = in_words (codes "out of memory")
