-- The words for what is wrong with a certificate's text.
use Rattle.std.specs.Prelude.{codes}
use Rattle.ira_event.specs.FaultWords.{FaultWords, in_words, numbered}
use Rattle.ira_cert_text.specs.declared.cert_fault.CertFault.{CertFault}
use Rattle.ira_cert_text.specs.declared.cert_fault.CertFault.TheVariants.{TooLong, Head, Line, Range, TooMany, Cut}
use Rattle.ira_cert_text.specs.declared.cert_fault.CertFault.TheVariants.{Trailing, OutOfMemory}

-- what is wrong with a certificate's text, in words
abbrev pub cert_fault_words : CertFault → FaultWords
cert_fault_words TooLong = in_words (codes "too long")
cert_fault_words Head = in_words (codes "head")
cert_fault_words (Line k) = numbered (codes "line") k
cert_fault_words (Range k) = numbered (codes "range") k
cert_fault_words TooMany = in_words (codes "too many")
cert_fault_words Cut = in_words (codes "cut")
cert_fault_words Trailing = in_words (codes "trailing")
cert_fault_words OutOfMemory = in_words (codes "out of memory")
