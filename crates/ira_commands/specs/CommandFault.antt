-- Why a command is refused.
use Rattle.std.specs.Prelude.{ℕ, List, None, Option, Some, ◌++◌, codes}
use Rattle.ira_ask.specs.declared.sentence_fault.SentenceFault.{SentenceFault}
use Rattle.ira_ask.specs.declared.sentence_fault.SentenceFault.TheVariants as sentence
use Rattle.ira_ask.specs.declared.sentence_part.SentencePart.{SentencePart}
use Rattle.ira_ask.specs.declared.sentence_part.SentencePart.TheVariants as of_sentence
use Rattle.ira_ask.specs.SentenceText.{word_of}
use Rattle.ira_view.specs.CutFaultLine.{cut_fault_text}
use Rattle.ira_view.specs.DrawFaultLine.{too_many_text}
use Rattle.ira_view.specs.RunFaultLine.{run_fault_text}
use Rattle.ira_commands.specs.declared.command_fault.CommandFault.{CommandFault}
use Rattle.ira_commands.specs.declared.command_fault.CommandFault.TheVariants.{CertificatePastLimits, NoCase, NoMoment, NoPlace}
use Rattle.ira_commands.specs.declared.command_fault.CommandFault.TheVariants.{NoSentence, RingSize, RunRefused, TooManyEvents, WrongColumns}

-- what may stand after a part of a sentence, or at its beginning
abbrev pub due_after : Option SentencePart → List ℕ
due_after None = codes "a sentence begins with `any CLAUSE`, `all CLAUSE` or `node P CLAUSE`"
due_after (Some of_sentence.Any) =
    codes "after `any CLAUSE` may stand `, other CLAUSE`, `, each other CLAUSE` or `, all CLAUSE`"
due_after (Some of_sentence.Other) = codes "after `other CLAUSE` may stand `, each other CLAUSE` or `, all CLAUSE`"
due_after (Some of_sentence.EachOther) = codes "after `each other CLAUSE` may stand `, all CLAUSE`"
due_after (Some of_sentence.All) = codes "after `all CLAUSE` nothing may stand"

-- the line on a text that has no question
abbrev pub sentence_fault_text : SentenceFault → List ℕ
sentence_fault_text sentence.TooLong = codes "ira: a sentence has at most 65,536 bytes\n"
sentence_fault_text (sentence.NoPart last) = codes "ira: " ++ due_after last ++ codes "; see `ira guide questions`\n"
sentence_fault_text (sentence.NoClause part) =
    codes "ira: after `" ++ word_of part
    ++ codes "` a clause is due, as `leader` or `(active and round > 1)`; see `ira guide questions`\n"
sentence_fault_text sentence.NoNode =
    codes "ira: after `node ` a place and a clause are due, as `node 3 leader`; see `ira guide questions`\n"
sentence_fault_text sentence.NoPlace = codes "ira: SENTENCE names a node that the ring has not\n"
sentence_fault_text sentence.TooDeep = codes "ira: with that of all nodes a clause is nested deeper than 32\n"
sentence_fault_text sentence.ManyCases = codes "ira: a question has at most 32,385 cases\n"
sentence_fault_text sentence.LongQuestion = codes "ira: a question has at most 64 MiB\n"
sentence_fault_text sentence.OutOfMemory = codes "ira: out of memory\n"

-- its line on standard error
abbrev pub command_fault_text : CommandFault → List ℕ
command_fault_text RingSize = codes "ira: ring size\n"
command_fault_text (NoMoment fault) = cut_fault_text fault
command_fault_text NoCase = codes "ira: --case names a case that the question has not\n"
command_fault_text NoPlace = codes "ira: --leads names a node that the ring has not\n"
command_fault_text (TooManyEvents events) = too_many_text events
command_fault_text WrongColumns = codes "ira: a fault of ira: wrong columns of events\n"
command_fault_text (RunRefused fault) = run_fault_text fault
command_fault_text CertificatePastLimits = codes "ira: certificate past the limits\n"
command_fault_text (NoSentence fault) = sentence_fault_text fault
