-- Logs that are written to files, one after the other.
use Rattle.std.proofs.Common.{◌≡◌, ℕ, ◌+◌, List, [], ◌∷◌, ◌++◌, Err, Ok, Some, ap, refl, subst, take}
use Rattle.std.specs.Borrow.{Bor}
use Rattle.std.specs.Prelude.{MatchResult, Result, slice_get}
use Rattle.ira_event.specs.Log.{Log}
use Rattle.ira_event.specs.LogText.{log_text}
use Rattle.ira_main_files.specs.FileName.{log_name}
use Rattle.ira_main_files.specs.Shelf.{NamesAll, Writing}
use Rattle.ira_audit.proofs.LogTexts.{next_taken}
use Rattle.ira_main.specs.LogFiles.{DraftsLogs, StopsInLogs, StopsNaming, WritesLogs}
use Rattle.ira_main.specs.LogFiles.StopsInLogs.{unnamed}
use Rattle.ira_main.specs.declared.program_fault.ProgramFault.{ProgramFault}

-- one log more was written
drafted_more : {S : Type 0} (writes : Writing S) (folder : List ℕ) (logs : List Log) (files : List writes.Written)
    (log : Log) (file : writes.Written) (a b c : S) → DraftsLogs writes folder logs files a b
    → writes.file (log_name folder log.place) (log_text log) b (Ok file) c
    → DraftsLogs writes folder (logs ++ log ∷ []) (files ++ file ∷ []) a c
drafted_more writes folder [] files log file a b c before wrote = (
  file,
  [],
  c,
  ap (λ xs. xs ++ file ∷ []) before.0,
  subst (λ s. writes.file (log_name folder log.place) (log_text log) s (Ok file) c) before.1 wrote,
  (refl, refl),
)
drafted_more writes folder (x ∷ xs) files log file a b c (first, rest, between, parts, written, more) wrote = (
  first,
  rest ++ file ∷ [],
  between,
  ap (λ xs. xs ++ file ∷ []) parts,
  written,
  drafted_more writes folder xs rest log file between b c more wrote,
)

-- the logs up to a place were written, and then the one there
pub drafted_next : {S : Type 0} (writes : Writing S) (folder : List ℕ) (logs : List Log) (files : List writes.Written)
    (i : ℕ) (log : Log) (file : writes.Written) (a b c : S) → slice_get logs i ≡ Some log
    → DraftsLogs writes folder (take i logs) files a b
    → writes.file (log_name folder log.place) (log_text log) b (Ok file) c
    → DraftsLogs writes folder (take (i + 1) logs) (files ++ file ∷ []) a c
drafted_next writes folder logs files i log file a b c at before wrote =
    subst (λ xs. DraftsLogs writes folder xs (files ++ file ∷ []) a c) (next_taken logs i log at)
    (drafted_more writes folder (take i logs) files log file a b c before wrote)

-- one file more got its name
pub named_more : {S : Type 0} (writes : Writing S) (files : List writes.Written) (file : writes.Written) (a b c : S)
    → NamesAll writes files a b → writes.keep b file (Ok tt) c → NamesAll writes (files ++ file ∷ []) a c
named_more writes [] file a b c same named =
    (c, subst (λ s. writes.keep s file (Ok tt) c) same named, refl)
named_more writes (x ∷ xs) file a b c (between, first, more) named =
    (between, first, named_more writes xs file between b c more named)

-- the logs were written, and what comes of naming their files is what comes of all
pub named_or_not : {A S : Type 0} (writes : Writing S) (folder : Bor (List ℕ)) (logs : List Log)
    (files : List writes.Written) (a b c : S) (result : Result (Unit {0}) (ProgramFault A))
    → DraftsLogs writes folder.now logs files a b
    → MatchResult result (λ _. NamesAll writes files b c) (StopsNaming writes folder files b c)
    → MatchResult result (λ _. WritesLogs writes folder.now logs a c) (StopsInLogs writes folder logs a c)
named_or_not writes folder logs files a b c (Ok _) drafted named =
    record { files = files; between = b; drafted = drafted; named = named }
named_or_not writes folder logs files a b c (Err _) drafted stopped = unnamed files b drafted stopped
