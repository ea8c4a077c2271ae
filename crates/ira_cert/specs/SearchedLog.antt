-- A log in which candidates are searched for, however they are found.
use Rattle.ira_event.specs.Log.{Log}
use Rattle.ira_cert.specs.declared.searched_log.Form.{Form}
use Rattle.ira_cert.specs.declared.searched_log.Form.TheVariants.{Profiled, Whole}

-- the log that is searched
abbrev pub log_in : {A : Type 0} → Form A → Log
log_in (Profiled log) = log
log_in (Whole log) = log.now
