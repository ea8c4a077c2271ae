-- The upgrade of a log to version 2.
use Rattle.ira_event.specs.Log.{Log}

-- the log with version 2 and every other part equal
abbrev pub upgraded : Log → Log
upgraded log = record log { version = 2 }
