-- How moments and runs are spelled.
use Rattle.std.specs.Prelude.{ℕ, List, [], ◌∷◌, Option, None, Some, length}
use Rattle.ira_commands.specs.declared.ring_moment.RingMoment.{RingMoment}
use Rattle.ira_commands.specs.declared.ring_moment.RingMoment.TheVariants.{AtCut, AtEnd, OfQuestion}
use Rattle.ira_commands.specs.declared.asked_run.AskedRun.{AskedRun}
use Rattle.ira_commands.specs.declared.ring_leaders.RingLeaders.{RingLeaders}
use Rattle.ira_commands.specs.declared.ring_leaders.RingLeaders.TheVariants.{Any, NotAsked, Places}

-- the number of a case, if one is asked for
abbrev pub case_values : Option ℕ → List ℕ
case_values None = []
case_values (Some case) = case ∷ []

-- a moment
abbrev pub moment_values : RingMoment → List ℕ
moment_values AtEnd = []
moment_values (AtCut events) = 1 ∷ events.now
moment_values (OfQuestion case) = 2 ∷ case_values case

-- who is to lead: a number that says so, and how many places are named, and these; for any node the greatest number
abbrev pub leaders_values : RingLeaders → List ℕ
leaders_values NotAsked = []
leaders_values Any = 17 ∷ 18446744073709551615 ∷ []
leaders_values (Places places) = 17 ∷ length places.now ∷ places.now

-- a run
abbrev pub run_values : AskedRun → List ℕ
run_values asked = asked.nodes ∷ asked.initiators ∷ asked.seed ∷ asked.draws ∷ asked.cap ∷ asked.terms ∷ []
