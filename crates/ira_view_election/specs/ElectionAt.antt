-- How an election stands at a moment.
use Rattle.std.specs.Prelude.{ℕ, List}
use Rattle.ira_event.specs.Log.{Log}
use Rattle.ira_view_moment.specs.Moment.{IsMoment, LeadsAt, Moment}
use Rattle.ira_view_election.specs.Election.{Standing, goes_on, over}
use Rattle.ira_view_election.specs.Coming.{ComesNext}
use Rattle.ira_view_election.specs.Contenders.{NamesContenders}

-- some node leads at the moment
abbrev pub SomeNodeLeads : Moment → Type 0
SomeNodeLeads m = (i : ℕ) × LeadsAt m i

-- it is over where a node leads; where none does, these come next
abbrev pub Stands : Moment → Standing → Type 0
Stands m over = SomeNodeLeads m
Stands m (goes_on next contenders) = ¬ (SomeNodeLeads m) × ComesNext m next

-- the same of the moment of a cut
pub record StandsAt (logs : List Log) (cut : List ℕ) (standing : Standing) : Type 0 where
  pub moment : Moment
  pub of_cut : IsMoment logs cut moment
  pub stands : Stands moment standing
  pub names : NamesContenders logs cut standing
