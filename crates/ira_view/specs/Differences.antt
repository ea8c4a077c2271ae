-- Where those who lead differ from those who are to.
use Rattle.std.specs.Prelude.{◌≡◌, ◌<◌, ◌↔◌, ℕ, List, [], Contains, length}
use Rattle.ira_event.specs.Log.{Log}
use Rattle.ira_view_moment.specs.Moment.{AreLeaders, IsMoment, Moment, whole_cut}
use Rattle.ira_view_moment.specs.Rounds.{AreRounds, DrawnRound}
use Rattle.ira_view_election.specs.ElectionAt.{SomeNodeLeads, StandsAt}
use Rattle.ira_view_election.specs.Election.{Standing, over, unfinished_text}
use Rattle.ira_view_show.specs.Leaders.{differences_text, missing_text}
use Rattle.ira_view_show.specs.Reasons.{AreReasonsBelow}
use Rattle.ira_view_show.specs.Summary.{leader_from}
use Rattle.ira_view_page.specs.declared.named_text.NamedText.{NamedText}

-- each node that is to lead is one of the ring
abbrev pub ArePlaces : List Log → List ℕ → Type 0
ArePlaces logs named = (place : ℕ) → Contains named place → place < length logs

-- the lines on the differences when the logs end, of nodes of the ring: none exactly where these lead then, and no other
pub record AreDifferences (logs : List Log) (named differences : List ℕ) : Type 0 where
  pub places : ArePlaces logs named
  pub moment : Moment
  pub is_end : IsMoment logs (whole_cut logs) moment
  pub text : differences ≡ differences_text named moment.nodes
  pub none : (differences ≡ []) ↔ AreLeaders moment named

-- why the nodes lead or don't then that have such a line, of logs in these files
pub record AreDifferencesExplained (files : List NamedText) (logs : List Log) (named text : List ℕ) : Type 0 where
  pub moment : Moment
  pub is_end : IsMoment logs (whole_cut logs) moment
  pub rounds : List DrawnRound
  pub drawn : AreRounds logs (whole_cut logs) rounds
  pub why : AreReasonsBelow files logs moment rounds named text

-- the line that no node leads when the logs end: none exactly where some node leads then
pub record TellsOfLeader (logs : List Log) (differences : List ℕ) : Type 0 where
  pub moment : Moment
  pub is_end : IsMoment logs (whole_cut logs) moment
  pub text : differences ≡ missing_text (leader_from 0 moment.nodes)
  pub none : (differences ≡ []) ↔ SomeNodeLeads moment

-- the lines on an election that isn't over when the logs end: none exactly where it is over then
pub record TellsUnfinished (logs : List Log) (lines : List ℕ) : Type 0 where
  pub standing : Standing
  pub stands : StandsAt logs (whole_cut logs) standing
  pub text : lines ≡ unfinished_text standing
  pub none : (lines ≡ []) ↔ (standing ≡ over)
