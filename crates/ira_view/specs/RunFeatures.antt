-- What the run of a ring had, by its logs.
use Rattle.std.specs.Prelude.{◌≡◌, ◌&&◌, Bool, List, None, Option, Some, count_by, false, length, nat_lt, not, true}
use Rattle.std.specs.List.{list_any}
use Rattle.ira_event.specs.Log.{Log}
use Rattle.ira_view_json.specs.declared.run_features.RunFeatures.{RunFeatures}
use Rattle.ira_view_moment.specs.Moment.{IsMoment, Moment, whole_cut}
use Rattle.ira_view_moment.specs.NodeProgress.{is_draw}
use Rattle.ira_view_moment.specs.Rounds.{AreRounds, DrawnRound}

-- the log is of a node that isn't an initiator, and that drew: so a reset woke it
abbrev pub is_woken : Log → Bool
is_woken log = not log.initiator && nat_lt 0 (count_by is_draw log.events)

-- it had a tie just where several nodes drew the greatest ID of a round by the end of the logs; and so a second round, where
-- one drew in it, a second term, where one came to it, a wake-up, and a dropped message
pub record HasFeatures (logs : List Log) (run : RunFeatures) : Type 0 where
  pub moment : Moment
  pub is_end : IsMoment logs (whole_cut logs) moment
  pub rounds : List DrawnRound
  pub drawn : AreRounds logs (whole_cut logs) rounds
  pub tie : run.tie ≡ list_any (λ r. nat_lt 1 (length r.greatest_of)) rounds
  pub second_round : run.second_round ≡ list_any (λ r. nat_lt 1 r.number) rounds
  pub second_term : run.second_term ≡ list_any (λ p. nat_lt 1 p.state.term) moment.nodes
  pub wake_up : run.wake_up ≡ list_any is_woken logs
  pub dropped : run.dropped ≡ list_any (λ p. nat_lt 0 p.dropped) moment.nodes

-- that is said where it is asked
abbrev pub AreFeatures : Bool → List Log → Option RunFeatures → Type 0
AreFeatures true logs (Some run) = HasFeatures logs run
AreFeatures true logs None = ⊥
AreFeatures false logs run = run ≡ None
