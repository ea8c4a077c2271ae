use Rattle.ira_view_moment.specs.Drawing.{DrewBefore}
use Rattle.ira_view_moment.specs.NodeProgress.{Reaches}
use Rattle.ira_view_moment.specs.Rounds.{AreRoundsOf}
use Rattle.ira_view_moment.proofs.rounds.Rounds.of.Given as goal

abbrev pub invariant-loop-place : goal.invariant-loop-place
invariant-loop-place g l = AreRoundsOf (DrewBefore l.logs l.cut l.place 0) l.rounds

abbrev pub invariant-loop-k : goal.invariant-loop-k
invariant-loop-k g l = record {
  reached : Reaches l.log l.k l.state;
  rounds : AreRoundsOf (DrewBefore l.logs l.cut l.place l.k) l.rounds;
}
