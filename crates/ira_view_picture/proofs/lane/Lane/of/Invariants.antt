use Rattle.std.proofs.Common.{◌≡◌}
use Rattle.ira_view_picture.specs.Lane.{AreMarks, IsReplayed, IsStart}
use Rattle.ira_view_picture.specs.Traffic.{IsTraffic}
use Rattle.ira_view_picture.proofs.lane.Lane.of.Given as goal

abbrev pub invariant-loop-k : goal.invariant-loop-k
invariant-loop-k g l = record {
  events : l.replay.events ≡ l.k;
  replayed : IsReplayed l.log l.k l.replay.end l.replay.first_fault;
  marks : AreMarks l.log l.columns l.window l.k l.marks.items;
  start : IsStart l.log l.columns l.window l.k l.start;
  traffic : IsTraffic l.log l.k l.traffic;
}
