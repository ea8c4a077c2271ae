use Rattle.std.proofs.Common.{◌<◌, length}
use Rattle.ira_view_picture.proofs.laps.Exchanges.lap.Given as goal

abbrev pub invariant-loop : goal.invariant-loop
invariant-loop g l = l.pair.link < length l.self.logs.now
