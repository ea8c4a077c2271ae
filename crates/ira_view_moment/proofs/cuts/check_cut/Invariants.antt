use Rattle.std.proofs.Common.{ℕ, ◌<◌, length}
use Rattle.ira_order.specs.Cut.{IsCut}
use Rattle.ira_order.specs.Ring.{prev}
use Rattle.ira_view_moment.specs.CutFault.{HoldsSendings}
use Rattle.ira_view_moment.proofs.cuts.check_cut.Given as goal

abbrev pub invariant-loop-reader : goal.invariant-loop-reader
invariant-loop-reader g l = record {
  cut : IsCut l.logs l.cut;
  holds : (j : ℕ) → j < l.reader → HoldsSendings l.logs l.cut (prev (length l.logs) j);
}
