use Rattle.std.proofs.Common.{◌≡◌, take}
use Rattle.ira_view_moment.specs.Moment.{whole_cut}
use Rattle.ira_view_moment.proofs.cuts.cut_at_end.Given as goal

abbrev pub invariant-loop-place : goal.invariant-loop-place
invariant-loop-place g l = l.cut.items ≡ whole_cut (take l.place l.logs)
