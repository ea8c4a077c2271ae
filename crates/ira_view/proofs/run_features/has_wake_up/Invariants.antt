use Rattle.std.proofs.Common.{◌≡◌, false, take}
use Rattle.std.specs.List.{list_any}
use Rattle.ira_view.specs.RunFeatures.{is_woken}
use Rattle.ira_view.proofs.run_features.has_wake_up.Given as goal

abbrev pub invariant-loop-place : goal.invariant-loop-place
invariant-loop-place g l = list_any is_woken (take l.place l.logs) ≡ false
