use Rattle.std.proofs.Common.{◌≡◌, take}
use Rattle.ira_cert.proofs.profiles.searched_logs.Given as goal

abbrev pub invariant-loop-place : goal.invariant-loop-place
invariant-loop-place g l = l.searched.items ≡ take l.place l.logs
