use Rattle.std.proofs.Common.{◌≤◌, List, ℕ, length, take}
use Rattle.std.specs.List.{AllZip}
use Rattle.ira_web.specs.Told.{AreParts, Holds}
use Rattle.ira_web.proofs.told.Told.of_replies.Given as goal

abbrev pub invariant-loop-reply : goal.invariant-loop-reply
invariant-loop-reply g l = record {
  within : l.reply-index ≤ length l.replies;
  parts : List (List (List ℕ));
  are : AllZip AreParts (take l.reply-index l.replies) parts;
  held : Holds parts l.told;
}
