use Rattle.std.proofs.Common.{◌≢◌, ◌⊎◌, ℕ, ◌<◌, length}
use Rattle.ira_mend.specs.Longest.{AreBeginnings, BoundsAll, HasSendings, total_kept}
use Rattle.ira_mend.proofs.longest.longest_beginnings.Given as goal

abbrev pub invariant-loop-link : goal.invariant-loop-link
invariant-loop-link g l = record {
  are : AreBeginnings l.logs l.kept.items;
  bounds : BoundsAll l.logs l.kept.items;
  settled : (i : ℕ) → i < l.link → (0 < i) ⊎ (l.link < length l.logs) → HasSendings l.kept.items i;
}

abbrev pub invariant-loop-link-2 : goal.invariant-loop-link-2
invariant-loop-link-2 g l = record {
  are : AreBeginnings l.logs l.kept.items;
  bounds : BoundsAll l.logs l.kept.items;
  within : l.link < length l.logs;
  settled : (i : ℕ) → i < length l.logs → i ≢ l.link → HasSendings l.kept.items i;
}

abbrev pub decreases-loop-link-2 : goal.decreases-loop-link-2
decreases-loop-link-2 g l = total_kept l.kept.items
