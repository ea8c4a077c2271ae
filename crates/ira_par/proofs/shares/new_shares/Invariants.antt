use Rattle.std.proofs.Common.{◌≡◌, All, length}
use Rattle.ira_par.proofs.shares.new_shares.Given as goal

abbrev pub invariant-loop : goal.invariant-loop
invariant-loop g l = record {
  count : length l.shares.items ≡ l.counter;
  room : All (λ share. share.places ≡ l.places) l.shares.items;
}
