use Rattle.std.proofs.Common.{◌≡◌, refl, replicate, rules}
use Rattle.ira_elim.proofs.PairSet.{no_words, no_pairs}
use Rattle.ira_elim.proofs.pair_set.PairSet.new.Goals as goal

pub invariant_of-result : goal.invariant_of-result
invariant_of-result g c =
    let zeros : c.in_ok-vec.field-0.items ≡ replicate 1024 0 = search rules in
    no_words c.in_ok-vec.field-0.items _ zeros refl

pub returns : goal.returns
returns g c =
    let zeros : c.in_ok-vec.field-0.items ≡ replicate 1024 0 = search rules in
    no_pairs c.in_ok-vec.field-0.items zeros
