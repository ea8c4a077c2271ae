use Rattle.std.proofs.Common.{◌≡◌, ◌++◌, ◌-◌, map, ap, ◌∙◌, arith, append_assoc}
use Rattle.ira_pred.specs.Pairs.{numbers_from}
use Rattle.ira_ask.specs.Choices.{one, places_after, two}
use Rattle.ira_ask.proofs.Lists.{next_mapped, next_piece}
use Rattle.ira_ask.proofs.places.choices.Goals as goal

pub loop-i-preserved : goal.loop-i-preserved
loop-i-preserved g c =
    next_mapped one c.loop-i.i c.args.nodes c.loop-i.choices.items _ (omega (arith, c.loop-i-test.true))
    c.in_ok-push-in-One.ensures.items ∙ c.loop-i.invariant

pub loop-i-2-preserved : goal.loop-i-2-preserved
loop-i-2-preserved g c =
    let i = c.loop-i-2.i in
    let n = c.args.nodes in
    let old = c.loop-i-2.choices.items in
    let before = map (two i) (numbers_from 0 i) in
    let whole : i - 0 ≡ i = omega arith in
    let first = c.in_ok-push_pairs-in-Two.ensures ∙ ap (λ k. old ++ map (two i) (numbers_from 0 k)) whole in
    next_piece (λ k. map (two k) (numbers_from 0 k) ++ map (two k) (places_after n k)) i n old _
    (omega (arith, c.loop-i-2-test.true))
    (c.in_ok-push_pairs-in-Two-2.ensures ∙ ap (λ x. x ++ map (two i) (places_after n i)) first
    ∙ append_assoc old before (map (two i) (places_after n i))) ∙ c.loop-i-2.invariant

pub loop-i-3-preserved : goal.loop-i-3-preserved
loop-i-3-preserved g c =
    next_piece (λ k. map (two k) (places_after c.args.nodes k)) c.loop-i-3.i c.args.nodes c.loop-i-3.choices.items _
    (omega (arith, c.loop-i-3-test.true)) c.in_ok-push_pairs-in-Alike.ensures ∙ c.loop-i-3.invariant
