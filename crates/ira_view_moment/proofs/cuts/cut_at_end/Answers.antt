use Rattle.std.proofs.Common.{◌≡◌, ◌∙◌, ◌∷◌, ◌++◌, ◌≤◌, [], ap, arith, length, sym, take}
use Rattle.std.proofs.lemmas.List.{take_all}
use Rattle.ira_view_moment.specs.Moment.{whole_cut}
use Rattle.ira_view_moment.proofs.OnTheWay.{ends_more, whole_is_consistent}
use Rattle.ira_view_moment.proofs.cuts.cut_at_end.Goals as goal

pub loop-place-preserved : goal.loop-place-preserved
loop-place-preserved g c =
    c.in_ok-push.ensures.items
    ∙ ap (λ cut. cut ++ c.len.result ∷ []) c.loop-place.invariant
    ∙ ap (λ n. whole_cut (take c.loop-place.place c.args.logs.now) ++ n ∷ []) c.len.ensures.value
    ∙ sym (ends_more c.args.logs.now c.loop-place.place c.log.result.now c.log.ensures.value)

pub returns-clause-cut : goal.returns-clause-cut
returns-clause-cut g c =
    let past : length c.args.logs.now ≤ c.loop-place.place =
    omega (arith, c.loop-place-test.false, c.get-size.ensures.value, c.size.ensures.value) in
    let whole : take c.loop-place.place c.args.logs.now ≡ c.args.logs.now =
    take_all c.loop-place.place c.args.logs.now past in
    let is : c.loop-place.cut.items ≡ whole_cut c.args.logs.now = rw whole at c.loop-place.invariant in
    rw is (whole_is_consistent c.args.logs.now)
