use Rattle.std.proofs.Common.{◌++◌, ◌∷◌, [], List, take, ap, sym, ◌∙◌, arith}
use Rattle.std.proofs.lemmas.List.{take_all, take_more}
use Rattle.std.proofs.lemmas.Option.{get_or_from_slice_get, slice_get_within}
use Rattle.ira_event.specs.Log.{Log}
use Rattle.ira_cert.proofs.profiles.searched_logs.Goals as goal

pub loop-place-preserved : goal.loop-place-preserved
loop-place-preserved g c =
    let logs = c.args.logs.now in
    let p = c.loop-place.place in
    let log = c.log.result.now in
    let here = get_or_from_slice_get logs p log log c.log.ensures.value in
    let more = sym (take_more logs p log (slice_get_within logs p log c.log.ensures.value)
    ∙ ap (λ (l : Log). take p logs ++ l ∷ []) here) in
    c.in_ok-push.ensures.items ∙ ap (λ (ls : List Log). ls ++ c.in_ok-searched_log.field-0 ∷ []) c.loop-place.invariant
    ∙ ap (λ (l : Log). take p logs ++ l ∷ []) c.in_ok-searched_log.ensures ∙ more

pub returns : goal.returns
returns g c = c.loop-place.invariant
    ∙ take_all c.loop-place.place c.args.logs.now (omega (arith, c.get-nodes.ensures.value, c.size.ensures.value))
