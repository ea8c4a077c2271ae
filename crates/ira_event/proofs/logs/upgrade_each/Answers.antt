use Rattle.std.proofs.Common.{◌≡◌, [], ◌∷◌, ◌++◌, ap, arith, length, map, append_assoc, append-nil, sym, ◌∙◌}
use Rattle.std.specs.Vec.Iter.{into_iter_items}
use Rattle.std.proofs.lemmas.List.{nil_from_length}
use Rattle.ira_event.specs.Upgrade.{upgraded}
use Rattle.ira_event.proofs.logs.upgrade_each.Goals as goal

pub loop-log-preserved : goal.loop-log-preserved
loop-log-preserved g c =
    let news = c.loop-log.news.items in
    let left = into_iter_items c.next.new.self in
    let steps = c.in-Some.ensures.steps in
    let rest : into_iter_items c.loop-log.log-iterator ≡ c.in-Some.log ∷ left = steps.0 in
    record {
      may_go_on = tt;
      ends = tt;
      left = omega (arith, ap length rest, steps.1);
      parts = rw (
        c.in_ok-push.ensures.items,
        c.in_ok-upgrade.ensures,
      ) (append_assoc news (upgraded c.in-Some.log ∷ []) (map upgraded left)
          ∙ ap (λ x. news ++ map upgraded x) (sym rest) ∙ c.loop-log.invariant.parts);
    }

pub returns : goal.returns
returns g c =
    let news = c.loop-log.news.items in
    let done = c.in-None.ensures.steps.0 in
    let none : into_iter_items c.loop-log.log-iterator ≡ [] = nil_from_length _ (omega arith) in
    sym (append-nil news) ∙ ap (λ x. news ++ map upgraded x) (sym none) ∙ c.loop-log.invariant.parts
