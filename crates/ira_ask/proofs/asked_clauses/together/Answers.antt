use Rattle.std.proofs.Common.{Some, sym, ap, subst}
use Rattle.std.specs.Option.{option_map}
use Rattle.ira_ask.specs.Reading.{Joins, texts}
use Rattle.ira_ask.proofs.Lines.{both_joined}
use Rattle.ira_ask.proofs.asked_clauses.together.Goals as goal

pub returns-in-Some-Some : goal.returns-in-Some-Some
returns-in-Some-Some g c =
    let own = ap texts c.in-Some-Some.is-0 in
    let all = ap texts c.in-Some-Some.is-1 in
    subst (λ x. Joins (option_map (λ t. t.items)) x (texts c.args.all) c.both.result) (sym own)
    (subst (λ x. Joins (option_map (λ t. t.items)) (Some c.in-Some-Some.own.now) x c.both.result) (sym all)
    (both_joined (option_map
    (λ t. t.items)) c.in-Some-Some.own.now c.in-Some-Some.all.now c.both.result c.both.ensures))
