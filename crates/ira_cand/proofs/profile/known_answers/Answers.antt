use Rattle.std.proofs.Common.{ap, map, sym, ◌∙◌}
use Rattle.std.proofs.lemmas.List.{take_all}
use Rattle.ira_pred.specs.Clause.{formula}
use Rattle.ira_cand.specs.Profile.{answers_in}
use Rattle.ira_cand.proofs.Profiles.{known_read}
use Rattle.ira_cand.proofs.profile.known_answers.Goals as goal

pub returns : goal.returns
returns g c =
    let f = formula c.args.clause.now in
    let kinds = c.args.kinds.now in
    let all = c.loop-kind.invariant
    ∙ ap (map (answers_in f)) (take_all c.loop-kind.kind-index kinds c.loop-kind-test.false) in
    known_read f kinds c.loop-kind.known.items (sym c.if-names_round_or_term.ensures) all
