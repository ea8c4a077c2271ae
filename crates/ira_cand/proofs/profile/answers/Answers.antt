use Rattle.std.proofs.Common.{ap, false, sym, ◌∙◌}
use Rattle.ira_pred.specs.Clause.{formula}
use Rattle.ira_cand.proofs.Profiles.{free_as_owing, test_of}
use Rattle.ira_cand.proofs.profile.answers.Goals as goal

pub returns-then-not-names_debt : goal.returns-then-not-names_debt
returns-then-not-names_debt g c =
    let f = formula c.args.clause.now in
    ap (λ b. (b, b)) c.holds-free.ensures.value
    ∙ ap (λ b. (test_of f c.args.stage false, b))
    (free_as_owing f c.args.stage (sym c.names_debt.ensures ∙ c.if-not-names_debt.true))
