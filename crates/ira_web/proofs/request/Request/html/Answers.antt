use Rattle.std.proofs.Common.{◌∷◌, List, ℕ, ap, refl, sym}
use Rattle.ira_web.proofs.request.Request.html.Goals as goal

pub returns : goal.returns
returns c = (
  _,
  (c.args.from, c.args.to, c.columns.ensures, refl),
  ap (λ (moment : List ℕ). 15 ∷ c.args.from ∷ c.args.to ∷ moment) (sym c.in_ok-moment_of.ensures),
)
