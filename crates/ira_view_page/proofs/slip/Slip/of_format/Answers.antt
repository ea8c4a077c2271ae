use Rattle.std.specs.Prelude.{codes}
use Rattle.std.proofs.lemmas.Bool.Decides.{Decides-eqb}
use Rattle.std.proofs.lemmas.Slice.Eq.{ends_is}
use Rattle.ira_view_page.proofs.slip.Slip.of_format.Goals as goal

pub returns-then-ends_with : goal.returns-then-ends_with
returns-then-ends_with c = (
  _,
  (ends_is Decides-eqb c.args.line.now (codes "\r") c.ends_with.result c.ends_with.ensures.value).0
      c.if-ends_with.true,
)
