use Rattle.std.proofs.Common.{inl, inr, arith, subst, sym}
use Rattle.std.proofs.lemmas.Bool.{cases_eq}
use Rattle.ira_view_trail.specs.Right.{IsLinkRight}
use Rattle.ira_view_trail.proofs.right.are_links_right.Goals as goal

pub loop-link-preserved : goal.loop-link-preserved
loop-link-preserved g c = λ i less. elim (cases_eq i c.loop-link.link) [
  | inr ne ↦ c.loop-link.invariant i (omega (arith, less, ne))
  | inl same ↦ subst (IsLinkRight c.args.logs.now c.args.columns.now) (sym same)
      (c.in_ok-is_right.ensures c.if-not-is_right.false)
]

pub returns : goal.returns
returns g c = λ yes has i l. c.loop-link.invariant i (omega (arith, l, c.loop-link-test.false))
