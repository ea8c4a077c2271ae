use Rattle.std.proofs.Common.{◌≡◌, ◌+◌, rules, subst, sym}
use Rattle.ira_view_explain.specs.declared.other_faults.OtherFaults.{OtherFaults}
use Rattle.ira_view_explain.specs.declared.other_faults.OtherFaults.TheVariants.{None}
use Rattle.ira_view_explain.proofs.RingHints.{AreSoFar, fits_more, one_more}
use Rattle.ira_view_explain.proofs.other_faults.OtherFaults.find.Goals as goal
use Rattle.ira_view_explain.proofs.other_faults.OtherFaults.find.Goals.{
  then-other-link+then-not-fits+else-ne,
  else-other-link,
  else-other-link-via-then-other-link+else-not-fits,
  else-other-link-via-else-other-link,
}

pub loop-other-preserved : goal.loop-other-preserved
loop-other-preserved g c =
    let P : OtherFaults → Type 0 = AreSoFar c.args.logs.now c.args.link (c.loop-other.other + 1) in
    let more = fits_more c.args.logs.now c.args.link c.loop-other.other c.loop-other.found c.loop-other.invariant in
    elim c.if-other-link.branch [
      | then-other-link+then-not-fits+else-ne w ↦
          let none : c.loop-other.found ≡ None = search rules in
          let far = subst (AreSoFar c.args.logs.now c.args.link c.loop-other.other) none c.loop-other.invariant in
          subst P (sym w.found-is) (one_more c.args.logs.now c.args.link c.loop-other.other far w.if-other-link.true
          (λ fits. let is = w.fits.ensures.1 fits in search rules))
      | else-other-link w ↦ subst P (sym w.found-is) (elim w.else-other-link.branch [
        | else-other-link-via-then-other-link+else-not-fits w' ↦ more (λ not. w'.fits.ensures.0 (search rules))
        | else-other-link-via-else-other-link w' ↦ more (λ not. absurd (not w'.if-other-link.false))
      ])
    ]
