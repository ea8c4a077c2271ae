use Rattle.std.proofs.Common.{rules}
use Rattle.ira_view_evidence.proofs.Fronts.{twice_from, twice_goes}
use Rattle.ira_view_evidence.proofs.link_cause.is_twice.Goals as goal

pub returns : goal.returns
returns c =
    let again = c.if-not-is_last_again.ensures.0 (search rules) in (
      λ yes. twice_from again.0 _ again.1 again.2 _ _ again.3 again.4 (c.goes_on.ensures.0 yes),
      λ h. c.goes_on.ensures.1 (twice_goes _ _ _ h),
    )
