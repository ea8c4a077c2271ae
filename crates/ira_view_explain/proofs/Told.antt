-- What is told of an explanation that was made.
use Rattle.std.proofs.Common.{◌≡◌, List, Err, IfOk, Ok, Result, subst, sym}
use Rattle.ira_view_page.specs.declared.evidence.Evidence.{Evidence}
use Rattle.ira_view_page.specs.declared.explanation.Explanation.{Explanation}

-- what holds of these holds of its evidence
pub told_as : {A E : Type 0} (P : List (Evidence A) → Type 0) (r : Result (Explanation A) E) (told : List (Evidence A))
    → IfOk r (λ x. x.evidence.items ≡ told) → P told → IfOk r (λ x. P x.evidence.items)
told_as P (Ok x) told same p = subst P (sym same) p
told_as P (Err e) told same p = tt
