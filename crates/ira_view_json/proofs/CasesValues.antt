-- What is found for cases with their steps counted is, as JSON, what is found for them.
use Rattle.std.proofs.Common.{◌≡◌, ◌∙◌, ℕ, List, ap}
use Rattle.ira_elim.specs.declared.decided.Decided.{Decided}
use Rattle.ira_audit.specs.DecidedCases.{AreCounted}
use Rattle.ira_audit.specs.declared.findings.Findings.{Findings}
use Rattle.ira_audit.specs.declared.findings.Findings.TheVariants.{Refused, Cases}
use Rattle.ira_view_json.specs.AnswerValue.{cases_values, findings_values}

pub values_are : {A : Type 0} (findings : Findings A) (nodes status : ℕ) (cases : List (Decided ℕ A))
    → AreCounted findings nodes cases → cases_values nodes status cases ≡ findings_values status findings
values_are (Refused r) nodes status cases are = absurd are
values_are (Cases n found) nodes status cases are =
    ap (λ (k : ℕ). cases_values k status cases) are.0
    ∙ ap (λ (ds : List (Decided ℕ _)). cases_values n status ds) are.1
