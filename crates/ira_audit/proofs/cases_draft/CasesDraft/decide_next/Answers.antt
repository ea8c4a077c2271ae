use Rattle.std.proofs.Common.{◌∙◌, ap}
use Rattle.ira_audit.proofs.Counting.{cases_more}
use Rattle.ira_audit.proofs.cases_draft.CasesDraft.decide_next.Goals as goal

pub returns : goal.returns
returns g c = λ nodes certify found drafted.
    let added = c.in_ok-decided.ensures.decided nodes certify found drafted.certifying in
    let same = c.in_ok-decided.ensures.cases in (
      added.0,
      added.1,
      record {
        nodes_are = c.in_ok-decided.ensures.nodes ∙ drafted.nodes_are;
        cases_are = cases_more found added.0 c.decide.new.self.cases.items _ c.in_ok-decided.decided
            (ap (λ v. v.items) same ∙ drafted.cases_are) added.2 c.in_ok-push.ensures.items;
        certifying = added.3;
      },
    )
