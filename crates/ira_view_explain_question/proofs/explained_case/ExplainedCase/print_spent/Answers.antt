use Rattle.std.proofs.Common.{◌∙◌, ap, sym}
use Rattle.std.proofs.lemmas.Option.{slice_get_within}
use Rattle.ira_view_page.proofs.Adding.{◌&◌}
use Rattle.ira_view_explain_question.specs.CaseFinding.{IsAskedOf, eliminates}
use Rattle.ira_view_explain_question.proofs.explained_case.ExplainedCase.print_spent.Goals as goal
use Rattle.ira_view_explain_question.proofs.explained_case.ExplainedCase.print_spent.Goals.{then-eliminates}
use Rattle.ira_view_explain_question.proofs.explained_case.ExplainedCase.print_spent.Goals.{else-eliminates}

pub clause-asked-requires : goal.clause-asked-requires
clause-asked-requires g c =
    let at = c.in-Some.ensures in slice_get_within c.args.self.now.case.now c.in-Some.n at.0 at.1

pub returns : goal.returns
returns g c =
    let had = sym (ap (λ all. eliminates all c.args.absence.now.spent) c.deref.ensures.value)
    ∙ sym c.eliminates.ensures in
    let at = c.in-Some.ensures in
    let case = c.args.self.now in
    let asked : IsAskedOf case.ring.now.files.question.now case.ring.now.asked.now.question.cases case.number
    case.case.now c.args.absence.now.spent c.clause-asked.result.now = record {
      n = c.in-Some.n;
      conjunct = at.0;
      is_there = at.1;
      of_node = at.2;
      is_clause = c.clause-asked.ensures;
    } in
    elim c.if-eliminates.branch [
      | then-eliminates w ↦ (
        c.clause-asked.result.now,
        asked,
        rw (had ∙ w.if-eliminates.true)
            (c.begin.ensures & w.numbered.ensures & w.words.ensures & w.quote.ensures
            & w.words-then-eliminates.ensures & (rw w.page-is at c.end.ensures)),
      )
      | else-eliminates w ↦ (
        c.clause-asked.result.now,
        asked,
        rw (had ∙ w.if-eliminates.false) (c.begin.ensures & w.numbered-else-eliminates.ensures
            & w.words-else-eliminates.ensures & w.quote-else-eliminates.ensures
            & w.words-else-eliminates-2.ensures & (rw w.page-is at c.end.ensures)),
      )
    ]
