use Rattle.ira_view_page.proofs.Adding.{◌&◌, nothing_added}
use Rattle.ira_view_explain_question.proofs.front_left.print_left.Goals as goal
use Rattle.ira_view_explain_question.proofs.front_left.print_left.Goals.{in_default-first, in-Some-first}

pub returns : goal.returns
returns g c =
    let front = c.begin.ensures & c.numbered.ensures & c.words.ensures & c.number_of.ensures & c.words-2.ensures in
    elim c.match-front-2.branch [
      | in-Some-first w ↦
          rw (c.in-Some.is, w.in-Some-first.is)
          (front & (w.numbered-in-Some-first.ensures & w.words-in-Some-first.ensures & w.state.ensures)
          & (rw w.page-is at c.end.ensures))
      | in_default-first w ↦
          rw (c.in-Some.is, w.in_default-first.is) (front & nothing_added _ & (rw w.page-is at c.end.ensures))
    ]
