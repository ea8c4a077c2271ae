use Rattle.ira_pred.proofs.QuestionReading.{fault_no_case, fault_first_line, gives_some, gives_none}
use Rattle.ira_pred.proofs.question_lines.QuestionLines.first_case.Goals as goal

pub returns-then-is_some : goal.returns-then-is_some
returns-then-is_some c =
    let read = gives_some _ _ _ c.skip_word-2.ensures c.if-is_some.ensures in
    rw (← c.self.view_is) (fault_no_case c.self.inside.rest.now read.0 read.1)

pub returns : goal.returns
returns c =
    let three = rw (← c.self.view_is) at c.requires in
    let unread = gives_none _ _ _ c.skip_word-2.ensures c.if-is_some.ensures in
    rw (← c.self.view_is) (fault_first_line c.self.inside.rest.now c.self.inside.number _ three c.in_default.ensures
    unread c.complete.ensures)
