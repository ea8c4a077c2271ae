use Rattle.ira_view_explain_question.proofs.asked_finding.AskedFinding.of_cut.Goals as goal

pub returns : goal.returns
returns c = rw c.new.ensures (rw c.note-last.ensures at c.of_cut.ensures)
