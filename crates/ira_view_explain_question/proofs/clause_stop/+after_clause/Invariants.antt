use Rattle.ira_view_explain_question.proofs.clause_stop.+after_clause.Given as goal

abbrev pub decreases-after_clause : goal.decreases-after_clause
decreases-after_clause l = l.depth
