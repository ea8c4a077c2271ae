use Rattle.std.proofs.Common.{◌++◌, refl, sym, ap, ◌∙◌, append_assoc}
use Rattle.std.specs.Prelude.{codes}
use Rattle.ira_event.proofs.Writing.{HasWritten-start, HasWritten-more, HasWritten-last}
use Rattle.ira_pred.specs.Clause.{formula}
use Rattle.ira_pred.specs.PlacedClause.{conjunct}
use Rattle.ira_pred.specs.QuestionText.{clause_text, conjunct_text}
use Rattle.ira_pred.proofs.question_writer.write_placed.Goals as goal

pub returns : goal.returns
returns g c =
    let clause = clause_text (formula c.args.placed.now.clause) in
    let text = conjunct_text (conjunct c.args.placed.now) in
    let whole = sym (append_assoc c.place.result clause (codes "\n"))
    ∙ ap (λ w. w ++ clause ++ codes "\n") c.place.ensures in
    HasWritten-last _ text (codes "\n") (codes "\n") _ _ _
    (HasWritten-more text (clause ++ codes "\n") clause (codes "\n") _ _ _
    (HasWritten-more text text c.place.result (clause ++ codes "\n") _ _ _ (HasWritten-start text _) whole
    c.in_ok-write.ensures) refl c.in_ok-write_clause.ensures) refl c.write_bytes.ensures
