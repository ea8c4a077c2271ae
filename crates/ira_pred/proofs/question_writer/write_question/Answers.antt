use Rattle.std.proofs.Common.{◌≡◌, ◌++◌, ℕ, List, refl, sym, ap, ◌∙◌, append_assoc}
use Rattle.std.specs.List.{flat_map}
use Rattle.std.specs.Prelude.{codes, decimal}
use Rattle.std.proofs.lemmas.Result.{err_from_is_err_and}
use Rattle.ira_event.proofs.Writing.{HasWritten-start, HasWritten-more, HasWritten-stops, HasWritten-last}
use Rattle.ira_pred.specs.Question.{QuestionCases}
use Rattle.ira_pred.specs.QuestionText.{case_text, question_text}
use Rattle.ira_pred.proofs.question_writer.write_question.Goals as goal

abbrev head_text : ℕ → List ℕ
head_text n = codes "irask 1\n" ++ codes "nodes " ++ decimal n ++ codes "\n"

-- what follows the head of a question's text
abbrev body_text : QuestionCases → List ℕ
body_text q = flat_map case_text q.cases ++ codes "end\n"

head-then-body : (q : QuestionCases) (line : List ℕ) (nodes : ℕ) → line ≡ head_text nodes → nodes ≡ q.nodes
    → line ++ body_text q ≡ question_text q
head-then-body q line nodes is same =
    sym (append_assoc line (flat_map case_text q.cases) (codes "end\n"))
    ∙ ap (λ w. w ++ flat_map case_text q.cases ++ codes "end\n") (is ∙ ap (λ n. head_text n) same)

pub returns-in_err-write : goal.returns-in_err-write
returns-in_err-write g c =
    let stop = err_from_is_err_and c.from_residual.result c.from_residual.ensures.1 in
    let q = c.args.question.now in
    let whole = head-then-body q c.head.result c.nodes.result c.head.ensures c.nodes.ensures.value in
    HasWritten-stops _ _ stop.1 (question_text q) (question_text q) c.head.result (body_text q) _ _ _
    (HasWritten-start (question_text q) _) whole c.in_err-write.ensures

pub returns-in_err-write_cases : goal.returns-in_err-write_cases
returns-in_err-write_cases g c =
    let stop = err_from_is_err_and c.from_residual-in_err-write_cases.result
    c.from_residual-in_err-write_cases.ensures.1 in
    let q = c.args.question.now in
    let whole = head-then-body q c.head.result c.nodes.result c.head.ensures c.nodes.ensures.value in
    let next = ap (λ x. flat_map case_text x ++ codes "end\n") c.cases.ensures.value in
    HasWritten-stops _ _ stop.1 (question_text q) (body_text q) (flat_map case_text c.cases.result.now) (codes "end\n")
    _ _ _
    (HasWritten-more (question_text q) (question_text q) c.head.result (body_text q) _ _ _
    (HasWritten-start (question_text q) _) whole c.in_ok-write.ensures)
    next c.in_err-write_cases.ensures

pub returns : goal.returns
returns g c =
    let q = c.args.question.now in
    let whole = head-then-body q c.head.result c.nodes.result c.head.ensures c.nodes.ensures.value in
    let next = ap (λ x. flat_map case_text x ++ codes "end\n") c.cases.ensures.value in
    HasWritten-last _ (question_text q) (codes "end\n") (codes "end\n") _ _ _
    (HasWritten-more (question_text q) (body_text q) (flat_map case_text c.cases.result.now) (codes "end\n") _ _ _
    (HasWritten-more (question_text q) (question_text q) c.head.result (body_text q) _ _ _
    (HasWritten-start (question_text q) _) whole c.in_ok-write.ensures)
    next c.in_ok-write_cases.ensures) refl c.write_bytes.ensures
