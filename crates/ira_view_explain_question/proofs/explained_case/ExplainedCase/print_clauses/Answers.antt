use Rattle.std.proofs.Common.{◌≡◌, ◌<◌, ◌++◌, ◌∷◌, [], arith, length, min, refl, sym}
use Rattle.ira_view_page.proofs.Adding.{◌&◌, added_as, nothing_added}
use Rattle.ira_view_explain_question.specs.AskedLines.{listed_text, more_clauses_text}
use Rattle.ira_view_explain_question.proofs.Clauses.{all_clauses, clauses_more, listed_first, listed_next, more_clauses}
use Rattle.ira_view_explain_question.proofs.explained_case.ExplainedCase.print_clauses.Goals as goal
use Rattle.ira_view_explain_question.proofs.explained_case.ExplainedCase.print_clauses.Goals.{then-n-gt0, else-n-gt0}

pub loop-n-init : goal.loop-n-init
loop-n-init g c = ([], record { count_is = refl; each = λ n line at. absurd cc }, nothing_added _)

pub loop-n-preserved : goal.loop-n-preserved
loop-n-preserved g c =
    let case = c.args.self.now in
    let so_far = c.loop-n.invariant in
    let line = c.spelling.result.now in
    let more = clauses_more case.ring.now.files.question.now case.ring.now.asked.now.question.cases case.number
    c.loop-n.n so_far.0 line so_far.1 c.spelling.ensures in
    elim c.if-n-gt0.branch [
      | then-n-gt0 w ↦ (
        so_far.0 ++ line ∷ [],
        more,
        added_as (sym (listed_next so_far.0 line (omega (arith, so_far.1.count_is, w.if-n-gt0.true))))
            (so_far.2 & (w.words.ensures & (rw w.page-is at c.quote.ensures))),
      )
      | else-n-gt0 w ↦ (
        so_far.0 ++ line ∷ [],
        more,
        added_as (sym (listed_first so_far.0 line (omega (arith, so_far.1.count_is, w.if-n-gt0.false))))
            (so_far.2 & (rw w.page-is at c.quote.ensures)),
      )
    ]

pub returns-then-clauses-gt-MOST_CLAUSES : goal.returns-then-clauses-gt-MOST_CLAUSES
returns-then-clauses-gt-MOST_CLAUSES g c =
    let case = c.args.self.now in
    let so_far = c.loop-n.invariant in
    let all : c.loop-n.n ≡ min (length case.case.now) 8 = omega arith in
    let many : 8 < length case.case.now = omega (arith, c.len-clauses.ensures.value) in (
      listed_text so_far.0 ++ more_clauses_text (length case.case.now),
      (so_far.0, all_clauses _ _ _ _ _ so_far.0 all so_far.1, refl),
      so_far.2 & added_as (sym (more_clauses (length case.case.now) many)) c.words-then-clauses-gt-MOST_CLAUSES.ensures,
    )
