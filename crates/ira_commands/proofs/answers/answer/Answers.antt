use Rattle.std.proofs.Common.{refl}
use Rattle.ira_commands.proofs.Served.{if_ok}
use Rattle.ira_commands.proofs.answers.answer.Goals as goal

pub returns-in-Answer : goal.returns-in-Answer
returns-in-Answer g c = λ names texts judged are. rw c.in-Answer.is (c.answer_logs.ensures texts judged)

pub returns-in-Expect : goal.returns-in-Expect
returns-in-Expect g c = λ names texts judged are. rw c.in-Expect.is (c.answer_expected.ensures texts judged)

pub explain_all-requires : goal.explain_all-requires
explain_all-requires g c = c.requires.kept (rw c.in-Explain.is refl)

pub returns-in-Explain : goal.returns-in-Explain
returns-in-Explain g c = λ names texts judged are. rw c.in-Explain.is (if_ok c.explain_all.result
    (λ reply told. (c.args.given.logs.now, are (rw c.in-Explain.is refl), told)) c.explain_all.ensures)

pub explain_expected-requires : goal.explain_expected-requires
explain_expected-requires g c = c.requires.kept (rw c.in-ExplainExpected.is refl)

pub returns-in-ExplainExpected : goal.returns-in-ExplainExpected
returns-in-ExplainExpected g c = λ names texts judged are. rw c.in-ExplainExpected.is (if_ok c.explain_expected.result
    (λ reply told. (c.args.given.logs.now, are (rw c.in-ExplainExpected.is refl), told)) c.explain_expected.ensures)

pub returns-in-Decide : goal.returns-in-Decide
returns-in-Decide g c = λ names texts judged are. rw c.in-Decide.is (c.decide_asked.ensures texts judged)

pub explain_asked-requires : goal.explain_asked-requires
explain_asked-requires g c = c.requires.kept (rw c.in-ExplainQuestion.is refl)

pub returns-in-ExplainQuestion : goal.returns-in-ExplainQuestion
returns-in-ExplainQuestion g c = λ names texts judged are. rw c.in-ExplainQuestion.is (if_ok c.explain_asked.result
    (λ reply told. (_, (are (rw c.in-ExplainQuestion.is refl), (refl, refl)), told)) c.explain_asked.ensures)

pub returns-in-Check : goal.returns-in-Check
returns-in-Check g c = λ names texts judged are. rw c.in-Check.is (c.check_alone.ensures texts judged)

pub explain_certificate-requires : goal.explain_certificate-requires
explain_certificate-requires g c = c.requires.kept (rw c.in-ExplainCheck.is refl)

pub returns-in-ExplainCheck : goal.returns-in-ExplainCheck
returns-in-ExplainCheck g c = λ names texts judged are. rw c.in-ExplainCheck.is (if_ok c.explain_certificate.result
    (λ reply told. (_, _, (are (rw c.in-ExplainCheck.is refl), (refl, refl)), (refl, refl), told))
    c.explain_certificate.ensures)

pub show_ring-requires-clause-files : goal.show_ring-requires-clause-files
show_ring-requires-clause-files g c = λ needs. c.requires.kept (rw c.in-Show.is needs)

pub returns-in-Show : goal.returns-in-Show
returns-in-Show g c = λ names texts judged are.
    rw c.in-Show.is (c.show_ring.ensures names texts judged (λ needs. are (rw c.in-Show.is needs)))
