use Rattle.std.proofs.Common.{◌≡◌, refl, ap, ◌∙◌, inr}
use Rattle.std.proofs.lemmas.Result.{err_from_is_err_and}
use Rattle.ira_pred.specs.PlacedClause.{conjuncts}
use Rattle.ira_pred.specs.QuestionTextFault.{before_cases}
use Rattle.ira_pred.proofs.CaseReading.{begins_reading, line_refused, clause_was_read, case_may_close, case_was_closed}
use Rattle.ira_pred.proofs.CaseReading.{last_may_close, all_were_read}
use Rattle.ira_pred.proofs.question_reader.read_cases.Goals as goal

pub returns-in_err-first_case : goal.returns-in_err-first_case
returns-in_err-first_case g c =
    let p = err_from_is_err_and c.from_residual.result c.from_residual.ensures.1 in
    let same : p.0 ≡ c.in_err-first_case.field-0.0 = p.2 in
    rw (p.1, same) (inr (before_cases c.in_err-first_case.ensures))

pub loop-asked-init : goal.loop-asked-init
loop-asked-init g c = begins_reading c.args.nodes c.args.lines c.first_case.new.self c.new-cases.result.items
    (conjuncts c.new-asked.result.items) c.requires.none c.in_ok-first_case.ensures c.new-cases.ensures.items
    (ap conjuncts c.new-asked.ensures.items)

pub next_in_case-requires-clause-rising : goal.next_in_case-requires-clause-rising
next_in_case-requires-clause-rising g c = rw c.deref.ensures.value c.loop-asked.invariant.0.conjuncts_are.rising

pub returns-in_err-placed : goal.returns-in_err-placed
returns-in_err-placed g c =
    let p = err_from_is_err_and c.from_residual-in_err-placed.result c.from_residual-in_err-placed.ensures.1 in
    let same : p.0 ≡ c.in_err-placed.field-0.0 = p.2 in
    rw (p.1, same) (line_refused c.args.nodes c.len.result c.args.lines.rest c.loop-asked.cases.items
    (conjuncts c.loop-asked.asked.items) (conjuncts c.deref.result.now) c.loop-asked.lines c.next_in_case.new.self
    c.loop-asked.invariant (c.len.ensures ∙ c.loop-asked.cases.ok.0) (ap conjuncts c.deref.ensures.value)
    c.in_err-placed.field-0.0 c.in_err-placed.ensures)

pub loop-asked-preserved-in_ok-push-in-Clause : goal.loop-asked-preserved-in_ok-push-in-Clause
loop-asked-preserved-in_ok-push-in-Clause g c =
    clause_was_read c.args.nodes c.len.result c.args.lines.rest c.loop-asked.cases.items
    (conjuncts c.loop-asked.asked.items) (conjuncts c.deref.result.now) c.loop-asked.lines c.next_in_case.new.self
    c.loop-asked.invariant (c.len.ensures ∙ c.loop-asked.cases.ok.0) (ap conjuncts c.deref.ensures.value)
    c.in_ok-placed.field-0 c.in_ok-placed.ensures
    c.loop-asked.asked.items c.push.new.self.items c.in-Clause.placed c.in-Clause.is refl
    c.in_ok-push-in-Clause.ensures.items

pub of_parts-requires : goal.of_parts-requires
of_parts-requires g c =
    rw c.replace.ensures.value
    (case_may_close c.args.nodes c.len.result c.args.lines.rest c.loop-asked.cases.items
    (conjuncts c.loop-asked.asked.items) (conjuncts c.deref.result.now) c.loop-asked.lines c.next_in_case.new.self
    c.loop-asked.invariant (c.len.ensures ∙ c.loop-asked.cases.ok.0) (ap conjuncts c.deref.ensures.value)
    c.in_ok-placed.field-0 c.in_ok-placed.ensures
    c.in-Case.is c.requires.size)

pub loop-asked-preserved : goal.loop-asked-preserved
loop-asked-preserved g c =
    case_was_closed c.args.nodes c.len.result c.args.lines.rest c.loop-asked.cases.items
    (conjuncts c.loop-asked.asked.items) (conjuncts c.deref.result.now) c.loop-asked.lines c.next_in_case.new.self
    c.loop-asked.invariant (c.len.ensures ∙ c.loop-asked.cases.ok.0) (ap conjuncts c.deref.ensures.value)
    c.in_ok-placed.field-0 c.in_ok-placed.ensures
    c.push-in-Case.new.self.items c.of_parts.result (conjuncts c.replace.new.dest.items) c.in-Case.is
    (c.of_parts.ensures ∙ ap (λ v. conjuncts v.items) c.replace.ensures.value) c.in_ok-push-in-Case.ensures.items
    (ap (λ v. conjuncts v.items) c.replace.ensures.after ∙ ap conjuncts c.new-next.ensures.items)

pub of_parts-requires-in-End : goal.of_parts-requires-in-End
of_parts-requires-in-End g c =
    last_may_close c.args.nodes c.len.result c.args.lines.rest c.loop-asked.cases.items
    (conjuncts c.loop-asked.asked.items) (conjuncts c.deref.result.now) c.loop-asked.lines c.next_in_case.new.self
    c.loop-asked.invariant (c.len.ensures ∙ c.loop-asked.cases.ok.0) (ap conjuncts c.deref.ensures.value)
    c.in_ok-placed.field-0 c.in_ok-placed.ensures
    c.in-End.is c.requires.size

pub returns-in-End : goal.returns-in-End
returns-in-End g c =
    all_were_read c.args.nodes c.len.result c.args.lines.rest c.loop-asked.cases.items
    (conjuncts c.loop-asked.asked.items) (conjuncts c.deref.result.now) c.loop-asked.lines c.next_in_case.new.self
    c.loop-asked.invariant (c.len.ensures ∙ c.loop-asked.cases.ok.0) (ap conjuncts c.deref.ensures.value)
    c.in_ok-placed.field-0 c.in_ok-placed.ensures
    c.push-in-End.new.self.items c.of_parts-in-End.result c.in-End.is c.of_parts-in-End.ensures
    c.in_ok-push-in-End.ensures.items
