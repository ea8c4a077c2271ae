use Rattle.std.proofs.Common.{refl, inr, arith}
use Rattle.ira_pred.specs.Clause.{formula}
use Rattle.ira_pred.specs.PlacedClause.{conjuncts}
use Rattle.ira_pred.proofs.QuestionReading.{fault_place, fault_clause, fault_without_memory, no_clause_read}
use Rattle.ira_pred.proofs.QuestionReading.{no_line_read, gives_this, gives_nothing, goes_on_clause, clause_shorter}
use Rattle.ira_pred.proofs.question_lines.QuestionLines.next_clause.Goals as goal

pub returns-in_default : goal.returns-in_default
returns-in_default g c =
    let placed = rw (← c.self.view_is) at c.requires.placed in
    rw (← c.self.view_is) (λ cases.
    inr (fault_place c.args.nodes (record {
      number = c.self.inside.number;
      cases = cases;
      conjuncts = conjuncts c.args.asked.now;
    }) c.self.inside.rest.now c.args.place c.args.text.now placed
    (omega (arith, c.ranges.nodes.fits)) c.complete.result
    (λ may. let some = c.in_default.ensures.some.1 may in cc) c.complete.ensures))

pub returns-in-Err : goal.returns-in-Err
returns-in-Err g c =
    let placed = rw (← c.self.view_is) at c.requires.placed in
    rw (← c.self.view_is) (λ cases.
    fault_without_memory c.args.nodes (record {
      number = c.self.inside.number;
      cases = cases;
      conjuncts = conjuncts c.args.asked.now;
    }) c.self.inside.rest.now c.args.place c.args.text.now placed
    (omega (arith, c.ranges.nodes.fits)) c.clause_fault.result
    (c.in-Some.ensures.some.0 refl) c.clause_fault.ensures)

pub returns-in_default-taken : goal.returns-in_default-taken
returns-in_default-taken g c =
    let placed = rw (← c.self.view_is) at c.requires.placed in
    let none = gives_nothing _ _ _ c.in-Ok.ensures c.in_default-taken.is in
    rw (← c.self.view_is) (λ cases.
    inr (fault_clause c.args.nodes (record {
      number = c.self.inside.number;
      cases = cases;
      conjuncts = conjuncts c.args.asked.now;
    }) c.self.inside.rest.now c.args.place c.args.text.now placed
    (omega (arith, c.ranges.nodes.fits)) c.clause_fault-in_default-taken.result
    (c.in-Some.ensures.some.0 refl) (no_clause_read c.args.text.now none) c.clause_fault-in_default-taken.ensures))

pub returns-in_default-skip_word : goal.returns-in_default-skip_word
returns-in_default-skip_word g c =
    let placed = rw (← c.self.view_is) at c.requires.placed in
    let read = gives_this _ _ _ _ c.in-Ok.ensures c.in-Some-taken.is in
    rw (← c.self.view_is) (λ cases.
    inr (fault_clause c.args.nodes (record {
      number = c.self.inside.number;
      cases = cases;
      conjuncts = conjuncts c.args.asked.now;
    }) c.self.inside.rest.now c.args.place c.args.text.now placed
    (omega (arith, c.ranges.nodes.fits)) c.clause_fault-in_default-skip_word.result
    (c.in-Some.ensures.some.0 refl) (no_line_read c.args.text.now _ read c.in_default-skip_word.ensures)
    c.clause_fault-in_default-skip_word.ensures))

pub go_on-requires : goal.go_on-requires
go_on-requires g c =
    let read = gives_this _ _ _ _ c.in-Ok.ensures c.in-Some-taken.is in
    let may = c.in-Some.ensures.some.0 refl in
    clause_shorter c.args.nodes c.args.self.now.rest c.args.place c.args.text.now (formula c.in-Some-taken.clause)
    c.in-Some-taken.rest.now c.in-Some-skip_word.after.now c.requires.placed (omega (arith, c.ranges.nodes.fits))
    may.0 read c.in-Some-skip_word.ensures

pub returns : goal.returns
returns g c =
    let placed = rw (← c.self.view_is) at c.requires.placed in
    let on = rw (← c.self.view_is) at c.go_on.ensures in
    let read = gives_this _ _ _ _ c.in-Ok.ensures c.in-Some-taken.is in
    rw (← c.self.view_is) (λ cases.
    goes_on_clause c.args.nodes c.self.inside.number c.self.inside.rest.now c.args.place c.in-Some.place
    c.args.text.now (formula c.in-Some-taken.clause) c.in-Some-taken.rest.now c.in-Some-skip_word.after.now
    (conjuncts c.args.asked.now) c.go_on.new.self placed (omega (arith, c.ranges.nodes.fits))
    c.in-Some.ensures.value (c.in-Some.ensures.some.0 refl) read c.in-Some-skip_word.ensures on)
