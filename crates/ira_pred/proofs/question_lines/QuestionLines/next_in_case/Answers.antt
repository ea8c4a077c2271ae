use Rattle.std.proofs.Common.{◌∙◌, ◌++◌, ap, arith, codes, inr, length, sym}
use Rattle.ira_event.proofs.LogReading.{empty_is, not_empty}
use Rattle.ira_event.proofs.RecordLines.{word-takes}
use Rattle.ira_pred.specs.PlacedClause.{conjuncts}
use Rattle.ira_pred.specs.QuestionLines.{LinesLeft}
use Rattle.ira_pred.specs.QuestionTextFault.{Spot}
use Rattle.ira_pred.proofs.QuestionReading.{fault_empty_case, fault_empty_end, fault_cases, fault_trailing}
use Rattle.ira_pred.proofs.QuestionReading.{fault_no_place, none_asked, some_asked, last_line}
use Rattle.ira_pred.proofs.question_lines.QuestionLines.next_in_case.Goals as goal

pub returns-in-Some : goal.returns-in-Some
returns-in-Some g c = c.next_clause.ensures c.args.cases

pub returns-then-is_empty : goal.returns-then-is_empty
returns-then-is_empty g c =
    let at : Spot = record {
      number = c.self.inside.number;
      cases = c.args.cases;
      conjuncts = conjuncts c.args.asked.now;
    } in
    rw (← c.self.view_is) (inr
    (fault_empty_case c.args.nodes at c.self.inside.rest.now c.in-Some-skip_word.after.now
    c.in-Some-skip_word.ensures (none_asked c.args.asked.now (sym c.if-is_empty.ensures))))

pub returns-then-cases-ge-MAX_CASES : goal.returns-then-cases-ge-MAX_CASES
returns-then-cases-ge-MAX_CASES g c =
    let at : Spot = record {
      number = c.self.inside.number;
      cases = c.args.cases;
      conjuncts = conjuncts c.args.asked.now;
    } in
    rw (← c.self.view_is) (inr
    (fault_cases c.args.nodes at c.self.inside.rest.now c.in-Some-skip_word.after.now c.in-Some-skip_word.ensures
    (some_asked c.args.asked.now (sym c.if-is_empty.ensures)) c.if-cases-ge-MAX_CASES.true))

pub returns-in_default-skip_word-2 : goal.returns-in_default-skip_word-2
returns-in_default-skip_word-2 g c =
    let at : Spot = record {
      number = c.self.inside.number;
      cases = c.args.cases;
      conjuncts = conjuncts c.args.asked.now;
    } in
    rw (← c.self.view_is) (inr
    (fault_no_place c.args.nodes at c.self.inside.rest.now c.complete.result c.in_default.ensures
    c.in_default-skip_word.ensures c.in_default-skip_word-2.ensures c.complete.ensures))

pub returns-then-is_empty-2 : goal.returns-then-is_empty-2
returns-then-is_empty-2 g c =
    let at : Spot = record {
      number = c.self.inside.number;
      cases = c.args.cases;
      conjuncts = conjuncts c.args.asked.now;
    } in
    rw (← c.self.view_is) (inr
    (fault_empty_end c.args.nodes at c.self.inside.rest.now c.in-Some-skip_word-2.after.now
    c.in-Some-skip_word-2.ensures (none_asked c.args.asked.now (sym c.if-is_empty-2.ensures))))

pub returns-then-not-is_empty : goal.returns-then-not-is_empty
returns-then-not-is_empty g c =
    let at : Spot = record {
      number = c.self.inside.number;
      cases = c.args.cases;
      conjuncts = conjuncts c.args.asked.now;
    } in
    rw (← c.self.view_is) (inr
    (fault_trailing c.args.nodes at c.self.inside.rest.now c.in-Some-skip_word-2.after.now
    c.in-Some-skip_word-2.ensures (some_asked c.args.asked.now (sym c.if-is_empty-2.ensures))
    (not_empty c.in-Some-skip_word-2.after.now (sym c.is_empty-3.ensures ∙ c.if-not-is_empty.true))))

pub returns : goal.returns
returns g c =
    rw (← c.self.view_is) (
      last_line c.self.inside.rest.now c.in-Some-skip_word-2.after.now
          c.in-Some-skip_word-2.ensures
          (empty_is c.in-Some-skip_word-2.after.now (sym c.is_empty-3.ensures ∙ c.if-not-is_empty.false)),
      some_asked c.args.asked.now (sym c.if-is_empty-2.ensures),
    )

pub go_on-requires : goal.go_on-requires
go_on-requires g c =
    let text = word-takes (codes "case\n") c.self.inside.rest.now c.in-Some-skip_word.after.now
    c.in-Some-skip_word.ensures in
    rw (← c.self.view_is) (omega (arith, ap length text))

pub returns-in-Some-skip_word : goal.returns-in-Some-skip_word
returns-in-Some-skip_word g c =
    let text = word-takes (codes "case\n") c.self.inside.rest.now c.in-Some-skip_word.after.now
    c.in-Some-skip_word.ensures in
    let on = rw (← c.self.view_is) at c.go_on.ensures in
    rw (← c.self.view_is) (
      record {
        rest = text ∙ ap (λ (x : LinesLeft). codes "case\n" ++ x.rest) (sym on);
        number = ap (λ (x : LinesLeft). x.number) on;
      },
      some_asked c.args.asked.now (sym c.if-is_empty.ensures),
      c.if-cases-ge-MAX_CASES.false,
    )
