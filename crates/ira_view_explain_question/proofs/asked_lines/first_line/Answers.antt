use Rattle.std.proofs.Common.{ap, arith, length, take}
use Rattle.std.proofs.lemmas.List.{length-take}
use Rattle.ira_view_explain_question.proofs.AskedCases.{few_clauses, lines_more}
use Rattle.ira_view_explain_question.proofs.asked_lines.first_line.Goals as goal

pub overflow_add-line-in-loop-case : goal.overflow_add-line-in-loop-case
overflow_add-line-in-loop-case g c =
    omega (arith, c.len.ensures.value, few_clauses c.case-item.result c.len.ensures.valid)

pub overflow_add-line-in-loop-case-2 : goal.overflow_add-line-in-loop-case-2
overflow_add-line-in-loop-case-2 g c =
    let few = few_clauses c.case-item.result c.len.ensures.valid in
    let here = length-take c.args.number c.args.cases.now in
    omega (arith, c.len.ensures.value, few, c.loop-case.invariant.small, c.loop-case-test.true, here, c.requires)

pub loop-case-preserved : goal.loop-case-preserved
loop-case-preserved g c =
    let items = take c.args.number c.args.cases.now in
    let more = lines_more items c.loop-case.case-index c.case-item.result c.loop-case-test.true in
    let len = ap length c.case-item.is in
    let few = few_clauses c.case-item.result c.len.ensures.valid in
    record {
      value = omega (arith, c.loop-case.invariant.value, more, len, c.len.ensures.value);
      small = omega (arith, c.loop-case.invariant.small, few, c.len.ensures.value);
    }
