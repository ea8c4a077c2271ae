use Rattle.std.proofs.Common.{◌≤◌, ap, arith, length}
use Rattle.std.specs.List.{enumerate_from, flat_map}
use Rattle.std.proofs.lemmas.List.{take_all}
use Rattle.std.proofs.lemmas.List.FromFn.{length-enumerate_from}
use Rattle.ira_pred.proofs.QuestionReading.{conjunct_at}
use Rattle.ira_view_page.proofs.Adding.{added_as, added_at, element_at}
use Rattle.ira_view_draw.specs.MomentLine.{asked_text}
use Rattle.ira_view_draw.proofs.moment_line.write_case.Goals as goal

pub loop-n-preserved : goal.loop-n-preserved
loop-n-preserved g c =
    let case = c.args.case.now in
    let n = c.loop-n.n in
    let at = conjunct_at _ _ _ c.place.ensures c.clause.ensures in
    added_at asked_text (enumerate_from 0 case) n (n, _) (element_at case n _ at) c.loop-n.invariant
    c.write_asked.ensures

pub returns : goal.returns
returns g c =
    let all = enumerate_from 0 c.args.case.now in
    let count : length all ≤ c.loop-n.n =
    omega (arith, length-enumerate_from 0 c.args.case.now, c.loop-n-test.false, c.len-n-end.ensures.value) in
    added_as (ap (flat_map asked_text) (take_all c.loop-n.n all count)) c.loop-n.invariant
