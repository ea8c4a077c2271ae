use Rattle.std.proofs.Common.{◌≡◌, ◌∷◌, ◌++◌, ◌+◌, ap, drop, map, rules, string_bytes, subst, sym}
use Rattle.std.specs.List.{enumerate_from}
use Rattle.std.specs.Prelude.{codes}
use Rattle.std.proofs.lemmas.List.{drop_all}
use Rattle.ira_event.proofs.Rest.{drop-at}
use Rattle.ira_view_json.specs.AnswerValue.{case_value, cases_values}
use Rattle.ira_view_json.specs.Line.{AreLinesOf}
use Rattle.ira_view_json.specs.Members.{with_number}
use Rattle.ira_view_json.proofs.Putting.{held, puts_by}
use Rattle.ira_view_json.proofs.LineTexts.{Begins, begins_all, begins_more, line_before}
use Rattle.ira_view_json.proofs.answer_lines.cases_lines.Goals as goal

pub loop-case-init : goal.loop-case-init
loop-case-init g c rest lines =
    let xs = c.as_slice-cases.result.now in
    let text = string_bytes c.in_ok-text.text in
    line_before _ (map case_value (enumerate_from 0 xs)) text rest
    (c.in_ok-text.ensures _ (held (rw c.has_met.ensures at c.decision-first.ensures)
    (puts_by (with_number (codes "nodes")) c.get.ensures.value c.number.ensures))) lines

pub loop-case-preserved : goal.loop-case-preserved
loop-case-preserved g c =
    let xs = c.as_slice-cases.result.now in
    let i = c.loop-case.case in
    let x = c.index-cases-case.result in
    let line = string_bytes c.in_ok-line.line in
    let all = cases_values c.args.decided.now.nodes c.args.status xs in
    let left = map case_value (enumerate_from i (drop i xs)) in
    let more = map case_value (enumerate_from (i + 1) (drop (i + 1) xs)) in
    let parts : left ≡ case_value (i, x) ∷ more =
    ap (λ ys. map case_value (enumerate_from i ys)) (drop-at xs i x x c.loop-case-test.true c.index-cases-case.is) in
    let is = c.in_ok-line.ensures _ c.decided_for.ensures in
    let added : string_bytes c.push_str.new.self ≡ string_bytes c.loop-case.text ++ line = search rules in
    subst (Begins all more) (sym added)
    (begins_more all left more (case_value (i, x)) (string_bytes c.loop-case.text) line parts is c.loop-case.invariant)

pub returns : goal.returns
returns g c =
    let xs = c.as_slice-cases.result.now in
    let i = c.loop-case.case in
    let text = string_bytes c.loop-case.text in
    let nodes = c.args.decided.now.nodes in
    subst (λ ys. AreLinesOf (cases_values nodes c.args.status ys) text) c.as_slice-cases.ensures.value
    (begins_all _ (map case_value (enumerate_from i (drop i xs))) _
    (ap (λ left. map case_value (enumerate_from i left)) (drop_all i xs c.loop-case-test.false)) c.loop-case.invariant)
