use Rattle.std.proofs.Common.{◌≡◌, ◌∷◌, ◌++◌, ◌+◌, ap, drop, map, rules, string_bytes, subst, sym}
use Rattle.std.specs.List.{enumerate_from}
use Rattle.std.proofs.lemmas.List.{drop_all}
use Rattle.ira_event.proofs.Rest.{drop-at}
use Rattle.ira_view_json.specs.ExplainedFindings.{explained_case, explained_decision}
use Rattle.ira_view_json.specs.Line.{IsLineOf}
use Rattle.ira_view_json.proofs.LineTexts.{Begins, begins_all, begins_more, line_before}
use Rattle.ira_view_json.proofs.Putting.{◌&◌, held}
use Rattle.ira_view_json.proofs.answer_lines.explained_cases_lines.Goals as goal

pub loop-case-init : goal.loop-case-init
loop-case-init g c rest lines =
    let value = explained_case c.args.explanation.now.cases.items in
    line_before _ (map value (enumerate_from 0 c.args.found.now)) (string_bytes c.in_ok-text.text) rest
    (c.in_ok-text.ensures _ (held (rw c.has_present.ensures at c.decision-first.ensures)
    (c.null.ensures & c.explanation.ensures))) lines

pub loop-case-preserved : goal.loop-case-preserved
loop-case-preserved g c =
    let explanation = c.args.explanation.now in
    let value = explained_case explanation.cases.items in
    let xs = c.args.found.now in
    let i = c.loop-case.case in
    let x = c.index-found-case.result in
    let line = string_bytes c.in_ok-line.line in
    let all = explained_decision c.args.status xs explanation ∷ map value (enumerate_from 0 xs) in
    let left = map value (enumerate_from i (drop i xs)) in
    let more = map value (enumerate_from (i + 1) (drop (i + 1) xs)) in
    let parts : left ≡ value (i, x) ∷ more =
    ap (λ ys. map value (enumerate_from i ys)) (drop-at xs i x x c.loop-case-test.true c.index-found-case.is) in
    let is : IsLineOf (value (i, x)) line =
    subst (λ cases. IsLineOf (explained_case cases (i, x)) line) c.deref.ensures.value c.in_ok-line.ensures in
    let added : string_bytes c.push_str.new.self ≡ string_bytes c.loop-case.text ++ line = search rules in
    subst (Begins all more) (sym added)
    (begins_more all left more (value (i, x)) (string_bytes c.loop-case.text) line parts is c.loop-case.invariant)

pub returns : goal.returns
returns g c =
    let value = explained_case c.args.explanation.now.cases.items in
    let xs = c.args.found.now in
    let i = c.loop-case.case in
    begins_all _ (map value (enumerate_from i (drop i xs))) _
    (ap (λ left. map value (enumerate_from i left)) (drop_all i xs c.loop-case-test.false)) c.loop-case.invariant
