use Rattle.std.proofs.Common.{◌≡◌, ◌∙◌, codes, rules, tests}
use Rattle.std.proofs.lemmas.Iterator.{YieldsList-from_slice}
use Rattle.std.proofs.lemmas.Iterator.Consumers.{YieldsList-from_filter, count_from_yields_List}
use Rattle.std.proofs.lemmas.List.Sums.{length-filter}
use Rattle.std.specs.Prelude.{count_by}
use Rattle.ira_view_json.specs.Members.{with_number}
use Rattle.ira_view_json.proofs.Putting.{◌&◌, held, puts_by}
use Rattle.ira_view_json.proofs.folder_lines.sum_line.Goals as goal

pub returns : goal.returns
returns g c =
    let runs = c.args.runs.now in
    let tie : c.count.result ≡ count_by (λ run. run.tie) runs =
    count_from_yields_List _ _ c.count.ensures.ran (YieldsList-from_filter _ (λ run. run.tie)
    (YieldsList-from_slice runs (search rules)) (search rules) (λ x b q k. search (rules, tests))) ∙ length-filter _ runs in
    let round : c.count-second_round.result ≡ count_by (λ run. run.second_round) runs =
    count_from_yields_List _ _ c.count-second_round.ensures.ran (YieldsList-from_filter _ (λ run. run.second_round)
    (YieldsList-from_slice runs (search rules)) (search rules) (λ x b q k. search (rules, tests))) ∙ length-filter _ runs in
    let term : c.count-second_term.result ≡ count_by (λ run. run.second_term) runs =
    count_from_yields_List _ _ c.count-second_term.ensures.ran (YieldsList-from_filter _ (λ run. run.second_term)
    (YieldsList-from_slice runs (search rules)) (search rules) (λ x b q k. search (rules, tests))) ∙ length-filter _ runs in
    let woken : c.count-wake_up.result ≡ count_by (λ run. run.wake_up) runs =
    count_from_yields_List _ _ c.count-wake_up.ensures.ran (YieldsList-from_filter _ (λ run. run.wake_up)
    (YieldsList-from_slice runs (search rules)) (search rules) (λ x b q k. search (rules, tests))) ∙ length-filter _ runs in
    let dropped : c.count-dropped.result ≡ count_by (λ run. run.dropped) runs =
    count_from_yields_List _ _ c.count-dropped.ensures.ran (YieldsList-from_filter _ (λ run. run.dropped)
    (YieldsList-from_slice runs (search rules)) (search rules) (λ x b q k. search (rules, tests))) ∙ length-filter _ runs in
    let puts = c.number.ensures & puts_by (with_number (codes "tie")) tie c.number-2.ensures
    & puts_by (with_number (codes "second_round")) round c.number-3.ensures
    & puts_by (with_number (codes "second_term")) term c.number-4.ensures
    & puts_by (with_number (codes "wake_up")) woken c.number-5.ensures
    & puts_by (with_number (codes "dropped")) dropped c.number-6.ensures in
    c.into_line.ensures _ (held c.of-sum.ensures puts)
