use Rattle.std.proofs.Common.{◌≡◌, ◌∙◌, ap, decimal, rules, tests}
use Rattle.std.proofs.lemmas.Iterator.{YieldsList-from_slice}
use Rattle.std.proofs.lemmas.Iterator.Consumers.{YieldsList-from_filter, count_from_yields_List}
use Rattle.std.proofs.lemmas.List.Sums.{length-filter}
use Rattle.std.specs.Prelude.{count_by}
use Rattle.ira_view_page.proofs.Adding.{◌&◌, added_as, finished}
use Rattle.ira_view.proofs.view_writer.sum_page.Goals as goal

pub returns : goal.returns
returns g c =
    let runs = c.args.runs.now in
    let tie : c.count.result ≡ count_by (λ run. run.tie) runs =
    count_from_yields_List _ _ c.count.ensures.ran (YieldsList-from_filter _ (λ run. run.tie)
    (YieldsList-from_slice runs (search rules)) (search rules) (λ x b q k. search (rules, tests))) ∙ length-filter _ runs in
    let round : c.count-2.result ≡ count_by (λ run. run.second_round) runs =
    count_from_yields_List _ _ c.count-2.ensures.ran (YieldsList-from_filter _ (λ run. run.second_round)
    (YieldsList-from_slice runs (search rules)) (search rules) (λ x b q k. search (rules, tests))) ∙ length-filter _ runs in
    let term : c.count-3.result ≡ count_by (λ run. run.second_term) runs =
    count_from_yields_List _ _ c.count-3.ensures.ran (YieldsList-from_filter _ (λ run. run.second_term)
    (YieldsList-from_slice runs (search rules)) (search rules) (λ x b q k. search (rules, tests))) ∙ length-filter _ runs in
    let woken : c.count-4.result ≡ count_by (λ run. run.wake_up) runs =
    count_from_yields_List _ _ c.count-4.ensures.ran (YieldsList-from_filter _ (λ run. run.wake_up)
    (YieldsList-from_slice runs (search rules)) (search rules) (λ x b q k. search (rules, tests))) ∙ length-filter _ runs in
    let dropped : c.count-5.result ≡ count_by (λ run. run.dropped) runs =
    count_from_yields_List _ _ c.count-5.ensures.ran (YieldsList-from_filter _ (λ run. run.dropped)
    (YieldsList-from_slice runs (search rules)) (search rules) (λ x b q k. search (rules, tests))) ∙ length-filter _ runs in
    finished c.finish.result c.new-page.ensures
    (c.words.ensures & c.number.ensures & c.words-2.ensures
    & added_as (ap decimal tie) c.number-2.ensures & c.words-3.ensures
    & added_as (ap decimal round) c.number-3.ensures & c.words-4.ensures
    & added_as (ap decimal term) c.number-4.ensures & c.words-5.ensures
    & added_as (ap decimal woken) c.number-5.ensures & c.words-6.ensures
    & added_as (ap decimal dropped) c.number-6.ensures & c.words-7.ensures) c.finish.ensures
