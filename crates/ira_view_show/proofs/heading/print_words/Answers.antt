use Rattle.std.proofs.Common.{◌≡◌, ◌<◌, List, [], length, subst}
use Rattle.std.specs.Prelude.{slice_index_or}
use Rattle.std.proofs.lemmas.List.{get_or_read}
use Rattle.ira_pred.specs.Case.{Conjunct}
use Rattle.ira_view_page.proofs.Adding.{◌&◌}
use Rattle.ira_view_page.specs.Page.{Added}
use Rattle.ira_view_show.specs.Asked.{case_text}
use Rattle.ira_view_show.proofs.heading.print_words.Goals as goal

pub returns-in-OfCase : goal.returns-in-OfCase
returns-in-OfCase g c =
    let cases : List (List Conjunct) = c.in-OfCase.question.cases in
    let number = c.in-OfCase.number in
    let within : number < length cases = rw c.in-OfCase.is at c.requires in
    let same : c.cases.result.now ≡ cases = c.cases.ensures.value in
    let read : c.index-cases-number.result ≡ slice_index_or cases number [] =
    get_or_read cases number _ within (rw same at c.index-cases-number.is) [] in
    let case = subst (λ (x : List Conjunct). Added c.words-in-OfCase-2.new.self (case_text x) c.print_case.new.page)
    read c.print_case.ensures in
    rw c.in-OfCase.is
    (c.words-in-OfCase.ensures & c.number.ensures & c.words-in-OfCase-2.ensures & case & c.words-in-OfCase-3.ensures)
