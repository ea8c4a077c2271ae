use Rattle.std.proofs.Common.{◌≡◌, ◌<◌, List, [], length, subst}
use Rattle.std.specs.Prelude.{slice_index_or}
use Rattle.std.proofs.lemmas.List.{get_or_read}
use Rattle.ira_pred.specs.Case.{Conjunct}
use Rattle.ira_view_page.proofs.Adding.{◌&◌}
use Rattle.ira_view_page.specs.Page.{Added}
use Rattle.ira_view_draw.specs.MomentLine.{case_words}
use Rattle.ira_view_draw.proofs.moment_line.write_told.Goals as goal

pub returns-in-OfCase : goal.returns-in-OfCase
returns-in-OfCase g c =
    let cases : List (List Conjunct) = c.in-OfCase.question.cases in
    let number = c.in-OfCase.number in
    let within : number < length cases = rw c.in-OfCase.is at c.requires in
    let same : c.cases.result.now ≡ cases = c.cases.ensures.value in
    let read : c.index-cases-number.result ≡ slice_index_or cases number [] =
    get_or_read cases number _ within (rw same at c.index-cases-number.is) [] in
    let case = subst (λ (x : List Conjunct). Added c.words-in-OfCase.new.self (case_words x) c.write_case.new.page) read
    c.write_case.ensures in
    rw c.in-OfCase.is (c.words.ensures & c.number.ensures & c.words-in-OfCase.ensures & case)
