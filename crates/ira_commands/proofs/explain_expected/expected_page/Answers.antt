use Rattle.std.proofs.Common.{◌∙◌, ◌++◌, List, ap, subst, ℕ}
use Rattle.std.specs.Option.{option_map}
use Rattle.ira_audit.specs.declared.judged.Judged.{Judged}
use Rattle.ira_view_election.specs.Election.{standing_of}
use Rattle.ira_view.specs.Explained.{IsExplanation}
use Rattle.ira_view_page.proofs.Adding.{◌&◌, added_as, finished}
use Rattle.ira_commands.proofs.Served.{if_ok}
use Rattle.ira_commands.proofs.explain_expected.expected_page.Goals as goal

pub returns : goal.returns
returns g c =
    let explanation = c.in_ok-ring.ring.view.explanation in
    let standing = option_map standing_of c.in_ok-ring.ring.election in
    let lines = c.args.lines.now in
    let why = c.in_ok-why.why in
    let text = ap (λ (t : List ℕ). t ++ c.as_str-2.result.now ++ c.as_str-3.result.now) c.as_str.ensures.text
    ∙ ap (λ (t : List ℕ). lines ++ t ++ c.as_str-3.result.now) c.as_str-2.ensures.text
    ∙ ap (λ (t : List ℕ). lines ++ why ++ t) c.as_str-3.ensures.text in
    let whole = finished c.finish.result c.new-page.ensures
    (added_as text (c.words.ensures & c.words-2.ensures & c.words-3.ensures)) c.finish.ensures in
    if_ok c.finish.result (λ page is. record {
      why = why;
      why_is = c.in_ok-why.ensures;
      explanation = explanation;
      standing = standing;
      explained = subst (λ (j : Judged g.row.A.Denot). IsExplanation c.args.files.now j explanation standing) c.requires.good
          c.in_ok-ring.ensures.explained;
      page_is = is;
    }) whole
