use Rattle.std.proofs.Common.{◌≡◌, ◌++◌, ℕ, List, sym, ap, subst, ◌∙◌, take, drop}
use Rattle.std.specs.Prelude.{codes}
use Rattle.ira_event.specs.NextLine.{HasNoLineFeed}
use Rattle.ira_event.proofs.LogReading.{no_line_end, line_end_at}
use Rattle.ira_view_page.proofs.FirstLines.{first_feed}
use Rattle.ira_view_page.proofs.first_line.split_line.Goals as goal

pub returns-in_default : goal.returns-in_default
returns-in_default c = no_line_end c.args.text.now (sym c.line_end.ensures ∙ c.in_default.is)

pub returns : goal.returns
returns c =
    let text = c.args.text.now in
    let end = c.in-Some.end in
    let more = c.split_at-2.result.1.now in
    let at = sym c.line_end.ensures ∙ c.in-Some.is in
    let front : take end text ≡ c.split_at.result.0.now = sym c.split_at.ensures.front in
    let after : drop 1 (drop end text) ≡ more = sym (c.split_at-2.ensures.back ∙ ap (drop 1) c.split_at.ensures.back) in
    let rest = ap (λ (x : List ℕ). take end text ++ codes "\n" ++ x) after in
    let line = ap (λ (x : List ℕ). x ++ codes "\n" ++ more) front in
    (first_feed text end at ∙ rest ∙ line, subst HasNoLineFeed front (line_end_at text end at).whole)
