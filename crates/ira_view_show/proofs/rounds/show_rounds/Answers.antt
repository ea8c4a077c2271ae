use Rattle.std.proofs.Common.{◌≡◌, ◌-◌, ◌==◌, ◌∙◌, ap, length, refl, sym}
use Rattle.std.proofs.lemmas.List.{length-map}
use Rattle.ira_view_moment.specs.Rounds.{drawn}
use Rattle.ira_view_show.specs.RoundLines.{beyond_text}
use Rattle.ira_view_page.proofs.Adding.{◌&◌, added_as}
use Rattle.ira_view_show.proofs.Lines.{added_whole, began}
use Rattle.ira_view_show.proofs.Parts.{rounds_are, some_rounds}
use Rattle.ira_view_show.proofs.rounds.show_rounds.Goals as goal

pub returns : goal.returns
returns g c =
    let rounds = c.args.rounds.now in
    let slice = c.as_slice-rounds.result.now in
    let same = c.as_slice-rounds.ensures in
    let number : length rounds ≡ length slice = sym (ap length same) ∙ length-map slice drawn in
    let some = ap (λ n. n == 0) number ∙ sym c.is_empty.ensures ∙ c.if-is_empty.false in
    let rows = began c.new-table.ensures (added_whole refl c.heads.ensures c.add.ensures & c.add_shown.ensures) in
    let are = rounds_are slice rounds c.has_later-has_terms.result same c.has_later-has_terms.ensures in
    let beyond = ap beyond_text (c.saturating_sub.ensures ∙ ap (λ n. n - 20) (sym number)) in
    added_as (some_rounds rounds some)
    (added_whole refl (added_as are rows) c.table-2.ensures & added_as beyond c.show_beyond.ensures & c.blank.ensures)
