use Rattle.std.proofs.Common.{◌≡◌, ◌∙◌, ◌-◌, ◌<◌, ◌++◌, ◌∷◌, [], ℕ, List, Some, ap, arith, length, refl, sym}
use Rattle.std.specs.Prelude.{codes}
use Rattle.std.proofs.lemmas.Bool.Decides.{nat_tests}
use Rattle.ira_view_page.proofs.Adding.{◌&◌, added_as, nothing_added}
use Rattle.ira_view_page.specs.Page.{Added, carets_text, spaces}
use Rattle.ira_view_page.specs.Quoted.{quoted_column, quoted_text}
use Rattle.ira_view_page.specs.PointedLine.{after_place, named_place}
use Rattle.ira_view_page.proofs.Widths.{added_when, width_is}
use Rattle.ira_view_page.proofs.pointed_line.PointedLine.print.Goals as goal
use Rattle.ira_view_page.proofs.pointed_line.PointedLine.print.Goals.{then-not-is_empty, else-not-is_empty}

after_some : (line : List ℕ) → 0 < length line → after_place line ≡ codes " " ++ quoted_text line
after_some [] some = absurd (omega (arith, some))
after_some (c ∷ line) some = refl

after_none : (line : List ℕ) → length line ≡ 0 → after_place line ≡ []
after_none [] none = refl
after_none (c ∷ line) none = absurd (omega (arith, none))

pub returns : goal.returns
returns g c =
    let line = c.line-line.result.now in
    let pointed = c.args.self.now in
    let head : Added c.args.page.now (named_place c.args.file.now.name.now pointed.number) c.words.new.self =
    c.begin.ensures & c.place.ensures & c.words.ensures in
    let placed : Added c.words.new.self (after_place line) c.if-not-is_empty.page =
    elim c.if-not-is_empty.branch [
      | then-not-is_empty w ↦
          (let some : 0 < length line = grind (arith, nat_tests, c.is_empty.ensures, w.if-not-is_empty.true) in
          rw w.page-is (added_as (sym (after_some line some)) (w.words-then-not-is_empty.ensures & w.quote.ensures)))
      | else-not-is_empty w ↦
          (let none : length line ≡ 0 = grind (arith, nat_tests, c.is_empty.ensures, w.if-not-is_empty.false) in
          rw w.page-is (added_as (sym (after_none line none)) (nothing_added _)))
    ] in
    let after = placed & c.end.ensures in
    let margin : (all : List ℕ) → c.spaces.new.self ≡ Some all
    → spaces c.saturating_sub-column.result ≡ spaces (length (named_place c.args.file.now.name.now pointed.number)) =
    λ all e.
    let before = (after & c.spaces.ensures).ends all e in
    ap spaces (c.saturating_sub-column.ensures
    ∙ width_is before.0 c.len-start.result c.len.result head before.1 c.len-start.ensures c.len.ensures) in
    let first : c.quoted_column-first.result ≡ quoted_column line pointed.from = c.quoted_column-first.ensures in
    let count : c.saturating_sub.result ≡ quoted_column line pointed.to - quoted_column line pointed.from =
    omega (arith, c.saturating_sub.ensures, first, c.quoted_column.ensures) in (
      _,
      record { bytes = line; bytes_are = c.line-line.ensures; is = refl },
      head & placed & c.end.ensures & added_when margin c.spaces.ensures & c.words-2.ensures
          & (added_as (ap spaces first) c.spaces-2.ensures & added_as (ap carets_text count) c.carets.ensures)
          & c.words-3.ensures & c.print.ensures & c.print_end.ensures,
    )
