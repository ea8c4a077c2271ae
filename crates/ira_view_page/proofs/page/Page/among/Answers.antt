use Rattle.std.proofs.Common.{◌≡◌, ◌+◌, ◌-◌, ◌<◌, ◌^◌, ◌++◌, ℕ, zero, suc, ap, arith, decimal, min, refl}
use Rattle.std.specs.Prelude.{codes}
use Rattle.ira_view_page.proofs.Adding.{◌&◌, added_as}
use Rattle.ira_view_page.specs.Beside.{lines_text}
use Rattle.ira_view_page.proofs.page.Page.among.Goals as goal

some_lines : (count : ℕ) → 0 < count
    → codes " (lines 5 to " ++ decimal (min (count + 4) (2 ^ 64 - 1)) ++ codes ")" ≡ lines_text count
some_lines zero some = absurd (omega (arith, some))
some_lines (suc count) some = refl

pub returns-then-count-gt0 : goal.returns-then-count-gt0
returns-then-count-gt0 g c =
    let count = c.in-Records.count in
    let lines = c.words.ensures & added_as (ap decimal c.saturating_add.ensures) c.number-then-count-gt0.ensures
    & c.words-then-count-gt0.ensures in
    rw c.in-Records.is (c.number_of.ensures & added_as (some_lines count c.if-count-gt0.true) lines)
