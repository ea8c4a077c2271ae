-- What a text shows that is no question's or no certificate's.
use Rattle.std.specs.Prelude.{◌≡◌, ◌≢◌, ◌⊎◌, ◌<◌, ◌≤◌, ◌+◌, ℕ, List, None, codes}
use Rattle.ira_view_page.specs.Beside.{Said, due, note}
use Rattle.ira_view_page.specs.Lines.{IsLine, whole_lines}
use Rattle.ira_view_page.specs.TextStop.{IsWholeLine, after_end}
use Rattle.ira_view_page.specs.declared.text_stop.TextStop.{TextStop}
use Rattle.ira_view_page.specs.declared.text_stop.TextStop.TheVariants.{ShortHead}
use Rattle.ira_view_explain_question.specs.SaidLines.{IsNthLine}

-- the text shows it in this line of its head, or has fewer whole lines
abbrev pub IsInHead : List ℕ → ℕ → Said → TextStop → Type 0
IsInHead text number beside stop =
    ((whole_lines text < number) × (stop ≡ ShortHead (whole_lines text) None))
    ⊎ ((number ≤ whole_lines text) × IsWholeLine text number beside stop)

-- a text without its head shows it in the first line, where that is another than this one, or else in the second
abbrev pub IsHeadStop : List ℕ → List ℕ → Said → TextStop → Type 0
IsHeadStop text first beside stop =
    ((line : List ℕ) × IsLine text 1 line × (line ≢ first) × IsInHead text 1 beside stop)
    ⊎ (IsLine text 1 first × IsInHead text 2 (due (codes "`nodes N` with N from 2 to 255")) stop)

-- of the last line of a text that ends too early
abbrev pub last_line : Said
last_line = note (codes "the last line; `end` is due after it")

-- a text that goes on shows it in the line after the first that says `end`
abbrev pub IsTrailingStop : List ℕ → TextStop → Type 0
IsTrailingStop text stop =
    (end : ℕ) × IsNthLine text (codes "end") 1 end × IsWholeLine text (end + 1) (after_end end) stop
