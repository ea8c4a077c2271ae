-- What a hint of an end line says of it.
use Rattle.std.specs.Prelude.{⊤, ◌+◌, ℕ, List, codes}
use Rattle.ira_view_explain.specs.HeadLine.{IsNumbered}
use Rattle.ira_view_explain.specs.declared.text_hint.TextHint.{TextHint}
use Rattle.ira_view_explain.specs.declared.text_hint.TextHint.TheVariants.{CountedMore}

-- it is so of the line after so many records
abbrev pub IsSo : List ℕ → ℕ → TextHint → Type 0
-- the line counts so many more
IsSo line records (CountedMore count) = IsNumbered (codes "end ") line (records + count)
-- of the others nothing is said here
IsSo line records hint = ⊤
