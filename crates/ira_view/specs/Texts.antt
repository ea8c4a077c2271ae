-- The texts of files with names.
use Rattle.std.specs.Prelude.{◌≡◌, ℕ, List, map}
use Rattle.ira_view_page.specs.declared.named_text.NamedText.{NamedText}

-- the texts, without the names of their files
abbrev pub texts_of : List NamedText → List (List ℕ)
texts_of files = map (λ file. file.text.now) files

-- the files have these names and texts
pub record AreFiles (names texts : List (List ℕ)) (files : List NamedText) : Type 0 where
  pub names_are : map (λ file. file.name.now) files ≡ names
  pub texts_are : texts_of files ≡ texts
