-- Files whose names and texts stand one after another.
use Rattle.std.specs.Prelude.{◌≡◌, ℕ, List, [], ◌++◌, ◌∷◌, length}
use Rattle.std.specs.List.{flat_map}
use Rattle.ira_view_page.specs.declared.named_text.NamedText.{NamedText}

-- how many bytes a file's name and its text are
abbrev pub lengths_of : NamedText → List ℕ
lengths_of file = length file.name.now ∷ length file.text.now ∷ []

-- these bytes
abbrev pub bytes_of : NamedText → List ℕ
bytes_of file = file.name.now ++ file.text.now

-- the lengths and the bytes are those of the files, one after another
abbrev pub AreFiles : List ℕ → List ℕ → List NamedText → Type 0
AreFiles lengths bytes files = (flat_map lengths_of files ≡ lengths) × (flat_map bytes_of files ≡ bytes)
