-- What a command is given: files, each with its name and its text.
use Rattle.std.specs.Prelude.{◌≡◌, ℕ, List}
use Rattle.ira_view_page.specs.declared.named_text.NamedText.{NamedText}

-- a file's name, and its text
pub record File : Type 0 where
  pub name : List ℕ
  pub text : List ℕ

-- the file of a question, and that of a certificate; and the names and the texts of those of the logs, in the order of the
-- ring's places
pub record Given : Type 0 where
  pub question : File
  pub certificate : File
  pub names : List (List ℕ)
  pub texts : List (List ℕ)

-- a file that is at hand is this one
abbrev pub IsFile : File → NamedText → Type 0
IsFile file named = (named.name.now ≡ file.name) × (named.text.now ≡ file.text)

-- ---- Helpers, no definitions.

-- what files that are at hand come to
abbrev pub file_of : NamedText → File
file_of named = record { name = named.name.now; text = named.text.now }

abbrev pub given_of : NamedText → NamedText → List (List ℕ) → List (List ℕ) → Given
given_of question certificate names texts =
    record { question = file_of question; certificate = file_of certificate; names = names; texts = texts }
