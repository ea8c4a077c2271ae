-- The files of a shelf in memory.
use Rattle.std.specs.Prelude.{◌≡◌, ◌≢◌, ℕ, List, ◌∷◌, ◌++◌, All}
use Rattle.ira_main_files.specs.Shelf.{File}

-- the files that were written, and those that are given with a text
pub record MemoryFiles : Type 0 where
  pub written : List File
  pub given : List File

-- the first of the files that has this name has these bytes
pub record HasFirst (files : List File) (name bytes : List ℕ) : Type 0 where
  pub before : List File
  pub after : List File
  pub parts : files ≡ before ++ record { name = name; bytes = bytes } ∷ after
  pub others : All (λ file. file.name ≢ name) before
