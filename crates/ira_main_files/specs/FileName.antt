-- The names of files.
use Rattle.std.specs.Prelude.{ℕ, ◌==◌, List, [], ◌++◌, codes, decimal, if◌then◌else◌}
use Rattle.std.specs.List.{ends_with}

-- what comes between the name of a folder and that of a file in it: a slash, where the folder's doesn't end in one
abbrev pub slash_after : List ℕ → List ℕ
slash_after folder = if ends_with (λ a b. a == b) folder (codes "/") then [] else codes "/"

-- the name of the file for the log of the node at this place
abbrev pub log_name : List ℕ → ℕ → List ℕ
log_name folder place = folder ++ slash_after folder ++ decimal place ++ codes ".log"

-- the name of a file in a folder
abbrev pub name_in : List ℕ → List ℕ → List ℕ
name_in folder name = folder ++ slash_after folder ++ name
