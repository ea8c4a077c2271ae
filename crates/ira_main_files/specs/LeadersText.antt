-- The text of a file of leaders: the places of those who are to lead, or who say that they lead, a line each.
use Rattle.std.specs.Prelude.{◌≡◌, ◌≢◌, ◌⊎◌, ◌<◌, ◌≤◌, ◌+◌, ℕ, All, List, [], ◌++◌, codes, decimal, length}
use Rattle.std.specs.List.{flat_map}
use Rattle.ira_event.specs.Limits.{MAX_NODES}
use Rattle.ira_main_files.specs.declared.leaders_text.LeadersFault.{LeadersFault}
use Rattle.ira_main_files.specs.declared.leaders_text.LeadersFault.TheVariants.{Line, OutOfMemory}

-- the line of a place
abbrev pub place_line : ℕ → List ℕ
place_line place = decimal place ++ codes "\n"

-- the text begins with the lines of these places, no more than a ring has nodes, and this is left of it
pub record BeginsWithPlaces (text places rest : List ℕ) : Type 0 where
  pub lines : text ≡ flat_map place_line places ++ rest
  pub each : All (λ place. place < MAX_NODES) places
  pub few : length places ≤ MAX_NODES

-- the text is that of these leaders; of nobody it is empty
abbrev pub AreLeaders : List ℕ → List ℕ → Type 0
AreLeaders text places = BeginsWithPlaces text places []

-- the text begins with the line of this place, and this is left of it; or with that of none
abbrev pub BeginsWithPlace : List ℕ → ℕ → List ℕ → Type 0
BeginsWithPlace text place rest = (text ≡ place_line place ++ rest) × (place < MAX_NODES)

abbrev pub BeginsWithNoPlace : List ℕ → Type 0
BeginsWithNoPlace text = (place : ℕ) (rest : List ℕ) → ¬ BeginsWithPlace text place rest

-- the line of this number, counted from 1, is that of no place, or there is one for each node before it
pub record IsBadLine (text : List ℕ) (line : ℕ) : Type 0 where
  pub places : List ℕ
  pub rest : List ℕ
  pub before : BeginsWithPlaces text places rest
  pub number : line ≡ length places + 1
  pub some : rest ≢ []
  pub bad : BeginsWithNoPlace rest ⊎ (length places ≡ MAX_NODES)

-- why the text is that of no leaders, or can't be read
abbrev pub IsLeadersFault : List ℕ → LeadersFault → Type 0
IsLeadersFault text (Line line) = IsBadLine text line
IsLeadersFault text OutOfMemory = Unit {0}
