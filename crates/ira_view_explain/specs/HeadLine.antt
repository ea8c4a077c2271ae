-- The lines of a log's head, and which of them a text hasn't.
use Rattle.std.specs.Prelude.{◌≡◌, ◌≤◌, ◌-◌, ℕ, List, ◌++◌, codes, if◌then◌else◌, nat_eq}
use Rattle.ira_event.specs.Limits.{MAX_NODES, MAX_VERSION, MAX_VERSION_1_NODES}
use Rattle.ira_event.specs.Numeral.{IsNumeral}
use Rattle.ira_view_page.specs.Lines.{IsLine}
use Rattle.ira_view_explain.specs.declared.head_line.HeadLine.{HeadLine}
use Rattle.ira_view_explain.specs.declared.head_line.HeadLine.TheVariants.{Nodes, Place, Start, Version}

-- which line of a text it is
abbrev pub head_number : HeadLine → ℕ
head_number Version = 1
head_number (Nodes most) = 2
head_number (Place nodes) = 3
head_number Start = 4

-- the line is this word and this number
abbrev pub IsNumbered : List ℕ → List ℕ → ℕ → Type 0
IsNumbered word line n = (text : List ℕ) × (line ≡ word ++ text) × IsNumeral text n

-- the number is in this range
pub record IsWithin (least most n : ℕ) : Type 0 where
  pub low : least ≤ n
  pub high : n ≤ most

-- the text's line is this word and this number, which is in the range
abbrev pub Says : List ℕ → ℕ → List ℕ → ℕ → ℕ → ℕ → Type 0
Says text number word least most n =
    (line : List ℕ) × IsLine text number line × IsNumbered word line n × IsWithin least most n

-- the text's line isn't this word and a number in the range
abbrev pub Lacks : List ℕ → ℕ → List ℕ → ℕ → ℕ → Type 0
Lacks text number word least most =
    (line : List ℕ) × IsLine text number line × ((n : ℕ) → IsNumbered word line n → ¬ (IsWithin least most n))

-- the most nodes of a ring whose logs have this version
abbrev pub most_nodes : ℕ → ℕ
most_nodes version = if nat_eq version 1 then MAX_VERSION_1_NODES else MAX_NODES

-- it is the first line of the text that isn't as it should be in a head; the last one where the others are
abbrev pub IsFirstStop : List ℕ → HeadLine → Type 0
IsFirstStop text Version = Lacks text 1 (codes "irlog ") 1 MAX_VERSION
IsFirstStop text (Nodes most) =
    (version : ℕ) × Says text 1 (codes "irlog ") 1 MAX_VERSION version × (most ≡ most_nodes version)
    × Lacks text 2 (codes "nodes ") 2 most
IsFirstStop text (Place nodes) =
    (version : ℕ) × Says text 1 (codes "irlog ") 1 MAX_VERSION version
    × Says text 2 (codes "nodes ") 2 (most_nodes version) nodes × Lacks text 3 (codes "place ") 0 (nodes - 1)
IsFirstStop text Start =
    (version nodes place : ℕ) × Says text 1 (codes "irlog ") 1 MAX_VERSION version
    × Says text 2 (codes "nodes ") 2 (most_nodes version) nodes × Says text 3 (codes "place ") 0 (nodes - 1) place
