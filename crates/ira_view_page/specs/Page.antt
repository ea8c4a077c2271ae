-- What a page holds, and what is added to it.
use Rattle.std.specs.Prelude.{◌≡◌, ℕ, List, ◌++◌, Option, Some, None, Bool, true, false, codes, max, replicate}
use Rattle.ira_view_page.specs.declared.page.Emphasis.{Emphasis}
use Rattle.ira_view_page.specs.declared.page.Emphasis.TheVariants.{Plain, Named}

-- what something holds that is whole; nothing of one that a growth was refused to
abbrev pub kept : {X : Type 0} → Bool → List X → Option (List X)
kept true held = Some held
kept false held = None

-- what is whole after these were added was whole before, and ends with them
pub record Added {X : Type 0} (old : Option (List X)) (more : List X) (new : Option (List X)) : Type 0 where
  pub ends : (all : List X) → new ≡ Some all → (before : List X) × (old ≡ Some before) × (all ≡ before ++ more)

-- what is whole after a part was added, seen so, was whole before, as the part is, and ends with it
pub record AddedBy {X Y : Type 0} (seen : Y → List X) (old : Option (List X)) (part : Option Y) (new : Option (List X))
    : Type 0 where
  pub ends :
      (all : List X) → new ≡ Some all
      → (before : List X) × (whole : Y) × (old ≡ Some before) × (part ≡ Some whole) × (all ≡ before ++ seen whole)

-- something was added
abbrev pub AddedSome : {X : Type 0} → Option (List X) → Option (List X) → Type 0
AddedSome {X} old new = (more : List X) × Added old more new

-- what a line begins with
abbrev pub mark_text : Emphasis → List ℕ
mark_text Plain = codes "  "
mark_text Named = codes "> "

-- so many spaces
abbrev pub spaces : ℕ → List ℕ
spaces count = replicate count 32

-- so many carets, one at least
abbrev pub carets_text : ℕ → List ℕ
carets_text count = replicate (max count 1) 94
