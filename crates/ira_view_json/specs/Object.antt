-- What an object has that is put together member by member.
use Rattle.std.specs.Prelude.{◌≡◌, ℕ, List, Option, Some, None, Result, Ok, Err, ⊤, if◌then◌else◌}
use Rattle.json.specs.Json.{Members, object as object_of}
use Rattle.ira_view_json.specs.Members.{put}
use Rattle.ira_view_json.specs.View.{members_view, view}
use Rattle.ira_view_json.specs.declared.object.Object.{Object}
use Rattle.ira_view_json.specs.declared.value.Value.{Value}

-- the members of an object that is whole; nothing of one that a growth was refused to
abbrev pub whole : {A : Type 0} → Object A → Option Members
whole o = if o.is_whole then Some (members_view o.members.items) else None

-- where it is whole it has these members
pub record Holds {A : Type 0} (members : Members) (o : Object A) : Type 0 where
  pub are : (all : Members) → whole o ≡ Some all → all ≡ members

-- what is whole after this was done to its members was whole before
pub record Puts {A : Type 0} (change : Members → Members) (old new : Object A) : Type 0 where
  pub ends :
      (now : Members) → whole new ≡ Some now → (before : Members) × (whole old ≡ Some before) × (now ≡ change before)

-- what is whole after a value was put was whole before, and there is the value
pub record PutsOf {A E : Type 0} (key : List ℕ) (value : Result (Value A) E) (old new : Object A) : Type 0 where
  pub ends :
      (now : Members) → whole new ≡ Some now
      → (before : Members) × (given : Value A) × (whole old ≡ Some before) × (value ≡ Ok given)
      × (now ≡ put key (view given) before)

-- the value has the members of an object that is whole
abbrev pub Gives : {A E : Type 0} → Object A → Result (Value A) E → Type 0
Gives o (Ok value) = (all : Members) × (whole o ≡ Some all) × (view value ≡ object_of all)
Gives o (Err e) = ⊤
