-- The value of JSON that a `Value` is.
use Rattle.std.specs.Prelude.{ℕ, List, map, decimal, string_bytes}
use Rattle.std.specs.Borrow.{Bor}
use Rattle.json.specs.Json.{Json, Items, Members, array, boolean, null, number, object, string}
use Rattle.json.specs.Value.{items_of, members_of}
use Rattle.ira_view_json.specs.declared.value.Value.{Value, fold-Value}
use Rattle.ira_view_json.specs.declared.value.Value.TheOpen.{Value-F}

-- one level, with each value inside already seen as its JSON
abbrev pub view_step : {A : Type 0} → Value-F A Json → Json
view_step Value-F.Null = null
view_step (Value-F.Bool is) = boolean is
view_step (Value-F.Number n) = number (decimal n)
view_step (Value-F.Words words) = string words.now
view_step (Value-F.Text text) = string (string_bytes text)
view_step (Value-F.Array v) = array (items_of v.items)
view_step (Value-F.Object v) = object (members_of v.items)

abbrev pub view : {A : Type 0} → Value A → Json
view {A} = fold-Value A Json view_step

abbrev pub items_view : {A : Type 0} → List (Value A) → Items
items_view values = items_of (map view values)

abbrev pub members_view : {A : Type 0} → List (Bor (List ℕ) × Value A) → Members
members_view entries = members_of (map (λ e. (e.0, view e.1)) entries)
