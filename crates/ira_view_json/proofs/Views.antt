-- A value, level by level.
use Rattle.std.proofs.Common.{◌≡◌, ◌<◌, ◌∷◌, [], ℕ, Bor, List, String, Vec, arith, get_or, length, rules, string_bytes}
use Rattle.std.proofs.Common.{suc, zero}
use Rattle.std.proofs.lemmas.List.{length-append}
use Rattle.json.specs.Json.{Items, array, item, no_items, object, string}
use Rattle.json.specs.Tree.{items_tokens, json_tokens, members_tokens}
use Rattle.ira_view_json.specs.View.{items_view, members_view, view}
use Rattle.ira_view_json.specs.declared.value.Value.{Value, Array, Number, Object, Text, the_lemmas}
use Rattle.ira_view_json.specs.Members.{natural}

pub view-Text : {A : Type 0} (s : String A) → view (Text s) ≡ string (string_bytes s)
view-Text s = search (rules, the_lemmas)

pub view-Number : (A : Type 0) (n : ℕ) → view {A = A} (Number n) ≡ natural n
view-Number A n = search (rules, the_lemmas)

pub view-Array : {A : Type 0} (v : Vec (Value A) A) → view (Array v) ≡ array (items_view v.items)
view-Array v = search (rules, the_lemmas)

pub view-Object : {A : Type 0} (v : Vec (Bor (List ℕ) × Value A) A) → view (Object v) ≡ object (members_view v.items)
view-Object v = search (rules, the_lemmas)

closes_items : (js : Items) → 0 < length (items_tokens js)
closes_items no_items = omega arith
closes_items (item j js) = omega (arith, length-append (json_tokens j) (items_tokens js), closes_items js)

-- a value that is written has fewer tokens than the list
pub item_smaller : {A : Type 0} (vs : List (Value A)) (i : ℕ) (d : Value A) → i < length vs
    → length (json_tokens (view (get_or vs i d))) < length (items_tokens (items_view vs))
item_smaller [] i d h = absurd (omega arith)
item_smaller (v ∷ vs) zero d h =
    omega (arith, length-append (json_tokens (view v)) (items_tokens (items_view vs)), closes_items (items_view vs))
item_smaller (v ∷ vs) (suc i) d h =
    omega
    (arith, length-append (json_tokens (view v)) (items_tokens (items_view vs)), item_smaller vs i d (omega arith))

-- and than the members
pub member_smaller : {A : Type 0} (ms : List (Bor (List ℕ) × Value A)) (i : ℕ) (d : Bor (List ℕ) × Value A)
    → i < length ms → length (json_tokens (view (get_or ms i d).1)) < length (members_tokens (members_view ms))
member_smaller [] i d h = absurd (omega arith)
member_smaller (m ∷ ms) zero d h =
    omega (arith, length-append (json_tokens (view m.1)) (members_tokens (members_view ms)))
member_smaller (m ∷ ms) (suc i) d h =
    omega (
      arith,
      length-append (json_tokens (view m.1)) (members_tokens (members_view ms)),
      member_smaller ms i d (omega arith),
    )
