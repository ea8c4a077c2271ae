-- Members of objects, and values that are made of numbers and words.
use Rattle.std.specs.Prelude.{ℕ, List, decimal, map}
use Rattle.std.specs.Cmp.Lexicographic.{slice_cmp}
use Rattle.std.specs.Ordering.{match_ordering, nat_cmp}
use Rattle.json.specs.Json.{Json, Members, array, member, no_members, number, string}
use Rattle.json.specs.Value.{items_of}

-- members in the order of their keys, and a value more, in the place of the one with its key where there is one
abbrev pub put : List ℕ → Json → Members → Members
put key value no_members = member key value no_members
put key value (member k v members) =
    match_ordering (slice_cmp nat_cmp key k) (member key value (member k v members)) (member k value members)
    (member k v (put key value members))

-- a number, and a list of them
abbrev pub natural : ℕ → Json
natural n = number (decimal n)

abbrev pub naturals : List ℕ → Json
naturals numbers = array (items_of (map natural numbers))

-- members, and a number or words more
abbrev pub with_number : List ℕ → ℕ → Members → Members
with_number key n members = put key (natural n) members

abbrev pub with_words : List ℕ → List ℕ → Members → Members
with_words key words members = put key (string words) members
