-- Who leads in the first term is whom the lists elect that nodes draw from.
use Rattle.std.proofs.Common.{◌≡◌, ℕ, zero, suc, ◌+◌, ◌<◌, inl, inr, List, [], ◌∷◌, ◌++◌, Some, length, refl, sym, ◌∙◌, subst, ap, arith}
use Rattle.std.specs.Prelude.{slice_get, slice_index, map}
use Rattle.std.proofs.lemmas.Option.{slice_get_cases, slice_get_within, get_or_from_slice_get}
use Rattle.ira_event.specs.Log.{Log}
use Rattle.ira_event.specs.Logs.{AreLogs}
use Rattle.ira_event.specs.Messages.{drawn}
use Rattle.ira_order.specs.Matching.{Matches}
use Rattle.ira_order.specs.Ring.{log_of}
use Rattle.ira_order.specs.Run.{AreLocalRuns}
use Rattle.ira_election.specs.Draws.{Drew, Starts}
use Rattle.ira_election.specs.Tables.{Are, HasDraws, DrawFrom, row_of, rows_from, FirstLeadersAreElected}
use Rattle.ira_election.proofs.InOrder.{first_term_in_order}
use Rattle.ira_election.proofs.Tables.{leaders_are_elected}

length_map : {X Y : Type 0} (f : X → Y) (xs : List X) → length (map f xs) ≡ length xs
length_map {X} {Y} f [] = refl
length_map {X} {Y} f (x ∷ xs) = omega (arith, length_map f xs)

get_map : {X Y : Type 0} (f : X → Y) (xs : List X) (j : ℕ) (x : X) → slice_get xs j ≡ Some x
    → slice_get (map f xs) j ≡ Some (f x)
get_map {X} {Y} f [] j x at = cc
get_map {X} {Y} f (y ∷ xs) zero x at =
    let e : y ≡ x = cc in
    ap (λ (z : X). Some (f z)) e
get_map {X} {Y} f (y ∷ xs) (suc j) x at = get_map f xs j x at

get_more : (xs ys : List ℕ) (j x : ℕ) → slice_get xs j ≡ Some x → slice_get (xs ++ ys) j ≡ Some x
get_more [] ys j x at = cc
get_more (y ∷ xs) ys zero x at = at
get_more (y ∷ xs) ys (suc j) x at = get_more xs ys j x at

row_is : (lists : List (List ℕ)) (k from r : ℕ) (row : List ℕ) → slice_get (rows_from lists from k) r ≡ Some row
    → row ≡ row_of lists (from + r)
row_is lists zero from r row at = cc
row_is lists (suc k) from zero row at =
    let e : row_of lists from ≡ row = cc in
    sym e ∙ ap (row_of lists) (omega arith)
row_is lists (suc k) from (suc r) row at =
    row_is lists k (from + 1) r row at ∙ ap (row_of lists) (omega arith)

length_rows : (lists : List (List ℕ)) (k from : ℕ) → length (rows_from lists from k) ≡ k
length_rows lists zero from = refl
length_rows lists (suc k) from = omega (arith, length_rows lists k (from + 1))

module _ (logs : List Log) (are : AreLogs logs) (matches : Matches logs) (local : AreLocalRuns logs)
    (lists : List (List ℕ)) (gives : DrawFrom logs lists) where
  given : (j r id : ℕ) → Drew logs j 1 (r + 1) id → slice_get (row_of lists r) j ≡ Some id
  given j r id drew =
      let lj : j < length lists = omega (arith, gives.count, slice_get_within logs j drew.is_in.log drew.is_in.at) in
      let numbers : slice_get (drawn (log_of logs j)) r ≡ Some id =
      first_term_in_order logs are matches local j (suc r) id
      (subst (λ (k : ℕ). Drew logs j 1 k id) (omega arith) drew) in
      elim (slice_get_cases lists j).1 [
        | inr end ↦ absurd (omega (arith, end.0))
        | inl more ↦
            let ids : List ℕ = more.0 in
            let w = gives.first j ids more.2 in
            let there : slice_get ids r ≡ Some id = subst (λ (xs : List ℕ). slice_get xs r ≡ Some id) (sym w.1)
            (get_more (drawn (log_of logs j)) w.0 r id numbers) in
            get_map (λ (xs : List ℕ). slice_index xs r) lists j ids more.2
            ∙ ap Some (get_or_from_slice_get ids r id 0 there)
      ]

  table : (k : ℕ) → HasDraws logs 1 (rows_from lists 0 k)
  table k = record {
    wide = λ r row at. ap length (row_is lists k 0 r row at)
        ∙ length_map (λ (xs : List ℕ). slice_index xs (0 + r)) lists ∙ gives.count;
    ids = λ j r id row at drew.
        ap (λ (xs : List ℕ). slice_get xs j) (row_is lists k 0 r row at ∙ ap (row_of lists) (omega arith))
        ∙ given j r id drew;
  }

pub first_leaders_are_elected : FirstLeadersAreElected
first_leaders_are_elected logs are matches local i events last id state is_in leads first those lists rounds starters
    gives room =
    leaders_are_elected logs are matches local i events last id state is_in leads those (rows_from lists 0 rounds)
    (subst (λ (t : ℕ). Are (length logs) those (Starts logs t)) (sym first) starters)
    (subst (λ (t : ℕ). HasDraws logs t (rows_from lists 0 rounds)) (sym first)
    (table logs are matches local lists gives rounds))
    (omega (arith, length_rows lists rounds 0, room))
