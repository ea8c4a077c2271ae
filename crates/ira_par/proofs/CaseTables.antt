-- The lists of a case's candidates.
use Rattle.std.proofs.Common.{◌≡◌, ◌∙◌, ℕ, ◌<◌, inl, inr, List, Some, All, Result, Ok, Err, IfOk, length, sym, ap}
use Rattle.std.proofs.Common.{subst, arith}
use Rattle.std.specs.Prelude.{slice_get, slice_index_or}
use Rattle.std.proofs.lemmas.Option.{same_Some, slice_get_cases, slice_get-get_or, slice_get_within}
use Rattle.std.proofs.lemmas.Option.{get_or_from_slice_get}
use Rattle.ira_event.specs.Log.{Log}
use Rattle.ira_pred.specs.Case.{Conjunct}
use Rattle.ira_cert.specs.Conjuncts.{IsAsked, CandidatesOf, HasPlacesOf}
use Rattle.ira_par.specs.CandidateTable.{CandidateTable, IsTableFor, IsListAt, AreTables, AreBelow}

-- what holds of all members holds of the one there
pub all_at : {X : Type 0} (P : X → Type 0) (xs : List X) (i : ℕ) (x : X) → All P xs → slice_get xs i ≡ Some x → P x
all_at P xs i x all at = subst P (get_or_from_slice_get xs i x x at) (all i x (slice_get_within xs i x at))

pub below_at : (places : ℕ) (tables : List CandidateTable) (i : ℕ) (xs : List ℕ) → AreBelow places tables
    → IsListAt tables i xs
    → i < places
below_at places tables i xs below at =
    all_at (λ (t : CandidateTable). t.place < places) tables at.0 (record { place = i; positions = xs }) below at.1

module _ (logs : List Log) (case : List Conjunct) (tables : List CandidateTable)
    (each : (n : ℕ) (table : CandidateTable)
    → slice_get tables n ≡ Some table → IsTableFor logs case n table) where
  at_asked : length tables ≡ length case → (i : ℕ) → IsAsked case i → (positions : List ℕ) × IsListAt tables i positions
  at_asked long i asked =
      let x : Conjunct = record { place = i; formula = asked.0 } in
      let there = asked.1 in
      let x_at : slice_get case there.0 ≡ Some x =
      slice_get-get_or case there.0 x there.1 ∙ ap (λ (y : Conjunct). Some y) there.2 in
      elim (slice_get_cases tables there.0).1 [
        | inl h ↦
            let is = each there.0 h.0 h.2 in
            let same : is.0 ≡ x = same_Some is.0 x (sym is.1 ∙ x_at) in
            let place : h.0.place ≡ i = is.2 ∙ ap (λ (c : Conjunct). c.place) same in (
              h.0.positions,
              (
                there.0,
                h.2 ∙ ap (λ (p : ℕ). Some (record { place = p; positions = h.0.positions })) place,
              ),
            )
        | inr h ↦ absurd (omega (arith, h.0, there.1, long))
      ]

  pub are_tables : length tables ≡ length case → AreTables logs case tables
  are_tables long = record {
    asked = at_asked long;
    lists = λ i xs at.
        let is = each at.0 (record { place = i; positions = xs }) at.1 in
        subst (λ (j : ℕ). CandidatesOf logs case j xs) (sym is.2) is.3;
  }

  pub are_below : HasPlacesOf logs case → AreBelow (length logs) tables
  are_below places k d l =
      let is = each k (slice_index_or tables k d) (slice_get-get_or tables k d l) in
      let within : is.0.place < length logs =
      all_at (λ (c : Conjunct). c.place < length logs) case k is.0 places is.1 in
      omega (arith, within, is.2)

-- where a table is found for each conjunct
module _ (logs : List Log) (case : List Conjunct) (P : ℕ → CandidateTable
    → Type 0) (tables : (n : ℕ) (table : CandidateTable) → P n table
    → IsTableFor logs case n table) where
  module _ {V E : Type 0} (items : V → List CandidateTable) where
    pub tables_if_found : (result : Result V E) → IfOk result (λ v. length (items v) ≡ length case)
        → IfOk result (λ v. (n : ℕ) (table : CandidateTable) → slice_get (items v) n ≡ Some table → P n table)
        → IfOk result (λ v. AreTables logs case (items v))
    tables_if_found (Ok v) long each =
        are_tables logs case (items v) (λ n table at. tables n table (each n table at)) long
    tables_if_found (Err e) long each = tt

    pub below_if_found : (result : Result V E) → HasPlacesOf logs case
        → IfOk result (λ v. (n : ℕ) (table : CandidateTable) → slice_get (items v) n ≡ Some table → P n table)
        → IfOk result (λ v. AreBelow (length logs) (items v))
    below_if_found (Ok v) places each =
        are_below logs case (items v) (λ n table at. tables n table (each n table at)) places
    below_if_found (Err e) places each = tt
