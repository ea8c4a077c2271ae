-- The candidates of a case, found place by place.
use Rattle.std.proofs.Common.{◌≡◌, ◌≢◌, ℕ, zero, suc, ◌<◌, inl, inr, List, [], ◌∷◌, ◌++◌, Option, Some, None}
use Rattle.std.proofs.Common.{MatchOption, Contains, Result, Ok, Err, IfOk, length, slice_get, refl, sym, ◌∙◌, ap}
use Rattle.std.proofs.Common.{subst, arith}
use Rattle.std.specs.Option.{option_map}
use Rattle.std.proofs.lemmas.List.Elements.{All-contains}
use Rattle.std.proofs.lemmas.Option.{same_Some, slice_get-get_or, slice_get_cases}
use Rattle.ira_event.specs.Log.{Log}
use Rattle.ira_order.proofs.Pushed.{pushed_cases}
use Rattle.ira_pred.specs.Case.{Conjunct}
use Rattle.ira_pred.specs.Formula.{Formula}
use Rattle.ira_cert.specs.Conjuncts.{IsAsked, CandidatesOf, HasPlacesOf}
use Rattle.ira_cert.specs.Queues.{AreQueues, IsFoundFor, AreFoundFor, AreCandidatesFor}

-- a conjunct of the case, told by its parts
pub conjunct_at : (case : List Conjunct) (n p : ℕ) (f : Formula) → option_map (λ c. c.place) (slice_get case n) ≡ Some p
    → option_map (λ c. c.formula) (slice_get case n) ≡ Some f → Contains case (record { place = p; formula = f })
conjunct_at [] n p f place formula = cc
conjunct_at (c ∷ case) zero p f place formula =
    let q : c.place ≡ p = same_Some c.place p place in
    let g : c.formula ≡ f = same_Some c.formula f formula in
    let same : c ≡ record { place = p; formula = f } =
    ap (λ (n : ℕ). record { place = n; formula = c.formula }) q
    ∙ ap (λ (h : Formula). record { place = p; formula = h }) g in
    (0, omega arith, same)
conjunct_at (c ∷ case) (suc n) p f place formula =
    let h = conjunct_at case n p f place formula in
    (suc h.0, omega (arith, h.1), h.2)

pub place_at : (case : List Conjunct) (n p : ℕ) (c : Conjunct) → option_map (λ c. c.place) (slice_get case n) ≡ Some p
    → slice_get case n ≡ Some c → p ≡ c.place
place_at case n p c place at =
    same_Some p c.place (sym place ∙ ap (λ (o : Option Conjunct). option_map (λ c. c.place) o) at)

-- no conjunct is at the place
pub none_asked : (case : List Conjunct) (p : ℕ)
    → ((k : ℕ) (c : Conjunct) → k < length case → slice_get case k ≡ Some c → c.place ≢ p) → ¬ (IsAsked case p)
none_asked case p none asked =
    let x : Conjunct = record { place = p; formula = asked.0 } in
    let c = asked.1 in
    none c.0 x c.1 (slice_get-get_or case c.0 x c.1 ∙ ap (λ (y : Conjunct). Some y) c.2) refl

pub conjunct_there : (case : List Conjunct) (n p : ℕ) → option_map (λ c. c.place) (slice_get case n) ≡ Some p
    → (c : Conjunct) × (slice_get case n ≡ Some c) × (c.place ≡ p)
conjunct_there [] n p place = cc
conjunct_there (c ∷ case) zero p place = (c, refl, same_Some c.place p place)
conjunct_there (c ∷ case) (suc n) p place = conjunct_there case n p place

-- this holds of what was found at each place
abbrev pub AllFound : {T : Type 0} → (ℕ → Option T → Type 0) → List (Option T) → Type 0
AllFound Q all = (i : ℕ) (found : Option _) → slice_get all i ≡ Some found → Q i found

-- one place more
pub found_more : {T : Type 0} → (Q : ℕ → Option T → Type 0) (all : List (Option T)) (place : ℕ) (found : Option T)
    → place ≡ length all → AllFound Q all → Q place found → AllFound Q (all ++ found ∷ [])
found_more Q all place found e h here i next at = elim (pushed_cases all found next i at) [
  | inl old ↦ h i next old
  | inr new ↦ subst (λ o. Q i o) new.1 (subst (λ (j : ℕ). Q j found) (e ∙ sym new.0) here)
]

module _ (logs : List Log) (case : List Conjunct) where
  -- what was found at a place is what it should be
  abbrev pub IsFound : ℕ → Option (List ℕ) → Type 0
  IsFound i found = MatchOption found (¬ (IsAsked case i)) (λ positions. CandidatesOf logs case i positions)

  found_at : (i : ℕ) (found : Option (List ℕ)) → IsFound i found → IsAsked case i → (positions : List ℕ)
      × (found ≡ Some positions)
  found_at i None none asked = absurd (none asked)
  found_at i (Some positions) h asked = (positions, refl)

  -- all places
  pub found_all : (all : List (Option (List ℕ))) → HasPlacesOf logs case → length all ≡ length logs
      → AllFound IsFound all → AreQueues logs case all
  found_all all places long h = record {
    asked = λ i asked.
        let within : i < length logs =
        All-contains (λ (c : Conjunct). c.place < length logs) case (record { place = i; formula = asked.0 }) places
        asked.1 in
        elim (slice_get_cases all i).1 [
          | inl o ↦ (let p = found_at i o.0 (h i o.0 o.2) asked in
              (p.0, o.2 ∙ ap (λ (x : Option (List ℕ)). Some x) p.1))
          | inr o ↦ absurd (omega (arith, o.0))
        ];
    lists = λ i positions at. h i (Some positions) at;
  }

  module _ (P : ℕ → List ℕ → Type 0) (lists : (n : ℕ) (positions : List ℕ) → P n positions
      → AreCandidatesFor logs case n positions) where
    for_place : (i : ℕ) (found : Option (List ℕ)) → IsFoundFor P case i found → IsFound i found
    for_place i None none = none
    for_place i (Some positions) h =
        let of = lists h.0 positions h.4 in
        let same : of.0 ≡ h.1 = same_Some of.0 h.1 (sym of.1 ∙ h.2) in
        subst (λ (j : ℕ). CandidatesOf logs case j positions) (ap (λ (c : Conjunct). c.place) same ∙ h.3) of.2

    -- where they are found for each conjunct
    pub queues_if_found : {V E : Type 0} → (result : Result V E) (items : V → List (Option (List ℕ))) (n : ℕ)
        → HasPlacesOf logs case → length logs ≡ n
        → IfOk result (λ all. length (items all) ≡ n) → IfOk result (λ all. AreFoundFor P case (items all))
        → IfOk result (λ all. AreQueues logs case (items all))
    queues_if_found (Ok all) items n places long count h =
        found_all (items all) places (omega (arith, count, long)) (λ i found at. for_place i found (h i found at))
    queues_if_found (Err e) items n places long count h = tt
