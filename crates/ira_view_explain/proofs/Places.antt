-- Heads of a place, one by one, and the places that none is of.
use Rattle.std.proofs.Common.{◌≡◌, ◌≢◌, ◌<◌, ◌≤◌, ◌+◌, ◌∙◌, ℕ, List, [], ◌∷◌, ◌++◌, Option, None, Some, ap, arith, get_or}
use Rattle.std.proofs.Common.{inl, inr, length, subst, sym, true}
use Rattle.std.specs.Prelude.{Contains, MatchOption, is_some, slice_get}
use Rattle.std.proofs.lemmas.Bool.{cases_lt}
use Rattle.std.proofs.lemmas.List.{get_or_default}
use Rattle.std.proofs.lemmas.List.Elements.{Contains-append_left, Contains-push, Contains-push_cases}
use Rattle.std.proofs.lemmas.List.Quantifiers.{all_pairs_push}
use Rattle.std.proofs.lemmas.Option.{slice_get_within}
use Rattle.ira_event.specs.declared.log_head.LogHead.{LogHead}
use Rattle.ira_view_explain.specs.HeadsHint.{AreMissing, HasNoPlace, IsOfPlace}

-- none from one number up to another is of the place
abbrev pub AreOthers : List LogHead → ℕ → ℕ → ℕ → Type 0
AreOthers heads place from to = (i : ℕ) → from ≤ i → i < to → ¬ (IsOfPlace heads i place)

pub one_other : (heads : List LogHead) (place from i : ℕ) (here : LogHead) → slice_get heads i ≡ Some here
    → here.place ≢ place → AreOthers heads place from i → AreOthers heads place from (i + 1)
one_other heads place from i here is other none j after le found = elim (cases_lt j i) [
  | inl less ↦ none j after less found
  | inr not ↦
      let same : i ≡ j = omega (arith, le, not) in
      let there : slice_get heads i ≡ Some found.0 = ap (slice_get heads) same ∙ found.1 in
      let head : here ≡ found.0 = (let e : Some here ≡ Some found.0 = sym is ∙ there in cc) in
      other (ap (λ (h : LogHead). h.place) head ∙ found.2)
]

pub all_other : (heads : List LogHead) (place from i : ℕ) → length heads ≤ i → AreOthers heads place from i
    → (j : ℕ) → from ≤ j → ¬ (IsOfPlace heads j place)
all_other heads place from i end none j after found =
    none j after (omega (arith, end, slice_get_within heads j found.0 found.1)) found

-- where one is looked for and found
pub head_there : (heads : List LogHead) (place : ℕ) (o : Option ℕ) → MatchOption o
    ((i : ℕ) → 0 ≤ i → ¬ (IsOfPlace heads i place)) (λ i. (0 ≤ i) × IsOfPlace heads i place) → is_some o ≡ true
    → (i : ℕ) × IsOfPlace heads i place
head_there heads place None looked is = absurd cc
head_there heads place (Some i) looked is = (i, looked.1)

pub none_missing : (heads : List LogHead) → AreMissing heads 0 []
none_missing heads = record {
  rising = λ i j d before within. absurd (omega (arith, within));
  members = λ place. (λ is. absurd (omega (arith, is.1)), λ is. absurd (omega (arith, is.0)));
}

-- no head is of the next place
pub one_missing : (heads : List LogHead) (n : ℕ) (places : List ℕ) → HasNoPlace heads n → AreMissing heads n places
    → AreMissing heads (n + 1) (places ++ n ∷ [])
one_missing heads n places none so = record {
  rising = all_pairs_push (λ a b. a < b) places n so.rising (λ k d within.
      ((so.members (get_or places k d)).0 (k, within, get_or_default places k _ d within)).0);
  members = λ place. (
    λ is. elim (Contains-push_cases places n place is) [
      | inl earlier ↦ let at = (so.members place).0 earlier in (omega (arith, at.0), at.1)
      | inr same ↦ (omega (arith, same), subst (HasNoPlace heads) same none)
    ],
    λ is. elim (cases_lt place n) [
      | inl less ↦ Contains-append_left places (n ∷ []) place ((so.members place).1 (less, is.1))
      | inr not ↦
          let same : n ≡ place = omega (arith, not, is.0) in
          subst (Contains (places ++ n ∷ [])) same (Contains-push places n)
    ],
  );
}

-- some head is
pub one_had : (heads : List LogHead) (n i : ℕ) (places : List ℕ) → IsOfPlace heads i n → AreMissing heads n places
    → AreMissing heads (n + 1) places
one_had heads n i places had so = record {
  rising = so.rising;
  members = λ place. (
    λ is. let at = (so.members place).0 is in (omega (arith, at.0), at.1),
    λ is. elim (cases_lt place n) [
      | inl less ↦ (so.members place).1 (less, is.1)
      | inr not ↦
          let same : n ≡ place = omega (arith, not, is.0) in absurd (is.1 i (subst (IsOfPlace heads i) same had))
    ],
  );
}
