-- The candidates left of each node, after steps that were made, tell whether the next step is sound.
use Rattle.std.proofs.Common.{◌≡◌, ◌≢◌, ◌↔◌, IsTrue, ℕ, zero, suc, ◌+◌, ◌<◌, ◌≤◌, inl, inr, Bool, true, false, not}
use Rattle.std.proofs.Common.{List, [], ◌∷◌, Option, Some, None, is_some, length, slice_get, slice_set, slice_index_or}
use Rattle.std.proofs.Common.{drop, take, refl, sym, ◌∙◌, ap, subst, arith}
use Rattle.std.specs.Option.{option_map}
use Rattle.std.proofs.lemmas.Bool.{cases_eq}
use Rattle.std.proofs.lemmas.List.{drop-drop}
use Rattle.std.proofs.lemmas.Option.{same_Some, get_or_from_slice_get, slice_get_within}
use Rattle.ira_event.specs.Log.{Log}
use Rattle.ira_pred.specs.Case.{Conjunct}
use Rattle.ira_cert_text.specs.declared.cert_step.CertStep.{CertStep}
use Rattle.ira_cert.specs.Conjuncts.{IsAsked, CandidatesOf, HasDifferentPlaces}
use Rattle.ira_cert.specs.Front.{made, IsFront, IsSpent}
use Rattle.ira_cert.specs.Queues.{AreQueues}
use Rattle.ira_cert.specs.QueuesAfter.{AreQueuesAfter}
use Rattle.ira_cert.specs.SoundSection.{IsSoundStep}
use Rattle.ira_cert.proofs.Made.{made_own, made_other}
use Rattle.ira_cert.proofs.OneList.{one_list}

-- an empty list, told by its first member
pub none_left : (queues : List (Option (List ℕ))) (i : ℕ) (xs : List ℕ) (front : Option ℕ) (none : Bool)
    → slice_get queues i ≡ Some (Some xs) → front ≡ slice_get xs 0 → is_some front ≡ not none
    → IsTrue none ↔ (slice_get queues i ≡ Some (Some []))
none_left queues i [] front true at e t = (λ h. at, λ h. refl)
none_left queues i [] front false at e t = absurd (let n : is_some front ≡ false = ap is_some e in cc)
none_left queues i (x ∷ xs) front true at e t = absurd (let n : is_some front ≡ true = ap is_some e in cc)
none_left queues i (x ∷ xs) front false at e t = (λ h. cc, λ h. cc)

pub slice_get-drop : (n : ℕ) (xs : List ℕ) → slice_get (drop n xs) 0 ≡ slice_get xs n
slice_get-drop zero [] = refl
slice_get-drop zero (x ∷ xs) = refl
slice_get-drop (suc n) [] = refl
slice_get-drop (suc n) (x ∷ xs) = slice_get-drop n xs

none_after : (n : ℕ) (xs : List ℕ) → slice_get xs n ≡ None → length xs ≤ n
none_after n [] e = omega arith
none_after zero (x ∷ xs) e = cc
none_after (suc n) (x ∷ xs) e = let l : length xs ≤ n = none_after n xs e in omega arith

module _ (logs : List Log) (case : List Conjunct) (before : List CertStep) (queues : List (Option (List ℕ)))
    (rest : AreQueuesAfter logs case before queues) where
  -- a node without a list isn't asked
  pub not_asked_at : (i : ℕ) → ((xs : List ℕ) → slice_get queues i ≢ Some (Some xs)) → ¬ (IsAsked case i)
  not_asked_at i none asked = let h = rest.asked i asked in none h.0 h.1

  pub asked_at : (i : ℕ) (xs : List ℕ) → slice_get queues i ≡ Some (Some xs) → IsAsked case i
  asked_at i xs at = let h = rest.lists i xs at in (h.1.formula, h.1.asked)

  pub spent_at : (i : ℕ) (xs : List ℕ) → slice_get queues i ≡ Some (Some xs) → slice_get xs 0 ≡ None
      → IsSpent logs case before i
  spent_at i xs at none =
      let h = rest.lists i xs at in
      let gone : slice_get h.0 (made before i) ≡ None =
      sym (slice_get-drop (made before i) h.0) ∙ ap (λ (ys : List ℕ). slice_get ys 0) (sym h.3) ∙ none in
      let past : length h.0 ≤ made before i = none_after (made before i) h.0 gone in
      (h.0, h.1, omega (arith, h.2))

  pub front_at : (i p : ℕ) (xs : List ℕ) → slice_get queues i ≡ Some (Some xs) → slice_get xs 0 ≡ Some p
      → IsFront logs case before i p
  front_at i p xs at first =
      let h = rest.lists i xs at in
      (h.0, h.1, sym (slice_get-drop (made before i) h.0) ∙ ap (λ (ys : List ℕ). slice_get ys 0) (sym h.3) ∙ first)

-- a node has one front
pub one_front : (logs : List Log) (case : List Conjunct) (before : List CertStep) (i p q : ℕ) → HasDifferentPlaces case
    → IsFront logs case before i p → IsFront logs case before i q → p ≡ q
one_front logs case before i p q differ a b =
    let same : a.0 ≡ b.0 = one_list logs case i a.0 b.0 differ a.1 b.1 in
    same_Some p q (sym a.2 ∙ ap (λ (xs : List ℕ). slice_get xs (made before i)) same ∙ b.2)

pub slice_get-set_same : {X : Type 0} → (xs : List X) (i : ℕ) (x : X) → i < length xs
    → slice_get (slice_set xs i x) i ≡ Some x
slice_get-set_same [] i x l = absurd (omega arith)
slice_get-set_same (y ∷ ys) zero x l = refl
slice_get-set_same (y ∷ ys) (suc i) x l = slice_get-set_same ys i x (omega arith)

pub slice_get-set_other : {X : Type 0} → (xs : List X) (i j : ℕ) (x : X) → i ≢ j
    → slice_get (slice_set xs i x) j ≡ slice_get xs j
slice_get-set_other [] i j x other = refl
slice_get-set_other (y ∷ ys) zero zero x other = absurd (other refl)
slice_get-set_other (y ∷ ys) zero (suc j) x other = refl
slice_get-set_other (y ∷ ys) (suc i) zero x other = refl
slice_get-set_other (y ∷ ys) (suc i) (suc j) x other = slice_get-set_other ys i j x (λ e. other (ap suc e))

-- before the first step all candidates are left
pub all_left : (logs : List Log) (case : List Conjunct) (queues : List (Option (List ℕ))) → AreQueues logs case queues
    → AreQueuesAfter logs case [] queues
all_left logs case queues h = record { asked = h.asked; lists = λ i xs at. (xs, h.lists i xs at, omega arith, refl) }

-- the lists after the node's first member was removed
abbrev pub one_fewer : List (Option (List ℕ)) → ℕ → List (Option (List ℕ))
one_fewer queues i = slice_set queues i (option_map (λ xs. drop 1 xs) (slice_index_or queues i None))

module _ (logs : List Log) (case : List Conjunct) (differ : HasDifferentPlaces case) (steps : List CertStep) (k : ℕ)
    (s : CertStep) (at : slice_get steps k ≡ Some s) (sound : IsSoundStep logs case (take k steps) s)
    (queues : List (Option (List ℕ))) (rest : AreQueuesAfter logs case (take k steps) queues) where
  -- the list of the node whose state the step eliminates
  own : (xs : List ℕ) × (slice_get queues s.node ≡ Some (Some xs))
  own = rest.asked s.node (sound.front.1.formula, sound.front.1.asked)

  own_fewer : slice_get (one_fewer queues s.node) s.node ≡ Some (Some (drop 1 own.0))
  own_fewer =
      let there : slice_index_or queues s.node None ≡ Some own.0 =
      get_or_from_slice_get queues s.node (Some own.0) None own.1 in
      slice_get-set_same queues s.node _ (slice_get_within queues s.node (Some own.0) own.1)
      ∙ ap (λ (o : Option (List ℕ)). Some (option_map (λ xs. drop 1 xs) o)) there

  own_list : (left : List ℕ) → left ≡ drop 1 own.0 → (positions : List ℕ) × CandidatesOf logs case s.node positions
      × (made (take (k + 1) steps) s.node ≤ length positions)
      × (left ≡ drop (made (take (k + 1) steps) s.node) positions)
  own_list left e =
      let m : ℕ = made (take k steps) s.node in
      let h = rest.lists s.node own.0 own.1 in
      let same : sound.front.0 ≡ h.0 = one_list logs case s.node sound.front.0 h.0 differ sound.front.1 h.1 in
      let within : m < length h.0 =
      slice_get_within h.0 m s.pos (subst (λ (ys : List ℕ). slice_get ys m ≡ Some s.pos) same sound.front.2) in
      let more : made (take (k + 1) steps) s.node ≡ m + 1 = made_own steps k s at in (
        h.0,
        h.1,
        omega (arith, more),
        e ∙ ap (λ (ys : List ℕ). drop 1 ys) h.3 ∙ drop-drop 1 m h.0
            ∙ ap (λ (n : ℕ). drop n h.0) (sym more),
      )

  -- after the step the lists are those left
  left_one_fewer : AreQueuesAfter logs case (take (k + 1) steps) (one_fewer queues s.node)
  left_one_fewer = record {
    asked = λ i asked. elim (cases_eq s.node i) [
      | inl same ↦ (
        drop 1 own.0,
        subst (λ (j : ℕ). slice_get (one_fewer queues s.node) j ≡ Some (Some (drop 1 own.0))) same own_fewer,
      )
      | inr other ↦ (let h = rest.asked i asked in (h.0, slice_get-set_other queues s.node i _ other ∙ h.1))
    ];
    lists = λ i left at_i. elim (cases_eq s.node i) [
      | inl same ↦
          let here : slice_get (one_fewer queues s.node) s.node ≡ Some (Some left) =
          subst (λ (j : ℕ). slice_get (one_fewer queues s.node) j ≡ Some (Some left)) (sym same) at_i in
          let e : left ≡ drop 1 own.0 = same_Some _ _ (same_Some _ _ (sym here ∙ own_fewer)) in
          subst (λ (j : ℕ). (positions : List ℕ) × CandidatesOf logs case j positions
          × (made (take (k + 1) steps) j ≤ length positions)
          × (left ≡ drop (made (take (k + 1) steps) j) positions)) same (own_list left e)
      | inr other ↦
          let h = rest.lists i left (sym (slice_get-set_other queues s.node i _ other) ∙ at_i) in
          let same : made (take (k + 1) steps) i ≡ made (take k steps) i = made_other steps k s i at other in
          (h.0, h.1, omega (arith, h.2), h.3 ∙ ap (λ (n : ℕ). drop n h.0) (sym same))
    ];
  }

  pub left_on : (new : List (Option (List ℕ))) → new ≡ one_fewer queues s.node
      → AreQueuesAfter logs case (take (k + 1) steps) new
  left_on new e = subst (λ (left : List (Option (List ℕ))). AreQueuesAfter logs case (take (k + 1) steps) left) (sym e)
      left_one_fewer
