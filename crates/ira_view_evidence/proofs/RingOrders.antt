-- Receipts that are sendings, and orders of places.
use Rattle.std.proofs.Common.{◌≡◌, ◌≢◌, ℕ, ◌<◌, List, [], ◌∷◌, ◌++◌, ◌∙◌, Some, inl, inr, length, refl, sym, ap, arith, append_assoc, append-nil}
use Rattle.std.specs.Prelude.{slice_get}
use Rattle.std.proofs.lemmas.Option.{slice_get_within}
use Rattle.std.proofs.lemmas.Bool.{cases_lt}
use Rattle.std.proofs.lemmas.List.{append_cancel_left}
use Rattle.ira_event.specs.declared.event.Event.{Event}
use Rattle.ira_event.specs.declared.load.Load.{Load}
use Rattle.ira_event.specs.Log.{Log}
use Rattle.ira_order.specs.Matching.{got, sent}
use Rattle.ira_view_evidence.specs.RingOrder.{IsRingOrder, StandsAt, Takes}

-- the same loads were taken so far on both sides
pub record TakenSoFar (writer reader sendings receipts : List Event) : Type 0 where
  pub taken : List Load
  pub sent_is : sent writer ≡ taken ++ sent sendings
  pub received_is : got reader ≡ taken ++ got receipts

pub taken_at_first : (writer reader : List Event) → TakenSoFar writer reader writer reader
taken_at_first writer reader = record { taken = []; sent_is = refl; received_is = refl }

longer : (all taken rest after : List Load) (load : Load) → all ≡ taken ++ rest → rest ≡ load ∷ after
    → all ≡ (taken ++ load ∷ []) ++ after
longer all taken rest after load e f =
    e ∙ (ap (λ (z : List Load). taken ++ z) f ∙ sym (append_assoc taken (load ∷ []) after))

pub taken_more : (writer reader s r s' r' : List Event) (load : Load) → TakenSoFar writer reader s r
    → sent s ≡ load ∷ sent s' → got r ≡ load ∷ got r' → TakenSoFar writer reader s' r'
taken_more writer reader s r s' r' load t e f = record {
  taken = t.taken ++ load ∷ [];
  sent_is = longer (sent writer) t.taken (sent s) (sent s') load t.sent_is e;
  received_is = longer (got reader) t.taken (got r) (got r') load t.received_is f;
}

pub taken_all : (writer reader s r : List Event) → TakenSoFar writer reader s r → got r ≡ [] → Takes writer reader
taken_all writer reader s r t none =
    let all : got reader ≡ t.taken = t.received_is ∙ (ap (λ (z : List Load). t.taken ++ z) none ∙ append-nil t.taken) in
    (sent s, t.sent_is ∙ ap (λ (z : List Load). z ++ sent s) (sym all))

-- what is left on both sides, where all is taken
left_alike : (writer reader s r : List Event) → TakenSoFar writer reader s r → Takes writer reader
    → (rest : List Load) × (sent s ≡ got r ++ rest)
left_alike writer reader s r t h = (
  h.0,
  append_cancel_left t.taken (sent s) (got r ++ h.0) (sym t.sent_is ∙ (h.1
      ∙ (ap (λ (z : List Load). z ++ h.0) t.received_is ∙ append_assoc t.taken (got r) h.0))),
)

pub none_to_take : (writer reader s r r' : List Event) (load : Load) → TakenSoFar writer reader s r
    → got r ≡ load ∷ got r' → sent s ≡ [] → Takes writer reader → ⊥
none_to_take writer reader s r r' load t f none h =
    let left = left_alike writer reader s r t h in
    let e : [] ≡ load ∷ (got r' ++ left.0) = sym none ∙ (left.1 ∙ ap (λ (z : List Load). z ++ left.0) f) in
    cc

pub other_to_take : (writer reader s r s' r' : List Event) (a b : Load) → TakenSoFar writer reader s r
    → got r ≡ b ∷ got r' → sent s ≡ a ∷ sent s' → a ≢ b → Takes writer reader → ⊥
other_to_take writer reader s r s' r' a b t f e differ h =
    let left = left_alike writer reader s r t h in
    let same : a ∷ sent s' ≡ b ∷ (got r' ++ left.0) = sym e ∙ (left.1 ∙ ap (λ (z : List Load). z ++ left.0) f) in
    differ (let first : a ≡ b = cc in first)

only_once : (logs : List Log) (order : List ℕ) → ((i : ℕ) → i < length order → StandsAt logs order i)
    → (i j place : ℕ) → slice_get order i ≡ Some place → slice_get order j ≡ Some place → i ≡ j
only_once logs order all i j place e f =
    let within : i < length order = slice_get_within order i place e in
    let within' : j < length order = slice_get_within order j place f in
    elim (cases_lt i j) as (λ _. i ≡ j) [
      | inl less ↦ absurd ((all j within').new i place less e f)
      | inr not ↦ elim (cases_lt j i) as (λ _. i ≡ j) [
        | inl less ↦ absurd ((all i within).new j place less f e)
        | inr not' ↦ omega (arith, not, not')
      ]
    ]

pub order_of_all : (logs : List Log) (order : List ℕ) → length order ≡ length logs
    → ((i : ℕ) → i < length order → StandsAt logs order i) → IsRingOrder logs order
order_of_all logs order l all = record {
  places = l;
  in_ring = λ i place e. (all i (slice_get_within order i place e)).in_ring place e;
  once = only_once logs order all;
  takes = λ i a b e f. (all i (slice_get_within order i b f)).takes a b e f;
}
