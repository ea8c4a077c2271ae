-- Where no elimination is left, the greatest counts at the first candidates left are the least cut that meets
-- the case.
use Rattle.std.proofs.Common.{◌≡◌, ◌≢◌, ℕ, ◌+◌, ◌<◌, ◌≤◌, inl, inr, List, Option, Some, Contains, length, slice_get}
use Rattle.std.proofs.Common.{slice_index, take, refl, sym, subst, arith}
use Rattle.std.proofs.lemmas.Bool.{cases_eq, cases_order}
use Rattle.std.proofs.lemmas.List.{take_all}
use Rattle.std.proofs.lemmas.List.Elements.{All-weaker, All-contains_itself}
use Rattle.ira_event.specs.Log.{Log}
use Rattle.ira_pred.specs.Case.{Conjunct}
use Rattle.ira_pred.specs.Formula.{Formula}
use Rattle.ira_order.specs.Ring.{log_of}
use Rattle.ira_order.specs.Before.{Before, onward}
use Rattle.ira_order.specs.Cut.{HoldsAllBefore, IsConsistentCut}
use Rattle.ira_order.specs.VectorClock.{IsCount}
use Rattle.ira_order.proofs.Acyclic.{before_within}
use Rattle.ira_order.proofs.Bridge.{before_places}
use Rattle.ira_cand.specs.HoldsAt.{HoldsAt}
use Rattle.ira_cand.specs.Meets.{Meets}
use Rattle.ira_cert_text.specs.declared.cert_step.CertStep.{CertStep}
use Rattle.ira_cert.specs.Conjuncts.{HasDifferentPlaces}
use Rattle.ira_cert.specs.Front.{made}
use Rattle.ira_cert.proofs.NoCut.{candidate_at, kept_all, rising_le}
use Rattle.ira_cert.proofs.OneList.{one_formula}
use Rattle.ira_cert.specs.Queues.{HasList}
use Rattle.ira_elim.specs.Elimination.{IsFirstLeft, IsElimination, AreGreatestCounts}
use Rattle.ira_elim.specs.LeastCut.{IsLeastCut}
use Rattle.ira_elim.proofs.Places.{one_first}
use Rattle.ira_elim.proofs.Steps.{AreMade}
use Rattle.ira_elim.proofs.Within.{first_at, is_member, within}

-- another node's event is counted where it happened before
pub counts_before : (logs : List Log) (j q i n p : ℕ) → i ≢ j → IsCount logs j q i n → p < n → Before logs i (p + 1) j q
counts_before logs j q i n p other count l = elim ((count.events (p + 1) (omega arith)).0 (omega arith)) [
  | inl same ↦ absurd (other same.0)
  | inr before ↦ before
]

pub before_counts : (logs : List Log) (j q i n p : ℕ) → IsCount logs j q i n → Before logs i (p + 1) j q → p < n
before_counts logs j q i n p count before = let l : p + 1 ≤ n = (count.events (p + 1) (omega arith)).1 (inr before) in
    omega arith

module _ (logs : List Log) (queues : List (Option (List ℕ))) (cut : List ℕ)
    (greatest : AreGreatestCounts logs queues cut) where
  -- what happened before an event that the cut holds is counted
  holds_before : HoldsAllBefore logs (slice_index cut)
  holds_before i a j b before l =
      let w = before_within logs i a j b before in
      let at = before_places logs i a j b before in
      elim (greatest.counts j at.1).reached [
        | inl zero ↦ absurd (omega (arith, zero, l, w.2))
        | inr h ↦
            let onto : Before logs i a h.0 h.1 = elim ((h.3.events b w.2).0 l) [
              | inl same ↦ subst (λ (k : ℕ). Before logs i a k h.1) same.0
                  (subst (λ (q : ℕ). Before logs i a j q) same.1 before)
              | inr later ↦ onward before later
            ] in
            let up = (greatest.counts i at.0).upper h.0 h.1 h.2 in
            let counted : a ≤ up.0 = (up.1.events a w.0).1 (inr onto) in
            omega (arith, counted, up.2)
      ]

  within_logs : (i : ℕ) → i < length logs → slice_index cut i ≤ length (log_of logs i)
  within_logs i l = elim (greatest.counts i l).reached [ inl zero ↦ omega (arith, zero) | inr h ↦ h.3.within ]

  pub consistent : IsConsistentCut logs cut
  consistent = (record { places = greatest.places; within = within_logs }, holds_before)

module _ (logs : List Log) (case : List Conjunct) (steps : List CertStep) (queues : List (Option (List ℕ)))
    (differ : HasDifferentPlaces case) (made_all : AreMade logs case steps queues) where
  -- a consistent cut that meets the case is at or above each first candidate left
  passes : (other : List ℕ) → IsConsistentCut logs other → Meets logs case other → (j q : ℕ) → IsFirstLeft queues j q
      → q ≤ slice_index other j
  passes other consistent_other meets j q first =
      let m = first_at logs case steps queues made_all.queues_after j q first in
      let n = candidate_at logs case other j m.0 meets m.1 in
      let kept = kept_all logs case other differ consistent_other meets steps made_all.sound (length steps)
      (omega arith) j m.0 n.0 m.1 n.1 in
      let whole : take (length steps) steps ≡ steps = take_all (length steps) steps (omega arith) in
      let no_sooner : made steps j ≤ n.0 = subst (λ (ss : List CertStep). made ss j ≤ n.0) whole kept in
      rising_le m.0 (made steps j) n.0 q (slice_index other j) m.1.candidates_are.rising m.2 n.1 no_sooner

  module _ (cut : List ℕ) (greatest : AreGreatestCounts logs queues cut) where
    at_or_below : (other : List ℕ) → IsConsistentCut logs other → Meets logs case other → (i : ℕ) → i < length logs
        → slice_index cut i ≤ slice_index other i
    at_or_below other consistent_other meets i l = elim (greatest.counts i l).reached [
      | inl zero ↦ omega (arith, zero)
      | inr h ↦
          let c : ℕ = slice_index cut i in
          let passed : h.1 ≤ slice_index other h.0 = passes other consistent_other meets h.0 h.1 h.2 in
          elim (cases_eq c 0) [
            | inl zero ↦ omega (arith, zero)
            | inr some ↦ elim ((h.3.events c (omega arith)).0 (omega arith)) [
              | inl same ↦ subst (λ (k : ℕ). c ≤ slice_index other k) (sym same.0) (omega (arith, same.1, passed))
              | inr before ↦ consistent_other.1 i c h.0 h.1 before passed
            ]
          ]
    ]

    module _ (none : (s : CertStep) → IsElimination logs queues s → ⊥) where
      -- the position of a node that is asked is its first candidate left
      first_is : (i p : ℕ) → IsFirstLeft queues i p → slice_index cut i ≡ p
      first_is i p first =
          let g = greatest.counts i (within logs case steps queues made_all.queues_after i p first).0 in
          let up = g.upper i p first in
          let least : p ≤ slice_index cut i = elim (cases_eq p 0) [
            | inl zero ↦ omega (arith, zero)
            | inr some ↦ (let counted : p ≤ up.0 = (up.1.events p (omega arith)).1 (inl (refl, refl)) in
                omega (arith, counted, up.2))
          ] in
          let most : slice_index cut i ≤ p = elim g.reached [
            | inl zero ↦ omega (arith, zero)
            | inr h ↦ elim (cases_eq i h.0) [
              | inl same ↦ (let e : p ≡ h.1 = one_first queues i h.0 p h.1 same first h.2 in omega (arith, e, h.4 same))
              | inr other ↦ elim (cases_order p (slice_index cut i)) [
                | inl e ↦ omega (arith, e)
                | inr side ↦ elim side [
                  | inr above ↦ omega (arith, above)
                  | inl below ↦ absurd (none (record { node = i; pos = p; other = h.0; other_pos = h.1 }) (record {
                    differ = other;
                    front = first;
                    other_front = h.2;
                    happened_before = counts_before logs h.0 h.1 i (slice_index cut i) p other h.3 below;
                  }))
                ]
              ]
            ]
          ] in
          omega (arith, least, most)

      module _ (left : (i : ℕ) → HasList queues i → (p : ℕ) × IsFirstLeft queues i p) where
        met : (c : Conjunct) → Contains case c → (log : Log) × (slice_get logs c.place ≡ Some log)
            × HoldsAt log c.formula (slice_index cut c.place)
        met c asked =
            let first = left c.place (made_all.queues_after.asked c.place (c.formula, asked)) in
            let m = first_at logs case steps queues made_all.queues_after c.place first.0 first.1 in
            let of = m.1 in
            let formula : of.formula ≡ c.formula =
            one_formula case c.place of.formula c.formula differ of.asked asked in
            let holds : HoldsAt of.log of.formula first.0 =
            (of.candidates_are.members first.0).0 (is_member m.0 (made steps c.place) first.0 m.2) in (
              of.log,
              of.log_is,
              subst (λ (f : Formula). HoldsAt of.log f (slice_index cut c.place)) formula
                  (subst (λ (p : ℕ). HoldsAt of.log of.formula p) (sym (first_is c.place first.0 first.1)) holds),
            )

        pub present : IsLeastCut logs case cut
        present = record {
          consistent = consistent logs queues cut greatest;
          meets = All-weaker (Contains case) (λ (c : Conjunct). (log : Log) × (slice_get logs c.place ≡ Some log)
              × HoldsAt log c.formula (slice_index cut c.place)) met case (All-contains_itself case);
          least = at_or_below;
        }
