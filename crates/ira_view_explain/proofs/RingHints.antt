-- What is found of links and of orders of a ring, place by place.
use Rattle.std.proofs.Common.{◌≡◌, ◌≢◌, ◌<◌, ◌+◌, ◌∙◌, ℕ, List, [], ◌∷◌, ◌++◌, ap, append_assoc}
use Rattle.std.proofs.Common.{arith, drop, get_or, inl, inr, length, subst, suc, sym, take}
use Rattle.std.specs.Prelude.{⊤}
use Rattle.std.proofs.Math.Seq.{drop-cons}
use Rattle.std.proofs.lemmas.Bool.{cases_lt}
use Rattle.std.proofs.lemmas.List.{take-append-drop, take_all}
use Rattle.ira_event.specs.declared.event.Event.{Event}
use Rattle.ira_event.specs.declared.load.Load.{Load}
use Rattle.ira_view_evidence.specs.LinkCause.{BeginsWith}
use Rattle.ira_event.specs.Log.{Log}
use Rattle.ira_view_explain.specs.RingHint.{Fits, IsUnreceived, IsUnsent}
use Rattle.ira_view_explain.specs.declared.other_faults.OtherFaults.{OtherFaults}
use Rattle.ira_view_explain.specs.declared.other_faults.OtherFaults.TheVariants.{None, One, Several}

-- `AreOtherFaults` of the first so many links
abbrev pub AreSoFar : List Log → ℕ → ℕ → OtherFaults → Type 0
AreSoFar logs link k None = (i : ℕ) → i < k → i ≢ link → Fits logs i
AreSoFar logs link k (One other) = (other < k) × (other ≢ link) × ¬ (Fits logs other)
    × ((i : ℕ) → i < k → i ≢ link → i ≢ other → Fits logs i)
AreSoFar logs link k Several = ⊤

-- the same events were taken so far on both sides
pub record AreSame (log other events others : List Event) : Type 0 where
  pub taken : List Event
  pub log_is : log ≡ taken ++ events
  pub other_is : other ≡ taken ++ others

longer : (all taken rest after : List Event) (e : Event) → all ≡ taken ++ rest → rest ≡ e ∷ after
    → all ≡ (taken ++ e ∷ []) ++ after
longer all taken rest after e is first =
    is ∙ (ap (λ (z : List Event). taken ++ z) first ∙ sym (append_assoc taken (e ∷ []) after))

pub same_more : (log other es os es' os' : List Event) (e : Event) → AreSame log other es os → es ≡ e ∷ es' → os ≡ e ∷ os'
    → AreSame log other es' os'
same_more log other es os es' os' e same first second = record {
  taken = same.taken ++ e ∷ [];
  log_is = longer log same.taken es es' e same.log_is first;
  other_is = longer other same.taken os os' e same.other_is second;
}

-- two lists that begin alike, of which the first then has a load more
split : (loads : List Load) (at : ℕ) (d : Load) → at < length loads
    → loads ≡ take at loads ++ get_or loads at d ∷ drop (at + 1) loads
split loads at d within =
    let one : suc at ≡ at + 1 = omega arith in
    sym (take-append-drop at loads) ∙ (ap (λ (z : List Load). take at loads ++ z) (drop-cons loads at d within)
    ∙ ap (λ (n : ℕ). take at loads ++ get_or loads at d ∷ drop n loads) one)

pub unreceived_at : (sent received : List Load) (at : ℕ) (d : Load) → take at sent ≡ take at received
    → at < length sent → BeginsWith (drop (at + 1) sent) (drop at received)
    → IsUnreceived (get_or sent at d) sent received
unreceived_at sent received at d alike within begins = (
  take at sent,
  drop (at + 1) sent,
  split sent at d within,
  (
    begins.0,
    ap (λ (z : List Load). take at sent ++ z) begins.1
        ∙ (sym (append_assoc (take at sent) (drop at received) begins.0)
        ∙ ap (λ (z : List Load). z ++ begins.0) (ap (λ (z : List Load). z ++ drop at received) alike
        ∙ take-append-drop at received)),
  ),
)

pub unsent_at : (sent received : List Load) (at : ℕ) (d : Load) → take at sent ≡ take at received
    → at < length received → BeginsWith (drop at sent) (drop (at + 1) received)
    → IsUnsent (get_or received at d) sent received
unsent_at sent received at d alike within begins = (
  take at received,
  drop (at + 1) received,
  split received at d within,
  (
    begins.0,
    sym (take-append-drop at sent) ∙ (ap (λ (z : List Load). z ++ drop at sent) alike
        ∙ (ap (λ (z : List Load). take at received ++ z) begins.1
        ∙ sym (append_assoc (take at received) (drop (at + 1) received) begins.0))),
  ),
)

pub begins_from : (loads front : List Load) (n : ℕ) → n ≡ length front → take n loads ≡ take n front
    → BeginsWith loads front
begins_from loads front n all alike = (
  drop n loads,
  sym (take-append-drop n loads)
      ∙ ap (λ (z : List Load). z ++ drop n loads) (alike ∙ take_all n front (omega (arith, all))),
)

-- one link more, which fits or is the one that isn't looked at
pub fits_more : (logs : List Log) (link k : ℕ) (found : OtherFaults) → AreSoFar logs link k found
    → (k ≢ link → Fits logs k) → AreSoFar logs link (k + 1) found
fits_more logs link k None far fits =
    λ i le other. elim (cases_lt i k) as (λ _. Fits logs i) [
      | inl less ↦ far i less other
      | inr not ↦
          let same : k ≡ i = omega (arith, le, not) in
          subst (Fits logs) same (fits (λ e. other (sym same ∙ e)))
    ]
fits_more logs link k (One one) far fits = (
  omega (arith, far.0),
  far.1,
  far.2,
  λ i le other another. elim (cases_lt i k) as (λ _. Fits logs i) [
    | inl less ↦ far.3 i less other another
    | inr not ↦
        let same : k ≡ i = omega (arith, le, not) in
        subst (Fits logs) same (fits (λ e. other (sym same ∙ e)))
  ],
)
fits_more logs link k Several far fits = tt

-- one link more, the first that doesn't fit
pub one_more : (logs : List Log) (link k : ℕ) → AreSoFar logs link k None → k ≢ link → ¬ (Fits logs k)
    → AreSoFar logs link (k + 1) (One k)
one_more logs link k far other not = (
  omega arith,
  other,
  not,
  λ i le apart else. far i (omega (arith, le, else)) apart,
)
