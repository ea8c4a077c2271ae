-- What the search for an order answers.
use Rattle.std.proofs.Common.{◌≡◌, ◌≢◌, ℕ, ◌↔◌, List, refl, ◌∙◌, ap, subst, Ok, Err, Result}
use Rattle.std.specs.Prelude.{IsOk}
use Rattle.ira_event.specs.Log.{Log}
use Rattle.ira_order.specs.declared.match_fault.MatchFault.{MatchFault}
use Rattle.ira_order.specs.declared.order_fault.OrderFault.{OrderFault}
use Rattle.ira_order.specs.declared.order_fault.OrderFault.TheVariants.{Match, Circle, OutOfMemory}
use Rattle.ira_order.specs.Matching.{Matches}
use Rattle.ira_order.specs.MatchFault.{IsMatchFault}
use Rattle.ira_order.specs.Order.{IsOrder}
use Rattle.ira_order.specs.Circle.{HasCircle}
use Rattle.ira_order.specs.Counts.{IsWhole}
use Rattle.ira_order.specs.Ordered.{IsOrdered}
use Rattle.ira_order.specs.OrderPrefix.{IsOrderPrefix, OrderPrefix}
use Rattle.ira_order.proofs.Faults.{one_fault, unmatched}
use Rattle.ira_order.proofs.Rounds.{whole_order}

pub is_ok_of : {T E : Type 0} (r : Result T E) (v : T) → r ≡ Ok v → IsOk r
is_ok_of r v e = rw e refl

module _ {T : Type 0} (logs : List Log) (r : Result T OrderFault) where
  pub match_answer : (f : MatchFault) → r ≡ Err (Match f) → IsMatchFault logs f → (g : MatchFault)
      → (r ≡ Err (Match g)) ↔ IsMatchFault logs g
  match_answer f is h g = (
    λ e. (let s : f ≡ g = cc in subst (IsMatchFault logs) s h),
    λ k. is ∙ ap (λ (x : MatchFault). Err (Match x)) (one_fault logs f g h k),
  )

  pub no_match_fault : Matches logs → ((f : MatchFault) → r ≡ Err (Match f) → ⊥) → (g : MatchFault)
      → (r ≡ Err (Match g)) ↔ IsMatchFault logs g
  no_match_fault matches never g = (λ e. absurd (never g e), λ h. absurd (unmatched logs g h matches))

  pub memory_answer : Matches logs → r ≡ Err OutOfMemory → (g : MatchFault) → (r ≡ Err (Match g)) ↔ IsMatchFault logs g
  memory_answer matches is = no_match_fault matches (λ f e. (let z : ⊥ = cc in z))

  pub circle_answer : r ≡ Err Circle → HasCircle logs → (r ≡ Err Circle) ↔ HasCircle logs
  circle_answer is h = (λ e. h, λ k. is)

  pub no_circle : (v : T) (order : List ℕ) → r ≡ Ok v → IsOrder logs order → (r ≡ Err Circle) ↔ HasCircle logs
  no_circle v order is o = (λ e. (let z : ⊥ = cc in absurd z), λ h. absurd (h.1 order o))

-- the fault of the search for an order is handed on
module _ {S T : Type 0} (r : Result T OrderFault) (f : OrderFault) (is : r ≡ Err f) where
  pub handed_match : (P : MatchFault → Type 0)
      → ((g : MatchFault) → ◌≡◌ {A = Result S OrderFault} (Err f) (Err (Match g)) ↔ P g) → (g : MatchFault)
      → (r ≡ Err (Match g)) ↔ P g
  handed_match P told g = (
    λ e. (let same : f ≡ Match g = cc in (told g).0 (ap Err same)),
    λ h. (let e : ◌≡◌ {A = Result S OrderFault} (Err f) (Err (Match g)) = (told g).1 h in let same : f ≡ Match g = cc in
        is ∙ ap Err same),
  )

  pub handed_circle : (P : Type 0)
      → (◌≢◌ {A = Result S OrderFault} (Err f) (Err OutOfMemory)
      → ◌≡◌ {A = Result S OrderFault} (Err f) (Err Circle) ↔ P) → r ≢ Err OutOfMemory → (r ≡ Err Circle) ↔ P
  handed_circle P told memory =
      let other : ◌≢◌ {A = Result S OrderFault} (Err f) (Err OutOfMemory) =
      λ e. (let same : f ≡ OutOfMemory = cc in memory (is ∙ ap Err same)) in (
        λ e. (let same : f ≡ Circle = cc in (told other).0 (ap Err same)),
        λ h. (let e : ◌≡◌ {A = Result S OrderFault} (Err f) (Err Circle) = (told other).1 h in
            let same : f ≡ Circle = cc in is ∙ ap Err same),
      )

pub is_ordered : (logs : List Log) (p : OrderPrefix) → Matches logs → IsOrderPrefix logs p → IsWhole logs p.places
    → IsOrdered (record { logs = logs; schedule = p.places })
is_ordered logs p matches prefix whole =
    record { logs = prefix.logs_are; matches = matches; order = whole_order logs p matches prefix whole }
