-- Logs match, or have a fault of matching.
use Rattle.std.proofs.Common.{◌≡◌, ℕ, zero, suc, ◌+◌, ◌<◌, ◌≤◌, ◌⊎◌, inl, inr, List, [], ◌∷◌, length, refl, sym, subst}
use Rattle.std.proofs.Common.{arith}
use Rattle.std.proofs.lemmas.Bool.{cases_eq}
use Rattle.ira_event.specs.declared.event.Event.{Event}
use Rattle.ira_event.specs.declared.event.Event.TheVariants.{Draw, Sent, Got, Yield}
use Rattle.ira_event.specs.declared.load.Load.{Load}
use Rattle.ira_event.specs.Log.{Log}
use Rattle.ira_node.proofs.Answers.{loads_decided}
use Rattle.ira_order.specs.declared.match_fault.MatchFault.{MatchFault}
use Rattle.ira_order.specs.declared.match_fault.MatchFault.TheVariants.{NoSending, Differs}
use Rattle.ira_order.specs.Ring.{log_of, next}
use Rattle.ira_order.specs.Matching.{sent, IsPaired, LinkMatches, Matches}
use Rattle.ira_order.specs.MatchFault.{IsLinkFault, IsMatchFault}
use Rattle.ira_order.proofs.Pairing.{PairedSoFar, paired_at_first, paired_over, paired_more, paired_all, missing_at}
use Rattle.ira_order.proofs.Pairing.{other_at}

-- the events send nothing, or there is a first sending
next_sending : (events : List Event) → (sent events ≡ [])
    ⊎ ((n : Load) × (later : List Event) × (sent events ≡ n ∷ sent later))
next_sending [] = inl refl
next_sending (Sent n ∷ events) = inr (n, events, refl)
next_sending (Draw id ∷ events) = next_sending events
next_sending (Yield ∷ events) = next_sending events
next_sending (Got m ∷ events) = next_sending events

paired_or_fault : (i : ℕ) (writer reader ahead left : List Event) (k : ℕ) → PairedSoFar writer reader ahead left k
    → ((h : ℕ) → IsPaired writer reader h) ⊎ ((f : MatchFault) × IsLinkFault i writer reader f)
paired_or_fault i writer reader ahead [] k p = inl (paired_all writer reader ahead [] k p refl)
paired_or_fault i writer reader ahead (Draw id ∷ left) k p =
    paired_or_fault i writer reader ahead left k (paired_over writer reader ahead left (Draw id) k (λ m e. cc) p)
paired_or_fault i writer reader ahead (Yield ∷ left) k p =
    paired_or_fault i writer reader ahead left k (paired_over writer reader ahead left Yield k (λ m e. cc) p)
paired_or_fault i writer reader ahead (Sent n ∷ left) k p =
    paired_or_fault i writer reader ahead left k (paired_over writer reader ahead left (Sent n) k (λ m e. cc) p)
paired_or_fault i writer reader ahead (Got m ∷ left) k p = elim (next_sending ahead) [
  | inl none ↦ inr (NoSending i (k + 1), missing_at i writer reader ahead (Got m ∷ left) left m k p refl none)
  | inr some ↦ elim (loads_decided some.0 m) [
    | inl same ↦ paired_or_fault i writer reader some.1 left (k + 1)
        (paired_more writer reader ahead some.1 (Got m ∷ left) left m some.0 k p refl some.2 same)
    | inr differ ↦ inr (
      Differs i (k + 1),
      other_at i writer reader ahead some.1 (Got m ∷ left) left m some.0 k p refl some.2 differ,
    )
  ]
]

match_or_fault_to : (logs : List Log) (k : ℕ) → k ≤ length logs → ((i : ℕ) → i < k → LinkMatches logs i)
    ⊎ ((f : MatchFault) × IsMatchFault logs f)
match_or_fault_to logs zero l = inl (λ i lt. absurd (omega (arith, lt)))
match_or_fault_to logs (suc k) l = elim (match_or_fault_to logs k (omega arith)) [
  | inr fault ↦ inr fault
  | inl before ↦
      let writer : List Event = log_of logs k in
      let reader : List Event = log_of logs (next (length logs) k) in
      elim (paired_or_fault k writer reader writer reader 0 (paired_at_first writer reader)) [
        | inr f ↦ inr (f.0, (k, omega arith, before, f.1))
        | inl here ↦ inl (λ i lt. elim (cases_eq i k) [
          | inl e ↦ subst (LinkMatches logs) (sym e) here
          | inr ne ↦ before i (omega (arith, lt))
        ])
      ]
]

pub match_or_fault : (logs : List Log) → Matches logs ⊎ ((f : MatchFault) × IsMatchFault logs f)
match_or_fault logs = match_or_fault_to logs (length logs) (omega arith)
