-- Logs have at most one fault of matching, and none where they match.
use Rattle.std.proofs.Common.{◌≡◌, ℕ, ◌<◌, ◌≤◌, ◌⊎◌, ◌↔◌, List, inl, inr, length, sym, ◌∙◌, ap, arith, subst, Some}
use Rattle.std.proofs.Common.{None, Ok, Err, Result}
use Rattle.std.specs.Prelude.{IsOk, slice_get}
use Rattle.ira_event.specs.declared.event.Event.{Event}
use Rattle.ira_event.specs.Log.{Log}
use Rattle.ira_order.specs.declared.match_fault.MatchFault.{MatchFault}
use Rattle.ira_order.specs.declared.match_fault.MatchFault.TheVariants.{NoSending, Differs}
use Rattle.ira_order.specs.Ring.{numbered, log_of, next, events_of}
use Rattle.ira_order.specs.Matching.{sent, IsPaired, LinkMatches, Matches}
use Rattle.ira_order.specs.MatchFault.{HasNoSending, HasOther, IsLinkFault, IsMatchFault}

module _ (writer reader : List Event) where
  missing_unpaired : (k : ℕ) → HasNoSending writer reader k → IsPaired writer reader k → ⊥
  missing_unpaired k h p = (let e : numbered (sent writer) k ≡ Some h.0 = p h.0 h.1 in
      let n : numbered (sent writer) k ≡ None = h.2 in cc)

  other_unpaired : (k : ℕ) → HasOther writer reader k → IsPaired writer reader k → ⊥
  other_unpaired k h p =
      let e : numbered (sent writer) k ≡ Some h.0 = p h.0 h.2 in
      let n : numbered (sent writer) k ≡ Some h.1 = h.3 in
      let same : h.0 ≡ h.1 = cc in
      h.4 same

  missing_or_other : (k : ℕ) → HasNoSending writer reader k → HasOther writer reader k → ⊥
  missing_or_other k h o = (let e : numbered (sent writer) k ≡ Some o.1 = o.3 in
      let n : numbered (sent writer) k ≡ None = h.2 in cc)

  -- the least of two unpaired receipts is both
  one_least : (k l : ℕ) → ((h : ℕ) → h < k → IsPaired writer reader h) → ((h : ℕ) → h < l → IsPaired writer reader h)
      → (IsPaired writer reader k → ⊥) → (IsPaired writer reader l → ⊥) → k ≡ l
  one_least k l before_k before_l not_k not_l = elim (below_or_not k l) [
    | inl low ↦ absurd (not_k (before_l k low))
    | inr high ↦ elim (below_or_not l k) [ inl low ↦ absurd (not_l (before_k l low)) | inr same ↦ omega arith ]
  ]
    where
      below_or_not : (a b : ℕ) → (a < b) ⊎ (b ≤ a)
      below_or_not a b = grind arith

  pub one_link_fault : (i : ℕ) (f g : MatchFault) → IsLinkFault i writer reader f → IsLinkFault i writer reader g
      → f ≡ g
  one_link_fault i (NoSending a k) (NoSending b l) p q =
      let e : k ≡ l = one_least k l p.1 q.1 (missing_unpaired k p.2) (missing_unpaired l q.2) in
      let s : a ≡ b = p.0 ∙ sym q.0 in
      cc
  one_link_fault i (NoSending a k) (Differs b l) p q =
      let e : k ≡ l = one_least k l p.1 q.1 (missing_unpaired k p.2) (other_unpaired l q.2) in
      absurd (missing_or_other l (subst (HasNoSending writer reader) e p.2) q.2)
  one_link_fault i (Differs a k) (NoSending b l) p q =
      let e : k ≡ l = one_least k l p.1 q.1 (other_unpaired k p.2) (missing_unpaired l q.2) in
      absurd (missing_or_other l q.2 (subst (HasOther writer reader) e p.2))
  one_link_fault i (Differs a k) (Differs b l) p q =
      let e : k ≡ l = one_least k l p.1 q.1 (other_unpaired k p.2) (other_unpaired l q.2) in
      let s : a ≡ b = p.0 ∙ sym q.0 in
      cc

  pub link_unmatched : (i : ℕ) (f : MatchFault) → IsLinkFault i writer reader f → ((k : ℕ) → IsPaired writer reader k)
      → ⊥
  link_unmatched i (NoSending a k) p all = missing_unpaired k p.2 (all k)
  link_unmatched i (Differs a k) p all = other_unpaired k p.2 (all k)

pub unmatched : (logs : List Log) (f : MatchFault) → IsMatchFault logs f → Matches logs → ⊥
unmatched logs f h all = link_unmatched (log_of logs h.0) (log_of logs (next (length logs) h.0)) h.0 f h.3 (all h.0 h.1)

pub one_fault : (logs : List Log) (f g : MatchFault) → IsMatchFault logs f → IsMatchFault logs g → f ≡ g
one_fault logs f g p q = elim (below_or_not p.0 q.0) [
  | inl low ↦ absurd (link_unmatched (log_of logs p.0) (log_of logs (next (length logs) p.0)) p.0 f p.3 (q.2 p.0 low))
  | inr high ↦ elim (below_or_not q.0 p.0) [
    | inl low ↦ absurd (link_unmatched (log_of logs q.0) (log_of logs (next (length logs) q.0)) q.0 g q.3 (p.2 q.0 low))
    | inr low ↦
        let e : q.0 ≡ p.0 = omega arith in
        let P : ℕ → Type 0 = λ i. IsLinkFault i (log_of logs i) (log_of logs (next (length logs) i)) g in
        one_link_fault (log_of logs p.0) (log_of logs (next (length logs) p.0)) p.0 f g p.3 (subst P e q.3)
  ]
]
  where
    below_or_not : (a b : ℕ) → (a < b) ⊎ (b ≤ a)
    below_or_not a b = grind arith

-- the answer where the logs match
pub matched_exactly : (logs : List Log) → Matches logs → (f : MatchFault) → (Ok (tt {0}) ≡ Err f) ↔ IsMatchFault logs f
matched_exactly logs matches f = (λ e. (let z : ⊥ = cc in absurd z), λ h. absurd (unmatched logs f h matches))

-- the answer where they don't
pub faulty_exactly : (logs : List Log) (r : Result (Unit {0}) MatchFault) (f : MatchFault) → r ≡ Err f
    → IsMatchFault logs f → (g : MatchFault) → (r ≡ Err g) ↔ IsMatchFault logs g
faulty_exactly logs r f is h g = (
  λ e. (let s : f ≡ g = cc in subst (IsMatchFault logs) s h),
  λ k. is ∙ ap Err (one_fault logs f g h k),
)

pub faulty_unmatched : (logs : List Log) (r : Result (Unit {0}) MatchFault) (f : MatchFault) → r ≡ Err f
    → IsMatchFault logs f → IsOk r ↔ Matches logs
faulty_unmatched logs r f is h = (λ ok. (let z : ⊥ = cc in absurd z), λ matches. absurd (unmatched logs f h matches))

-- the fault of a link whose two logs were looked up
pub link_fault : (logs : List Log) (i j : ℕ) (writer reader : Log) (f : MatchFault) → i < length logs
    → j ≡ next (length logs) i → ((h : ℕ) → h < i → LinkMatches logs h) → slice_get logs i ≡ Some writer
    → slice_get logs j ≡ Some reader → IsLinkFault i writer.events reader.events f → IsMatchFault logs f
link_fault logs i j writer reader f here is before at_i at_j fault =
    let w : log_of logs i ≡ writer.events = ap events_of at_i in
    let r : log_of logs (next (length logs) i) ≡ reader.events = ap (log_of logs) (sym is) ∙ ap events_of at_j in
    (i, here, before, rw (w, r) fault)
