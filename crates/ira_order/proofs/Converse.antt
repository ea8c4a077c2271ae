-- A run of the ring: its places are an order, and its links match.
use Rattle.std.proofs.Common.{◌≡◌, ◌≢◌, ℕ, ◌+◌, ◌<◌, ◌≤◌, inl, inr, List, [], ◌∷◌, ◌++◌, length, refl, sym, ◌∙◌, ap}
use Rattle.std.proofs.Common.{arith, get_or, take, drop, Some, append-nil, append_assoc, length-append, subst}
use Rattle.std.specs.Prelude.{slice_get, Option, None}
use Rattle.std.specs.List.{cons_option, filter_map}
use Rattle.ira_event.specs.declared.event.Event.{Event}
use Rattle.ira_event.specs.declared.load.Load.{Load}
use Rattle.ira_event.specs.Log.{Log}
use Rattle.ira_event.specs.declared.event.Event.TheVariants.{Sent, Got, Draw, Yield}
use Rattle.ira_order.specs.Ring.{log_of, next, prev}
use Rattle.ira_order.specs.Matching.{sent, got, sending, receipt, Matches}
use Rattle.ira_order.specs.Order.{occurrences}
use Rattle.ira_order.specs.Counts.{IsWhole, IsKept}
use Rattle.ira_order.specs.Run.{Configuration, LinkStep, Chains, opening}
use Rattle.ira_order.proofs.Ranks.{next_below, occurrences_same, occurrences_other}
use Rattle.std.proofs.lemmas.Bool.{cases_eq}
use Rattle.ira_order.proofs.Runs.{next_prev, prev_next, Means}
use Rattle.ira_order.proofs.Pairing.{all_begun}
use Rattle.std.proofs.lemmas.List.Elements.{filter_map-append}
use Rattle.std.proofs.lemmas.Option.{slice_get-get_or, get_or_from_slice_get, slice_get_within}
use Rattle.std.proofs.lemmas.List.{take_more, take_all, drop_more, length-drop}

-- what the nodes have done (one list of events for each) and what the links hold: received, then held, is sent
abbrev pub Balanced : ℕ → (ℕ → List Event) → (ℕ → List Load) → Type 0
Balanced n past link = (k : ℕ) → k < n → got (past (next n k)) ++ link k ≡ sent (past k)

module _ (n i : ℕ) (past past' : ℕ → List Event) (old new : ℕ → List Load)
    (two : 2 ≤ n)
    (here : i < n)
    (same : (j : ℕ) → j ≢ i → past' j ≡ past j)
    (balanced : Balanced n past old) where
  -- an event without such a load leaves those loads as they were
  quiet : (h : Event → Option Load) (e : Event) → past' i ≡ past i ++ e ∷ [] → h e ≡ None → (j : ℕ)
      → filter_map h (past' j) ≡ filter_map h (past j)
  quiet h e more none j = elim (cases_eq j i) [
    | inl same_node ↦ rw same_node (ap (filter_map h) more ∙ filter_map-append h (past i) (e ∷ [])
        ∙ ap (λ o. filter_map h (past i) ++ cons_option o []) none ∙ append-nil (filter_map h (past i)))
    | inr ne ↦ ap (filter_map h) (same j ne)
  ]

  pub balanced_step : (e : Event) → past' i ≡ past i ++ e ∷ [] → LinkStep n i e old new → Balanced n past' new
  balanced_step (Sent m) more step k lk =
      let got_next = quiet receipt (Sent m) more refl (next n k) in
      let sent_i : sent (past' i) ≡ sent (past i) ++ m ∷ [] =
      ap sent more ∙ filter_map-append sending (past i) (Sent m ∷ []) in
      elim (cases_eq k i) [
        | inl e ↦ rw (
          got_next,
          e,
          step.0,
          sent_i,
        ) (let b : got (past (next n i)) ++ old i ≡ sent (past i) = balanced i here in
            sym (append_assoc (got (past (next n i))) (old i) (m ∷ [])) ∙ ap (λ (x : List Load). x ++ m ∷ []) b)
        | inr ne ↦ rw (got_next, step.1 k lk ne, same k ne) (balanced k lk)
      ]
  balanced_step (Got m) more step k lk =
      let sent_k = quiet sending (Got m) more refl k in
      let got_i : got (past' i) ≡ got (past i) ++ m ∷ [] =
      ap got more ∙ filter_map-append receipt (past i) (Got m ∷ []) in
      elim (cases_eq (next n k) i) [
        | inl e ↦
            let q : k ≡ prev n i = prev_next n i k here lk e in
            let first : old k ≡ m ∷ new k = rw q step.0 in
            let b : got (past i) ++ old k ≡ sent (past k) = rw e at (balanced k lk) in
            rw (e, sent_k, got_i) (append_assoc (got (past i)) (m ∷ []) (new k)
            ∙ ap (λ (x : List Load). got (past i) ++ x) (sym first) ∙ b)
        | inr ne ↦
            let other : k ≢ prev n i = λ q. ne (ap (next n) q ∙ next_prev n i here) in
            rw (sent_k, step.1 k lk other, same (next n k) ne) (balanced k lk)
      ]
  balanced_step (Draw x) more step k lk =
      rw (quiet receipt (Draw x) more refl (next n k), quiet sending (Draw x) more refl k, step k lk) (balanced k lk)
  balanced_step Yield more step k lk =
      rw (quiet receipt Yield more refl (next n k), quiet sending Yield more refl k, step k lk) (balanced k lk)

-- where received, then held, is sent, the logs match
pub balanced_matches : (logs : List Log) (link : ℕ → List Load) → Balanced (length logs) (log_of logs) link
    → Matches logs
balanced_matches logs link balanced i l =
    all_begun (log_of logs i) (log_of logs (next (length logs) i)) (link i) (balanced i l)

-- and there are no more receipts than sendings
pub balanced_fewer : (n : ℕ) (past : ℕ → List Event) (link : ℕ → List Load) → Balanced n past link → (k : ℕ) → k < n
    → length (got (past (next n k))) ≤ length (sent (past k))
balanced_fewer n past link balanced k l =
    omega (arith, length-append (got (past (next n k))) (link k), ap length (balanced k l))

module _ (logs : List Log) (order : List ℕ) (run : List (ℕ × Event))
    (two : 2 ≤ length logs)
    (means : Means logs order run)
    (whole : IsWhole logs order) where
  -- what node j has done at point t
  abbrev pub past : ℕ → ℕ → List Event
  past t j = take (occurrences (take t order) j) (log_of logs j)

  past_more : (t i : ℕ) (e : Event) → slice_get run t ≡ Some (i, e) → (past (t + 1) i ≡ past t i ++ e ∷ [])
      × ((j : ℕ) → j ≢ i → past (t + 1) j ≡ past t j)
  past_more t i e at =
      let m = means.each t i e at in
      let lt : t < length order = slice_get_within order t i m.0 in
      let at_t : get_or order t 0 ≡ i = get_or_from_slice_get order t i 0 m.0 in
      let more : occurrences (take (t + 1) order) i ≡ occurrences (take t order) i + 1 =
      occurrences_same order t i lt at_t in (
        rw more (take_more (log_of logs i) (occurrences (take t order) i) (Draw 0)
            (slice_get_within (log_of logs i) (occurrences (take t order) i) e m.1)
            ∙ ap (λ (x : Event). take (occurrences (take t order) i) (log_of logs i) ++ x
            ∷ []) (get_or_from_slice_get (log_of logs i) (occurrences (take t order) i) e (Draw 0) m.1)),
        λ j ne. ap (λ (x : ℕ). take x (log_of logs j)) (occurrences_other order t j lt (λ q. ne (sym q ∙ at_t))),
      )

  -- the links are balanced at each point of a run
  walk : (r : List (ℕ × Event)) (t : ℕ) (c : Configuration) → r ≡ drop t run → Balanced (length logs) (past t) c.link
      → Chains (length logs) c r → (u : ℕ) → t ≤ u → u ≤ length run → (link : ℕ → List Load)
      × Balanced (length logs) (past u) link
  walk r t c is balanced chain u l lu = elim (cases_eq t u) [
    | inl e ↦ (c.link, (let P : ℕ → Type 0 = λ x. Balanced (length logs) (past x) c.link in subst P e balanced))
    | inr ne ↦ on r t c is balanced chain u (omega arith) lu
  ]
    where
      on : (r : List (ℕ × Event)) (t : ℕ) (c : Configuration) → r ≡ drop t run → Balanced (length logs) (past t) c.link
          → Chains (length logs) c r → (u : ℕ) → t < u → u ≤ length run → (link : ℕ → List Load)
          × Balanced (length logs) (past u) link
      on [] t c is balanced chain u l lu = absurd (let none : length (drop t run) ≡ 0 = ap length (sym is) in
          omega (arith, length-drop t run))
      on (x ∷ r) t c is balanced chain u l lu =
          let here : t < length run = omega arith in
          let more : drop t run ≡ get_or run t x ∷ drop (t + 1) run = drop_more run t x here in
          let both : x ∷ r ≡ get_or run t x ∷ drop (t + 1) run = is ∙ more in
          let head : x ≡ get_or run t x = cc in
          let tail : r ≡ drop (t + 1) run = cc in
          let at : slice_get run t ≡ Some x = slice_get-get_or run t x here ∙ ap Some (sym head) in
          let p = past_more t x.0 x.1 at in
          let d = chain.0 in
          let next_balanced : Balanced (length logs) (past (t + 1)) d.link =
          balanced_step (length logs) x.0 (past t) (past (t + 1)) c.link d.link two chain.1.place p.1 balanced x.1
          p.0 chain.1.links in
          elim (cases_eq (t + 1) u) [
            | inl e ↦ (
              d.link,
              (let P : ℕ → Type 0 = λ y. Balanced (length logs) (past y) d.link in
                  subst P e next_balanced),
            )
            | inr ne ↦ on r (t + 1) d tail next_balanced chain.2 u (omega arith) lu
          ]

  pub run_balanced : Chains (length logs) (opening logs) run → (u : ℕ) → u ≤ length run → (link : ℕ → List Load)
      × Balanced (length logs) (past u) link
  run_balanced chain u lu = walk run 0 (opening logs) refl (λ k lk. refl) chain u (omega arith) lu

  -- each point of a run has no more receipts than sendings on a link
  pub run_kept : Chains (length logs) (opening logs) run → IsKept logs order
  run_kept chain t lt i l =
      (let b = run_balanced chain t (omega (arith, means.many)) in balanced_fewer (length logs) (past t) b.0 b.1 i l)

  -- and its links match
  pub run_matches : Chains (length logs) (opening logs) run → Matches logs
  run_matches chain i l =
      let b = run_balanced chain (length order) (omega (arith, means.many)) in
      let all : take (length order) order ≡ order = take_all (length order) order (omega arith) in
      let full : (j : ℕ) → j < length logs → past (length order) j ≡ log_of logs j =
      λ j lj. rw (all, whole j lj) (take_all (length (log_of logs j)) (log_of logs j) (omega arith)) in
      let at = b.1 i l in
      all_begun (log_of logs i) (log_of logs (next (length logs) i)) (b.0 i)
      (rw (full i l, full (next (length logs) i) (next_below (length logs) i l)) at at)
