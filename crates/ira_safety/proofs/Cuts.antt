-- At most one node leads at a consistent cut.
use Rattle.std.proofs.Common.{◌≡◌, ◌≢◌, ℕ, zero, suc, ◌+◌, ◌-◌, ◌<◌, ◌≤◌, inl, inr, Some, List, length, refl, sym, ◌∙◌}
use Rattle.std.proofs.Common.{ap, subst, arith, add-one}
use Rattle.std.specs.Prelude.{slice_get}
use Rattle.std.proofs.lemmas.Bool.{cases_lt}
use Rattle.std.proofs.lemmas.Option.{slice_get_cases, slice_get_within}
use Rattle.ira_event.specs.declared.load.Load.TheVariants.{Msg as Message, Reset}
use Rattle.ira_event.specs.declared.event.Event.{Event}
use Rattle.ira_event.specs.declared.event.Event.TheVariants.{Draw, Sent, Got, Yield}
use Rattle.ira_event.specs.Log.{Log}
use Rattle.ira_event.specs.Messages.{receipt}
use Rattle.ira_node.specs.declared.phase.Phase.TheVariants.{Passive, Yielding}
use Rattle.ira_node.specs.declared.node_state.NodeState.{NodeState}
use Rattle.ira_node.specs.NodeState.{IsLeader}
use Rattle.ira_order.specs.Before.{message}
use Rattle.ira_order.specs.Cut.{HoldsAllBefore}
use Rattle.ira_order.specs.Matching.{Matches}
use Rattle.ira_order.specs.Ring.{log_of, next, prev}
use Rattle.ira_order.proofs.Places.{crossing}
use Rattle.ira_order.proofs.Runs.{next_prev, prev_below}
use Rattle.ira_safety.proofs.Course.{IsCourse, kept, first_term, term_kept, term_counted, sent_counted}
use Rattle.ira_safety.proofs.Sendings.{HasSending, has_sending}
use Rattle.ira_safety.proofs.Steps.{resets, resets_in, yielding, term_more, reset_owed, IsStill, stays}
use Rattle.ira_safety.proofs.Terms.{Owing, owing, passive_before, one_leader}

-- an event with which the term rises is the receipt of a reset, and it rises by one
rising : (e : Event) (old new : ℕ) → new ≡ old + resets_in (receipt e) → old < new → (h : ℕ) × (e ≡ Got (Reset h))
    × (new ≡ suc old)
rising (Draw id) old new more up = absurd (omega arith)
rising (Sent l) old new more up = absurd (omega arith)
rising Yield old new more up = absurd (omega arith)
rising (Got (Message m)) old new more up = absurd (omega arith)
rising (Got (Reset h)) old new more up = (h, refl, omega arith)

-- a node that yielded in a term does not lead in it any more
not_over : (term : ℕ) (s : NodeState) → IsStill term Yielding s → IsLeader s.phase → s.term ≡ term → ⊥
not_over term s (inl past) leads at = omega arith
not_over term s (inr h) leads at = rw (h.1) at leads

module _ (logs : List Log) (st : ℕ → ℕ → NodeState)
    (courses : (i : ℕ) → IsCourse (length logs) (log_of logs i) (st i))
    (matches : Matches logs)
    (at : ℕ → ℕ)
    (consistent : HoldsAllBefore logs at)
    (i : ℕ)
    (li : i < length logs)
    (leads : IsLeader (st i (at i)).phase) where
  abbrev now : ℕ
  now = (st i (at i)).term

  -- no node yields in this term within the cut
  abbrev NoneYields : ℕ → Type 0
  NoneYields term =
      (p a : ℕ) → p < length logs → suc a ≤ at p → IsLeader (st p a).phase → (st p (suc a)).phase ≡ Yielding
      → (st p a).term ≡ term → (st p (suc a)).term ≡ term → ⊥

  -- so a reset that is received in the term was received one hop before
  record Earlier (term h j : ℕ) : Type 0 where
    hop : ℕ
    fewer : h ≡ suc hop
    b : ℕ
    held : suc b ≤ at j
    gets : slice_get (log_of logs j) b ≡ Some (Got (Reset hop))
    in_term : (st j b).term ≡ term

  earlier : (term h p b : ℕ) → NoneYields term → p < length logs → suc b ≤ at (next (length logs) p)
      → slice_get (log_of logs (next (length logs) p)) b ≡ Some (Got (Reset h))
      → (st (next (length logs) p) b).term ≡ term → Earlier term h p
  earlier term h p b none lp held gets in_term =
      let n = length logs in
      let j = next (length logs) p in
      let s : HasSending logs p b (Reset h) = has_sending logs p b (Reset h) matches lp gets in
      let held_there : suc s.a ≤ at p = consistent p (suc s.a) j (suc b) (message refl s.pair) held in
      let o : Owing logs st courses matches p s.a (Reset h) = owing logs st courses matches p s.a (Reset h) s.sends in
      let counted = term_counted n (log_of logs j) (st j) (courses j) b
      (omega (arith, slice_get_within (log_of logs j) b (Got (Reset h)) gets)) in
      let balanced = rw (
        o.owes,
        o.number,
      ) at (sent_counted n (log_of logs p) (st p) (courses p) s.a
      (omega (arith, slice_get_within (log_of logs p) s.a (Sent (Reset h)) s.sends))) in
      let owes : (st p (suc o.before)).owed ≡ Some (Reset h) = rw o.number at o.owes in
      let before = ap resets (rw o.number at s.before) in
      elim (reset_owed n (st p o.before) o.event (st p (suc o.before)) h ((courses p).steps o.before o.event o.at)
      owes) [
        | inl y ↦
            let same : (st p (suc o.before)).term ≡ term =
            omega (arith, counted, balanced, before, in_term, ap yielding y.1) in
            absurd (none p o.before lp (omega (arith, held_there, o.number)) y.0 y.1 (sym y.2 ∙ same) same)
        | inr k ↦ record {
          hop = k.0;
          fewer = k.2;
          b = o.before;
          held = omega (arith, held_there, o.number);
          gets = o.at ∙ ap Some k.1;
          in_term = omega (arith, counted, balanced, before, in_term, k.3, k.4);
        }
      ]

  earlier_there : (term h j b : ℕ) → NoneYields term → j < length logs → suc b ≤ at j
      → slice_get (log_of logs j) b ≡ Some (Got (Reset h)) → (st j b).term ≡ term
      → Earlier term h (prev (length logs) j)
  earlier_there term h j b none lj =
      let P : ℕ → Type 0 = λ x. suc b ≤ at x → slice_get (log_of logs x) b ≡ Some (Got (Reset h)) → (st x b).term ≡ term
      → Earlier term h (prev (length logs) j) in
      subst P (next_prev (length logs) j lj)
      (earlier term h (prev (length logs) j) b none (prev_below (length logs) j lj))

  -- and so none is received in it
  no_reset : (term : ℕ) → NoneYields term → (h j b : ℕ) → j < length logs → suc b ≤ at j
      → slice_get (log_of logs j) b ≡ Some (Got (Reset h)) → (st j b).term ≡ term → ⊥
  no_reset term none zero j b lj held gets in_term =
      let r : Earlier term 0 (prev (length logs) j) = earlier_there term 0 j b none lj held gets in_term in
      omega (arith, r.fewer)
  no_reset term none (suc h) j b lj held gets in_term =
      let r : Earlier term (suc h) (prev (length logs) j) = earlier_there term (suc h) j b none lj held gets in_term in
      let same : r.hop ≡ h = omega (arith, r.fewer) in
      no_reset term none h (prev (length logs) j) r.b (prev_below (length logs) j lj) r.held (r.gets
      ∙ ap (λ k. Some (Got (Reset k))) same) r.in_term

  -- and so no node comes past the term
  none_comes : (d : ℕ) → NoneYields (now + d) → (j t : ℕ) → j < length logs → suc t ≤ at j → (st j t).term ≤ now + d
      → now + d < (st j (suc t)).term → ⊥
  none_comes d none j t lj held low high = elim (slice_get_cases (log_of logs j) t).1 [
    | inl more ↦
        let r = rising more.0 (st j t).term (st j (suc t)).term
        (term_more (length logs) (st j t) more.0 (st j (suc t)) ((courses j).steps t more.0 more.2)) (omega arith)
        in
        no_reset (now + d) none r.0 j t lj held (more.2 ∙ ap Some r.1) (omega (arith, r.2))
    | inr end ↦ (let same = (courses j).ends t end.0 in absurd (omega (arith, rw same at high)))
  ]

  none_past : (d : ℕ) → NoneYields (now + d) → (j b : ℕ) → j < length logs → b ≤ at j → (st j b).term ≡ now + suc d → ⊥
  none_past d none j b lj held past =
      let first = first_term (length logs) (log_of logs i) (st i) (courses i) in
      let start = first_term (length logs) (log_of logs j) (st j) (courses j) in
      let rises = term_kept (length logs) (log_of logs i) (st i) (courses i) 0 (at i) (omega arith) in
      let c = crossing (λ x. (st j x).term) b (now + d) (omega arith) (omega arith) in
      none_comes d none j c.0 lj (omega (arith, c.1)) c.2 (rw (← add-one c.0) c.3)

  -- a node that yields within the cut is past this term, or is node i, which leads yet
  none_yields : (d : ℕ) → NoneYields (now + d)
  none_yields zero p a lp held l yields before in_term =
      let one : i ≡ p = one_leader logs st courses matches i (at i) p a li lp leads l (omega arith) in
      let P : ℕ → Type 0 = λ x. suc a ≤ at x → IsStill now Yielding (st x (suc a)) → ⊥ in
      subst P one
      (λ low over. not_over now (st i (at i))
      (kept (length logs) (log_of logs i) (st i) (courses i) (IsStill now Yielding) (λ s e t step h.
      stays (length logs) now Yielding s e t tt step h) (suc a) (at i) low over) leads refl)
      held (inr (omega arith, yields))
  none_yields (suc d) p a lp held l yields before in_term = none_past d (none_yields d) p a lp (omega arith) before

  pub none_later : (j : ℕ) → j < length logs → (st j (at j)).term ≤ (st i (at i)).term
  none_later j lj = elim (cases_lt now (st j (at j)).term) [
    | inr fine ↦ fine
    | inl later ↦
        let d = (st j (at j)).term - now - 1 in
        absurd (none_past d (none_yields d) j (at j) lj (omega arith) (omega arith))
  ]

  -- so each other node is passive yet
  pub others_passive : (j : ℕ) → j < length logs → i ≢ j → (st j (at j)).phase ≡ Passive
  others_passive j lj ne =
      let r = passive_before logs st courses matches i (at i) j li lj ne leads in
      let still : IsStill now Passive (st j (at j)) =
      kept (length logs) (log_of logs j) (st j) (courses j) (IsStill now Passive) (λ s e t step h.
      stays (length logs) now Passive s e t tt step h) r.b (at j) (r.held at consistent (omega arith))
      (inr (r.in_term, r.passive)) in
      elim still [ inl past ↦ absurd (omega (arith, none_later j lj)) | inr h ↦ h.1 ]
