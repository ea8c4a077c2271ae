-- Matched local runs go on together to a consistent cut, until each is at it, or all are still.
use Rattle.std.proofs.Common.{◌≡◌, ◌≢◌, ℕ, zero, suc, ◌+◌, ◌-◌, ◌<◌, ◌≤◌, ◌⊎◌, ◌==◌, cond, inl, inr, List, [], ◌∷◌}
use Rattle.std.proofs.Common.{◌++◌, Option}
use Rattle.std.proofs.Common.{Some, None, length, take, refl, sym, ◌∙◌, subst, ap, arith, add-one, append-nil}
use Rattle.std.proofs.Common.{length-append}
use Rattle.std.specs.Prelude.{slice_get}
use Rattle.std.specs.List.{cons_option, filter_map}
use Rattle.std.proofs.lemmas.Bool.{cases_eq, cases_lt, eq-eqb, ne_eqb}
use Rattle.std.proofs.lemmas.List.{take_more}
use Rattle.std.proofs.lemmas.List.Elements.{filter_map-append}
use Rattle.std.proofs.lemmas.Option.{slice_get_cases, slice_get_within, get_or_from_slice_get}
use Rattle.ira_event.specs.declared.event.Event.{Event}
use Rattle.ira_event.specs.declared.event.Event.TheVariants.{Draw, Sent, Got, Yield}
use Rattle.ira_event.specs.declared.load.Load.{Load}
use Rattle.ira_event.specs.Log.{Log}
use Rattle.ira_event.specs.Logs.{EachLog}
use Rattle.ira_event.specs.Messages.{sending, sent, got}
use Rattle.ira_node.specs.declared.node_state.NodeState.{NodeState}
use Rattle.ira_node.specs.NodeState.{first_state}
use Rattle.ira_node.specs.NodeStep.{NodeStep}
use Rattle.ira_replay.specs.LocalRun.{IsLocalRun}
use Rattle.ira_order.specs.Before.{message}
use Rattle.ira_order.specs.Cut.{HoldsAllBefore}
use Rattle.ira_order.specs.Matching.{Matches}
use Rattle.ira_order.specs.Ring.{log_of, next, prev}
use Rattle.ira_order.specs.Run.{Configuration, RingStep, LinkStep, AreLocalRuns, opening, is_initiator, event_of}
use Rattle.ira_order.proofs.Converse.{Balanced, balanced_step}
use Rattle.ira_order.proofs.Ranks.{next_below, rank_mono}
use Rattle.ira_order.proofs.Runs.{next_prev, prev_next, prev_below}
use Rattle.ira_order.proofs.RunsOfLogs.{event_yes, event_no}
use Rattle.ira_safety.specs.Reaches.{Reaches}
use Rattle.ira_safety.proofs.Course.{IsCourse, log_state, log_course, log_reached}
use Rattle.ira_safety.proofs.Sendings.{HasSending, has_sending}
use Rattle.ira_election.proofs.Beginning.{all_or_one}

-- ---- functions changed in one place

abbrev pub more_of : (ℕ → ℕ) → ℕ → ℕ → ℕ
more_of at i j = cond (i == j) (at j + 1) (at j)

pub more_yes : (at : ℕ → ℕ) (i : ℕ) → more_of at i i ≡ at i + 1
more_yes at i = rw (eq-eqb i i refl) refl

pub more_no : (at : ℕ → ℕ) (i j : ℕ) → j ≢ i → more_of at i j ≡ at j
more_no at i j ne = rw (ne_eqb i j (λ e. ne (sym e))) refl

abbrev pub put_at : ℕ → List Load → (ℕ → List Load) → ℕ → List Load
put_at i ls old j = cond (i == j) ls (old j)

pub put_yes : (i : ℕ) (ls : List Load) (old : ℕ → List Load) → put_at i ls old i ≡ ls
put_yes i ls old = rw (eq-eqb i i refl) refl

pub put_no : (i : ℕ) (ls : List Load) (old : ℕ → List Load) (j : ℕ) → j ≢ i → put_at i ls old j ≡ old j
put_no i ls old j ne = rw (ne_eqb i j (λ e. ne (sym e))) refl

-- the sum below k
total : ℕ → (ℕ → ℕ) → ℕ
total zero f = 0
total (suc k) f = f k + total k f

total_most : (k : ℕ) (f g : ℕ → ℕ) → ((j : ℕ) → j < k → f j ≤ g j) → total k f ≤ total k g
unfolding total
total_most zero f g h = omega arith
total_most (suc k) f g h = omega (arith, h k (omega arith), total_most k f g (λ j lj. h j (omega arith)))

total_more : (k i : ℕ) (at : ℕ → ℕ) → i < k → total k (more_of at i) ≡ suc (total k at)
unfolding total
total_more zero i at li = absurd (omega arith)
total_more (suc k) i at li = elim (cases_eq k i) [
  | inl e ↦
      let here : more_of at i k ≡ at k + 1 = subst (λ (x : ℕ). more_of at x k ≡ at k + 1) e (more_yes at k) in
      omega (
        arith,
        here,
        total_most k (more_of at i) at (λ j lj. omega (arith, more_no at i j (λ q. omega arith))),
        total_most k at (more_of at i) (λ j lj. omega (arith, more_no at i j (λ q. omega arith))),
      )
  | inr ne ↦ omega (arith, more_no at i k ne, total_more k i at (omega arith))
]

-- ---- lists of events

same_head : (xs : List Load) (l m : Load) (ls ms : List Load) → xs ++ l ∷ ls ≡ xs ++ m ∷ ms → l ≡ m
same_head [] l m ls ms e = cc
same_head (x ∷ xs) l m ls ms e = (let rest : xs ++ l ∷ ls ≡ xs ++ m ∷ ms = cc in same_head xs l m ls ms rest)

-- what was sent before a sending, it, and what was sent after it
pub sent_split : (es : List Event) (a b : ℕ) (m : Load) → slice_get es a ≡ Some (Sent m) → a < b → (rest : List Load)
    × (sent (take b es) ≡ sent (take a es) ++ m ∷ rest)
sent_split [] a b m at l = cc
sent_split (e ∷ es) a zero m at l = absurd (omega arith)
sent_split (e ∷ es) zero (suc b) m at l =
    let is : e ≡ Sent m = cc in
    (sent (take b es), ap (λ (x : Event). cons_option (sending x) (sent (take b es))) is)
sent_split (e ∷ es) (suc a) (suc b) m at l =
    let s = sent_split es a b m at (omega arith) in
    (s.0, ap (cons_option (sending e)) s.1 ∙ front (sending e) (sent (take a es)) (m ∷ s.0))
  where
    front : (o : Option Load) (xs ys : List Load) → cons_option o (xs ++ ys) ≡ cons_option o xs ++ ys
    front None xs ys = refl
    front (Some x) xs ys = refl

-- ---- runs

pub reaches_more : (n : ℕ) (run : List (ℕ × Event)) (b c d : Configuration) (i : ℕ) (e : Event) → Reaches n b run c
    → RingStep n i e c d → Reaches n b (run ++ (i, e) ∷ []) d
reaches_more n [] b c d i e reaches step = (d, subst (λ (x : Configuration). RingStep n i e x d) reaches step, refl)
reaches_more n (x ∷ run) b c d i e reaches step =
    (reaches.0, reaches.1, reaches_more n run reaches.0 c d i e reaches.2 step)

-- what goes over from each node to the one before it goes over to all
around_back : (n : ℕ) (P : ℕ → Type 0) → ((j : ℕ) → j < n → P j → P (prev n j)) → (i : ℕ) → i < n → P i → (j : ℕ)
    → j < n → P j
around_back n P back i li here j lj =
    let home : P 0 = down i 0 (omega arith) (subst P (omega arith) here) in
    let last : P (n - 1) = back 0 (omega arith) home in
    down (n - 1 - j) j (omega arith) (subst P (omega arith) last)
  where
    down : (d j : ℕ) → j + d < n → P (j + d) → P j
    down zero j l h = subst P (omega arith) h
    down (suc d) j l h =
        let P' : ℕ → Type 0 = P in
        let up : P' (suc (j + d)) = subst P (omega arith) h in
        down d j (omega arith) (back (suc (j + d)) (omega arith) up)

state_first : (o : Option Log) (local : (log : Log) → o ≡ Some log → IsLocalRun log)
    → log_state o local 0 ≡ first_state (is_initiator o)
state_first None local = refl
state_first (Some log) local = sym (log_reached (Some log) local log 0 (first_state log.initiator) refl refl)

-- logs that match, and all of whose events have steps, up to a consistent cut
pub record IsCutOfRuns (logs : List Log) (cut : ℕ → ℕ) : Type 0 where
  pub two : 2 ≤ length logs
  pub sizes : EachLog logs (λ _ log. log.nodes ≡ length logs)
  pub matches : Matches logs
  pub local : AreLocalRuns logs
  pub fits : (j : ℕ) → j < length logs → cut j ≤ length (log_of logs j)
  pub held : HoldsAllBefore logs cut

module _ {logs : List Log} {cut : ℕ → ℕ} (r : IsCutOfRuns logs cut) where
  abbrev pub st : ℕ → ℕ → NodeState
  st i a = log_state (slice_get logs i) (r.local i) a

  pub course : (i : ℕ) → IsCourse (length logs) (log_of logs i) (st i)
  course i = log_course (slice_get logs i) (r.local i) (length logs) (r.sizes i)

  pub st_first : (i : ℕ) → st i 0 ≡ first_state (is_initiator (slice_get logs i))
  st_first i = state_first (slice_get logs i) (r.local i)

  -- the run has come to the configuration, by the first (at j) events of each node j
  pub record IsCome (run : List (ℕ × Event)) (c : Configuration) (at : ℕ → ℕ) : Type 0 where
    pub reaches : Reaches (length logs) (opening logs) run c
    pub within : (j : ℕ) → j < length logs → at j ≤ cut j
    pub states : (j : ℕ) → j < length logs → c.state j ≡ st j (at j)
    pub links : Balanced (length logs) (λ j. take (at j) (log_of logs j)) c.link
    pub events : (j : ℕ) → j < length logs → filter_map (event_of j) run ≡ take (at j) (log_of logs j)

  come_none : IsCome [] (opening logs) (λ j. 0)
  come_none = record {
    reaches = refl;
    within = λ j lj. omega arith;
    states = λ j lj. sym (st_first j);
    links = λ k lk. refl;
    events = λ j lj. refl;
  }

  module _ (run : List (ℕ × Event)) (c : Configuration) (at : ℕ → ℕ) (come : IsCome run c at) where
    taken_more : (i : ℕ) (e : Event) → slice_get (log_of logs i) (at i) ≡ Some e
        → take (more_of at i i) (log_of logs i) ≡ take (at i) (log_of logs i) ++ e ∷ []
    taken_more i e is = ap (λ (x : ℕ). take x (log_of logs i)) (more_yes at i)
        ∙ take_more (log_of logs i) (at i) e (slice_get_within (log_of logs i) (at i) e is)
        ∙ ap (λ (x : Event). take (at i) (log_of logs i) ++ x ∷ []) (get_or_from_slice_get (log_of logs i)
        (at i) e e is)

    come_more : (i : ℕ) (e : Event) (new : ℕ → List Load) → i < length logs → at i < cut i
        → slice_get (log_of logs i) (at i) ≡ Some e → LinkStep (length logs) i e c.link new
        → IsCome (run ++ (i, e) ∷ []) (record { state = λ j. st j (more_of at i j); link = new }) (more_of at i)
    come_more i e new li low is step =
        let d : Configuration = record { state = λ j. st j (more_of at i j); link = new } in
        let node : NodeStep (length logs) (st i (at i)) e (st i (suc (at i))) = (course i).steps (at i) e is in
        let there : suc (at i) ≡ more_of at i i = sym (more_yes at i ∙ add-one (at i)) in
        record {
          reaches = reaches_more (length logs) run (opening logs) c d i e come.reaches (record {
            place = li;
            node = subst (λ (s : NodeState). NodeStep (length logs) s e (st i (more_of at i i)))
                (sym (come.states i li))
                (subst (λ (a : ℕ). NodeStep (length logs) (st i (at i)) e (st i a)) there node);
            others = λ j lj ne. ap (st j) (more_no at i j ne) ∙ sym (come.states j lj);
            links = step;
          });
          within = λ j lj. elim (cases_eq j i) [
            | inl same ↦ subst (λ (x : ℕ). more_of at i x ≤ cut x) (sym same) (omega (arith, more_yes at i, low))
            | inr ne ↦ omega (arith, more_no at i j ne, come.within j lj)
          ];
          states = λ j lj. refl;
          links = balanced_step (length logs) i (λ j. take (at j) (log_of logs j))
              (λ j. take (more_of at i j) (log_of logs j)) c.link new r.two li
              (λ j ne. ap (λ (x : ℕ). take x (log_of logs j)) (more_no at i j ne)) come.links e
              (taken_more i e is) step;
          events = λ j lj. filter_map-append (event_of j) run ((i, e) ∷ []) ∙ elim (cases_eq j i) [
            | inl same ↦ subst (λ (x : ℕ). filter_map (event_of x) run ++ cons_option (event_of x (i, e)) []
                ≡ take (more_of at i x) (log_of logs x)) (sym same)
                (ap (λ o. filter_map (event_of i) run ++ cons_option o []) (event_yes i i e refl)
                ∙ ap (λ (es : List Event). es ++ e ∷ []) (come.events i li) ∙ sym (taken_more i e is))
            | inr ne ↦ ap (λ o. filter_map (event_of j) run ++ cons_option o []) (event_no i j e (λ q. ne (sym q)))
                ∙ append-nil (filter_map (event_of j) run) ∙ come.events j lj
                ∙ ap (λ (x : ℕ). take x (log_of logs j)) (sym (more_no at i j ne))
          ];
        }

    -- ---- the next event of the node after node k

    abbrev reader : ℕ → List Event
    reader k = log_of logs (next (length logs) k)

    -- it waits for a load, and none is on its way
    abbrev Waits : ℕ → Type 0
    Waits k = (m : Load) × (slice_get (reader k) (at (next (length logs) k)) ≡ Some (Got m)) × (c.link k ≡ [])
        × (at (next (length logs) k) < cut (next (length logs) k))

    abbrev IsStuck : ℕ → Type 0
    IsStuck k = (cut (next (length logs) k) ≤ at (next (length logs) k)) ⊎ Waits k

    abbrev Goes : ℕ → Type 0
    Goes k = (e : Event) × (slice_get (reader k) (at (next (length logs) k)) ≡ Some e) × (new : ℕ → List Load)
        × LinkStep (length logs) (next (length logs) k) e c.link new × (at (next (length logs) k) < cut (next
        (length logs) k))

    first_load : (k : ℕ) (m l : Load) (ls : List Load) → k < length logs
        → slice_get (reader k) (at (next (length logs) k)) ≡ Some (Got m) → c.link k ≡ l ∷ ls → l ≡ m
    first_load k m l ls lk is link =
        let s : HasSending logs k (at (next (length logs) k)) m =
        has_sending logs k (at (next (length logs) k)) m r.matches lk is in
        let whole : got (take (at (next (length logs) k)) (reader k)) ++ l ∷ ls ≡ sent (take (at k) (log_of logs k)) =
        ap (λ (x : List Load). got (take (at (next (length logs) k)) (reader k)) ++ x) (sym link) ∙ come.links k lk in
        let before : sent (take s.a (log_of logs k)) ++ l ∷ ls ≡ sent (take (at k) (log_of logs k)) =
        ap (λ (x : List Load). x ++ l ∷ ls) (sym s.before) ∙ whole in
        elim (cases_lt s.a (at k)) [
          | inl low ↦
              let split = sent_split (log_of logs k) s.a (at k) m s.sends low in
              same_head (sent (take s.a (log_of logs k))) l m ls split.0 (before ∙ split.1)
          | inr past ↦ absurd (omega (
            arith,
            ap length before,
            length-append (sent (take s.a (log_of logs k))) (l ∷ ls),
            rank_mono sending (log_of logs k) (at k) s.a past,
          ))
        ]

    -- where it waits so, node k isn't at its end
    waits_back : (k : ℕ) → k < length logs → Waits k → at k < cut k
    waits_back k lk w =
        let s : HasSending logs k (at (next (length logs) k)) w.0 =
        has_sending logs k (at (next (length logs) k)) w.0 r.matches lk w.1 in
        let all : got (take (at (next (length logs) k)) (reader k)) ≡ sent (take (at k) (log_of logs k)) =
        sym (append-nil (got (take (at (next (length logs) k)) (reader k))))
        ∙ ap (λ (x : List Load). got (take (at (next (length logs) k)) (reader k)) ++ x) (sym w.2)
        ∙ come.links k lk in
        elim (cases_lt s.a (at k)) [
          | inr past ↦
              let within : suc s.a ≤ cut k = r.held k (suc s.a) (next (length logs) k) (suc (at (next (length logs) k)))
              (message refl s.pair) (omega (arith, w.3)) in
              omega arith
          | inl low ↦
              let split = sent_split (log_of logs k) s.a (at k) w.0 s.sends low in
              absurd (omega (
                arith,
                ap length split.1,
                ap length all,
                ap length s.before,
                length-append (sent (take s.a (log_of logs k))) (w.0 ∷ split.0),
              ))
        ]

    goes_or_waits : (k : ℕ) → k < length logs → at (next (length logs) k) < cut (next (length logs) k) → (e : Event)
        → slice_get (reader k) (at (next (length logs) k)) ≡ Some e → IsStuck k ⊎ Goes k
    goes_or_waits k lk low (Draw id) is = inr (Draw id, is, c.link, (λ j lj. refl), low)
    goes_or_waits k lk low Yield is = inr (Yield, is, c.link, (λ j lj. refl), low)
    goes_or_waits k lk low (Sent m) is =
        let i = next (length logs) k in
        inr (
          Sent m,
          is,
          put_at i (c.link i ++ m ∷ []) c.link,
          (put_yes i (c.link i ++ m ∷ []) c.link, λ j lj ne. put_no i (c.link i ++ m ∷ []) c.link j ne),
          low,
        )
    goes_or_waits k lk low (Got m) is = by_link (c.link k) refl
      where
        back : prev (length logs) (next (length logs) k) ≡ k
        back = sym (prev_next (length logs) (next (length logs) k) k (next_below (length logs) k lk) lk refl)

        by_link : (ls : List Load) → c.link k ≡ ls → IsStuck k ⊎ Goes k
        by_link [] link = inl (inr (m, is, link, low))
        by_link (l ∷ ls) link = inr (
          Got m,
          is,
          put_at k ls c.link,
          (
            subst (λ (x : ℕ). c.link x ≡ m ∷ put_at k ls c.link x) (sym back)
                (link ∙ ap (λ (x : Load). x ∷ ls) (first_load k m l ls lk is link)
                ∙ ap (λ (x : List Load). m ∷ x) (sym (put_yes k ls c.link))),
            λ j lj ne. put_no k ls c.link j (λ e. ne (e ∙ sym back)),
          ),
          low,
        )

    stuck_or_goes : (k : ℕ) → k < length logs → IsStuck k ⊎ Goes k
    stuck_or_goes k lk = elim (cases_lt (at (next (length logs) k)) (cut (next (length logs) k))) [
      | inr end ↦ inl (inl end)
      | inl low ↦ elim (slice_get_cases (reader k) (at (next (length logs) k))).1 [
        | inl more ↦ goes_or_waits k lk low more.0 more.2
        | inr end ↦ absurd (omega (arith, end.0, r.fits (next (length logs) k) (next_below (length logs) k lk)))
      ]
    ]

    -- all are at the cut, or all wait
    pub ends_or_waits : ((k : ℕ) → k < length logs → IsStuck k)
        → ((j : ℕ) → j < length logs → at j ≡ cut j) ⊎ ((k : ℕ) → k < length logs → Waits k)
    ends_or_waits stuck =
        elim (all_or_one (λ j. cut j ≤ at j) (λ j. at j < cut j) (length logs) (λ j lj.
        elim (cases_lt (at j) (cut j)) [ inl low ↦ inr low | inr end ↦ inl end ])) [
          | inl whole ↦ inl (λ j lj. omega (arith, whole j lj, come.within j lj))
          | inr short ↦
              let P : ℕ → Type 0 = λ j. at j < cut j in
              let waits : (k : ℕ) → k < length logs → P (next (length logs) k) → Waits k = λ k lk low.
              elim (stuck k lk) [ inl end ↦ absurd (omega arith) | inr w ↦ w ] in
              let back : (j : ℕ) → j < length logs → P j → P (prev (length logs) j) = λ j lj low.
              (let k = prev (length logs) j in let lk = prev_below (length logs) j lj in
              waits_back k lk (waits k lk (subst P (sym (next_prev (length logs) j lj)) low))) in
              inr (λ k lk. waits k lk (around_back (length logs) P back short.0 short.1 short.2 (next (length logs) k)
              (next_below (length logs) k lk)))
        ]

  -- where runs come to that can't go on
  pub record IsFar (run : List (ℕ × Event)) (c : Configuration) (at : ℕ → ℕ) : Type 0 where
    pub come : IsCome run c at
    pub stuck : (k : ℕ) → k < length logs → IsStuck run c at come k

  go_on : (room : ℕ) (run : List (ℕ × Event)) (c : Configuration) (at : ℕ → ℕ) → IsCome run c at
      → total (length logs) cut < room + total (length logs) at
      → (run' : List (ℕ × Event)) × (c' : Configuration) × (at' : ℕ → ℕ) × IsFar run' c' at'
  go_on zero run c at come less =
      absurd (omega (arith, total_most (length logs) at cut come.within))
  go_on (suc room) run c at come less =
      elim (all_or_one (IsStuck run c at come) (Goes run c at come) (length logs) (stuck_or_goes run c at come)) [
        | inl stuck ↦ (run, c, at, record { come = come; stuck = stuck })
        | inr can ↦
            let i = next (length logs) can.0 in
            let li = next_below (length logs) can.0 can.1 in
            go_on room _ _ (more_of at i)
            (come_more run c at come i can.2.0 can.2.2 li can.2.4 can.2.1 can.2.3)
            (omega (arith, total_more (length logs) i at li))
      ]

  pub farthest : (run : List (ℕ × Event)) × (c : Configuration) × (at : ℕ → ℕ) × IsFar run c at
  farthest = go_on (suc (total (length logs) cut)) [] (opening logs) (λ j. 0) come_none
      (omega arith)
