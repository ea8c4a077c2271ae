-- Matched local runs have an order: they go on together, and no ring with an initiator stands still.
use Rattle.std.proofs.Common.{◌≡◌, ℕ, zero, suc, ◌+◌, ◌-◌, ◌<◌, ◌≤◌, inl, inr, true, false, List, [], ◌∷◌}
use Rattle.std.proofs.Common.{Some, None, length, take, refl, sym, ◌∙◌, subst, ap, arith, add-one, length-append}
use Rattle.std.specs.Prelude.{slice_get}
use Rattle.std.specs.List.{filter_map}
use Rattle.std.proofs.lemmas.List.{take_all}
use Rattle.std.proofs.lemmas.Option.{slice_get_cases, slice_get_within}
use Rattle.ira_event.specs.declared.event.Event.{Event}
use Rattle.ira_event.specs.declared.event.Event.TheVariants.{Sent, Got}
use Rattle.ira_event.specs.declared.load.Load.{Load}
use Rattle.ira_event.specs.Log.{Log}
use Rattle.ira_event.specs.Logs.{EachLog}
use Rattle.ira_event.specs.Messages.{sent, got}
use Rattle.ira_node.specs.declared.node_state.NodeState.{NodeState}
use Rattle.ira_node.specs.NodeState.{free, Receives}
use Rattle.ira_node.specs.NodeStep.{NodeStep, sends, draws, passes, gives_in, purges, meets, ties, wins, yields}
use Rattle.ira_node.specs.NodeStep.{restarts, comes_home}
use Rattle.ira_order.specs.Matching.{Matches}
use Rattle.ira_order.specs.Ring.{log_of, next, prev}
use Rattle.ira_order.specs.Run.{Configuration, Chains, AreLocalRuns, IsRunOfLogs, opening, is_initiator}
use Rattle.ira_order.specs.Run.{places_of, event_of}
use Rattle.ira_order.proofs.Acyclic.{before_within}
use Rattle.ira_order.proofs.Ranks.{next_below}
use Rattle.ira_order.proofs.Runs.{next_prev, prev_below, next_up}
use Rattle.ira_order.proofs.RunsOfLogs.{run_is_order}
use Rattle.ira_safety.specs.Reaches.{Reaches}
use Rattle.ira_safety.proofs.Course.{settled}
use Rattle.ira_safety.proofs.Sendings.{HasSending, has_sending}
use Rattle.ira_safety.proofs.Steps.{phase_is}
use Rattle.ira_safety.proofs.Terms.{next_home}
use Rattle.ira_election.specs.AnOrder.{LocalRunsHaveAnOrder, CirclesHaveAFault}
use Rattle.ira_election.specs.StandingStill.{IsStill}
use Rattle.ira_election.proofs.Queues.{owed_is, owes_or_sends, not_some}
use Rattle.ira_election.proofs.Beginning.{all_or_one, initiator_or, no_run, Passes, passive_passes, first_passive, hop}
use Rattle.ira_election.proofs.Going.{IsCutOfRuns, st, course, st_first, IsCome, ends_or_waits, farthest, sent_split}
use Rattle.ira_election.proofs.Still.{no_run_stands_still}

-- ---- what a node does that waits

-- a node that receives owes nothing and waits
got_waits : (n : ℕ) (s : NodeState) (m : Load) (t : NodeState) → NodeStep n s (Got m) t → (s.owed ≡ None)
    × Receives s.phase
got_waits n s m t (sends l runs o ee et) = cc
got_waits n s m t (draws term round id es ee lo hi et) = cc
got_waits n s m t (passes term k es ee h et) = (owed_is s _ es, subst Receives (sym (phase_is s _ es)) tt)
got_waits n s m t (gives_in term round id k es ee g h et) = (owed_is s _ es, subst Receives (sym (phase_is s _ es)) tt)
got_waits n s m t (purges term round id k es ee g et) = (owed_is s _ es, subst Receives (sym (phase_is s _ es)) tt)
got_waits n s m t (meets term round id k es ee g h j et) = (owed_is s _ es, subst Receives (sym (phase_is s _ es)) tt)
got_waits n s m t (ties term round id k es ee g h d j et) = (owed_is s _ es, subst Receives (sym (phase_is s _ es)) tt)
got_waits n s m t (wins term round id k es ee g h d et) = (owed_is s _ es, subst Receives (sym (phase_is s _ es)) tt)
got_waits n s m t (yields l ee low et) = cc
got_waits n s m t (restarts term h es ee below low et) = (owed_is s _ es, subst Receives (sym (phase_is s _ es)) tt)
got_waits n s m t (comes_home term es ee low et) = (owed_is s _ es, subst Receives (sym (phase_is s _ es)) tt)

first_hop : List Load → ℕ
first_hop [] = 0
first_hop (l ∷ ls) = hop l

first_hop_is : (es : List Event) (m : Load) → slice_get es 0 ≡ Some (Got m) → first_hop (got es) ≡ hop m
unfolding first_hop
first_hop_is [] m is = cc
first_hop_is (e ∷ es) m is =
    let same : e ≡ Got m = cc in
    ap (λ (x : Event). first_hop (got (x ∷ es))) same

take_none : (a : ℕ) (es : List Event) → a ≤ length es → take a es ≡ [] → a ≡ 0
take_none zero es l e = refl
take_none (suc a) [] l e = absurd (omega arith)
take_none (suc a) (x ∷ es) l e = (let z : ⊥ = cc in absurd z)

-- ---- runs

chains_of : (n : ℕ) (run : List (ℕ × Event)) (c d : Configuration) → Reaches n c run d → Chains n c run
chains_of n [] c d reaches = tt
chains_of n (x ∷ run) c d reaches = (reaches.0, reaches.1, chains_of n run reaches.0 d reaches.2)

-- numbers that rise once round a ring
no_rise : (n : ℕ) (f : ℕ → ℕ) → 1 ≤ n → ((k : ℕ) → k < n → f (next n k) ≡ f k + 1) → ⊥
no_rise n f one rises =
    omega (arith, climbs (n - 1) (omega arith), rises (n - 1) (omega arith), ap f (next_home n (n - 1) (omega arith)))
  where
    climbs : (k : ℕ) → k < n → f k ≡ f 0 + k
    climbs zero l = omega arith
    climbs (suc k) l =
        let there : next n k ≡ suc k = next_up n k (omega arith) ∙ add-one k in
        omega (arith, climbs k (omega arith), rises k (omega arith), ap f there)

module _ {logs : List Log} {cut : ℕ → ℕ} (r : IsCutOfRuns logs cut) where
  -- what the first event of a node without a start receives, and that it is sent on with its hop raised
  record First (k : ℕ) : Type 0 where
    m : Load
    o : Load
    gets : slice_get (log_of logs k) 0 ≡ Some (Got m)
    more : hop o ≡ hop m + 1
    owes : (a : ℕ) (l : Load) → slice_get (log_of logs k) a ≡ Some (Sent l) → sent (take a (log_of logs k)) ≡ [] → l ≡ o

  module _ (k : ℕ) (lk : k < length logs) (none : is_initiator (slice_get logs k) ≡ false) (m : Load)
      (is : slice_get (log_of logs k) 0 ≡ Some (Got m)) where
    passes_first : Passes (Got m) (st r k 1)
    passes_first = passive_passes (length logs) (st r k 0) (Got m) (st r k 1)
        (st_first r k ∙ first_passive (is_initiator (slice_get logs k)) none)
        ((course r k).steps 0 (Got m) is)

    second : (e : Event) → slice_get (log_of logs k) 1 ≡ Some e → e ≡ Sent passes_first.o
    second e at =
        let cs = course r k in
        elim (owes_or_sends (length logs) (st r k 1) e (st r k 2)
        (settled (length logs) (log_of logs k) (st r k) cs 1) (cs.steps 1 e at)) [
          | inl free ↦ absurd (not_some (st r k 1).owed passes_first.o free.0 passes_first.owes)
          | inr puts ↦
              let both : Some passes_first.o ≡ Some puts.0 = sym passes_first.owes ∙ puts.2 in
              let one : puts.0 ≡ passes_first.o = cc in
              puts.1 ∙ ap Sent one
        ]

    after : (a : ℕ) (l : Load) → slice_get (log_of logs k) a ≡ Some (Sent l) → sent (take a (log_of logs k)) ≡ []
        → l ≡ passes_first.o
    after zero l at empty = (let e : Some (Got m) ≡ Some (Sent l) = sym is ∙ at in cc)
    after (suc zero) l at empty = (let e : Sent l ≡ Sent passes_first.o = second (Sent l) at in cc)
    after (suc (suc a)) l at empty = elim (slice_get_cases (log_of logs k) 1).1 [
      | inr end ↦ absurd (omega (arith, end.0, slice_get_within (log_of logs k) (suc (suc a)) (Sent l) at))
      | inl more ↦
          let there : slice_get (log_of logs k) 1 ≡ Some (Sent passes_first.o) =
          more.2 ∙ ap Some (second more.0 more.2) in
          let split = sent_split (log_of logs k) 1 (suc (suc a)) passes_first.o there (omega arith) in
          absurd (omega (
            arith,
            ap length empty,
            ap length split.1,
            length-append (sent (take 1 (log_of logs k))) (passes_first.o ∷ split.0),
          ))
    ]

    first_of_node : First k
    first_of_node =
        let same : m ≡ passes_first.m = (let e : Got m ≡ Got passes_first.m = passes_first.gets in cc) in
        record {
          m = m;
          o = passes_first.o;
          gets = is;
          more = omega (arith, passes_first.more, ap hop same);
          owes = after;
        }

  module _ (run : List (ℕ × Event)) (c : Configuration) (at : ℕ → ℕ) (come : IsCome r run c at)
      (waits : (k : ℕ) → k < length logs → (m : Load)
      × (slice_get (log_of logs (next (length logs) k)) (at (next (length logs) k)) ≡ Some (Got m)) × (c.link k ≡ [])
      × (at (next (length logs) k) < cut (next (length logs) k)))
    where
      next_event : (j : ℕ) → j < length logs → (m : Load) × (slice_get (log_of logs j) (at j) ≡ Some (Got m))
      next_event j lj =
          let k = prev (length logs) j in
          let w = waits k (prev_below (length logs) j lj) in (
            w.0,
            subst (λ (x : ℕ). slice_get (log_of logs x) (at x) ≡ Some (Got w.0)) (next_prev (length logs) j lj) w.1,
          )

      waits_at : (j : ℕ) → j < length logs → ((c.state j).owed ≡ None) × Receives (c.state j).phase
      waits_at j lj =
          let w = next_event j lj in
          subst (λ (s : NodeState). (s.owed ≡ None) × Receives s.phase) (sym (come.states j lj))
          (got_waits (length logs) (st r j (at j)) w.0 (st r j (suc (at j)))
          ((course r j).steps (at j) (Got w.0) w.1))

      still : IsStill (length logs) c
      still = record {
        owes = λ j lj. (waits_at j lj).0;
        waits = λ j lj. (waits_at j lj).1;
        empty = λ j lj. (waits j lj).2;
      }

      module _ (none : (i : ℕ) → i < length logs → is_initiator (slice_get logs i) ≡ false) where
        at_start : (j : ℕ) → j < length logs → at j ≡ 0
        at_start j lj = take_none (at j) (log_of logs j) (omega (arith, come.within j lj, r.fits j lj)) (sym
            (come.events j lj)
            ∙ ap (filter_map (event_of j)) (no_run (length logs) (λ i. is_initiator
            (slice_get logs i)) run c none come.reaches))

        first_event : (j : ℕ) → j < length logs → (m : Load) × (slice_get (log_of logs j) 0 ≡ Some (Got m))
        first_event j lj =
            let w = next_event j lj in
            (w.0, subst (λ (a : ℕ). slice_get (log_of logs j) a ≡ Some (Got w.0)) (at_start j lj) w.1)

        rises : (k : ℕ) → k < length logs
            → first_hop (got (log_of logs (next (length logs) k))) ≡ first_hop (got (log_of logs k)) + 1
        rises k lk =
            let w = first_event (next (length logs) k) (next_below (length logs) k lk) in
            let v = first_event k lk in
            let f : First k = first_of_node k lk (none k lk) v.0 v.1 in
            let s : HasSending logs k 0 w.0 = has_sending logs k 0 w.0 r.matches lk w.1 in
            let is : w.0 ≡ f.o = f.owes s.a w.0 s.sends (sym s.before) in
            omega (
              arith,
              first_hop_is (log_of logs (next (length logs) k)) w.0 w.1,
              first_hop_is (log_of logs k) f.m f.gets,
              ap hop is,
              f.more,
            )

      all_wait : ⊥
      all_wait = elim (all_or_one (λ i. is_initiator (slice_get logs i) ≡ false)
          (λ i. is_initiator (slice_get logs i) ≡ true) (length logs) (λ i li.
          initiator_or (is_initiator (slice_get logs i)))) [
            | inr k ↦ no_run_stands_still (length logs) (λ i. is_initiator
                (slice_get logs i)) run c k.0 r.two come.reaches
                k.1 k.2 still
            | inl none ↦ no_rise (length logs) (λ k. first_hop (got (log_of logs k))) (omega
                (arith, r.two)) (rises none)
          ]

  -- a run comes to the cut
  pub comes_to : (run : List (ℕ × Event)) × (c : Configuration) × (at : ℕ → ℕ)
      × IsCome r run c at × ((j : ℕ) → j < length logs → at j ≡ cut j)
  comes_to =
      let f = farthest r in
      let run = f.0 in
      let c = f.1 in
      let at = f.2 in
      let come : IsCome r run c at = f.3.come in
      elim (ends_or_waits r run c at come f.3.stuck) [
        | inr waits ↦ absurd (all_wait run c at come waits)
        | inl ends ↦ (run, c, at, come, ends)
      ]

-- ---- the whole logs

-- all events of logs are a consistent cut
pub whole_logs : (logs : List Log) → 2 ≤ length logs → EachLog logs (λ _ log. log.nodes ≡ length logs) → Matches logs
    → AreLocalRuns logs → IsCutOfRuns logs (λ k. length (log_of logs k))
whole_logs logs two sizes matches local = record {
  two = two;
  sizes = sizes;
  matches = matches;
  local = local;
  fits = λ j lj. omega arith;
  held = λ i a j b before low. (before_within logs i a j b before).1;
}

pub local_runs_have_an_order : LocalRunsHaveAnOrder
local_runs_have_an_order logs are matches local =
    let c = comes_to (whole_logs logs are.ring.0 are.sizes matches local) in
    let whole : IsRunOfLogs logs c.0 = λ i li. c.3.events i li
    ∙ take_all (c.2 i) (log_of logs i) (omega (arith, c.4 i li)) in
    let is = run_is_order logs c.0 are (chains_of (length logs) c.0 (opening logs) c.1 c.3.reaches) whole in
    (matches, places_of c.0, is.2)

pub circles_have_a_fault : CirclesHaveAFault
circles_have_a_fault logs are circle local =
    (let o = local_runs_have_an_order logs are circle.0 local in circle.1 o.1 o.2)
