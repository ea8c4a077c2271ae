-- Consistent cuts of logs: a run comes to each, so none stands still, where a node leads all else is at rest, and
-- loads have
-- steps, since logs are too short for a limit.
use Rattle.std.proofs.Common.{◌≡◌, ◌≢◌, ℕ, zero, suc, ◌+◌, ◌<◌, ◌≤◌, inl, inr, Bool, true, false, List, [], ◌∷◌, ◌++◌}
use Rattle.std.proofs.Common.{Some, None, length, take, sym, ◌∙◌, subst, ap, arith, append-nil, length-append}
use Rattle.std.specs.Prelude.{slice_get, slice_index}
use Rattle.std.proofs.lemmas.List.{nil_from_length, append_cancel_left}
use Rattle.std.proofs.lemmas.Option.{slice_get_within}
use Rattle.ira_event.specs.Limits.{MAX_RECORDS, MAX_NODES}
use Rattle.ira_event.specs.declared.event.Event.{Event}
use Rattle.ira_event.specs.declared.event.Event.TheVariants.{Got}
use Rattle.ira_event.specs.declared.load.Load.{Load}
use Rattle.ira_event.specs.declared.load.Load.TheVariants.{Msg as Message, Reset}
use Rattle.ira_event.specs.Log.{Log}
use Rattle.ira_event.specs.Logs.{AreLogs}
use Rattle.ira_event.specs.Messages.{sent, got}
use Rattle.ira_node.specs.declared.node_state.NodeState.{NodeState}
use Rattle.ira_node.specs.declared.phase.Phase.{Phase}
use Rattle.ira_node.specs.declared.phase.Phase.TheVariants.{Choosing, Active, Passive, Leader, Yielding}
use Rattle.ira_node.specs.NodeState.{Receives, IsLeader, first_state}
use Rattle.ira_node.specs.NodeStep.{NodeStep, HasStep, sends, draws, passes, gives_in, purges, meets, ties, wins}
use Rattle.ira_node.specs.NodeStep.{yields, restarts, comes_home}
use Rattle.ira_replay.specs.LocalRun.{LeadsTo}
use Rattle.ira_order.specs.Cut.{IsConsistentCut}
use Rattle.ira_order.specs.Matching.{Matches}
use Rattle.ira_order.specs.Ring.{log_of, next, prev}
use Rattle.ira_order.specs.Run.{Configuration, AreLocalRuns, is_initiator}
use Rattle.ira_order.proofs.Ranks.{next_below}
use Rattle.ira_order.proofs.Runs.{next_prev, prev_below}
use Rattle.ira_safety.specs.Reaches.{Reaches, beginning}
use Rattle.ira_safety.proofs.Course.{log_reached}
use Rattle.ira_election.specs.Ending.{IsOver, ElectionsEndAtCuts}
use Rattle.ira_election.specs.GoingOn.{IsPastLimits, LoadsAtCutsHaveSteps}
use Rattle.ira_election.specs.StandingStill.{NoCutStandsStill}
use Rattle.ira_election.proofs.Ending.{leaders_end_elections}
use Rattle.ira_election.proofs.Loads.{loads_have_steps}
use Rattle.ira_election.proofs.Still.{no_run_stands_still}
use Rattle.ira_election.proofs.Going.{IsCutOfRuns, st}
use Rattle.ira_election.proofs.AnOrder.{comes_to}

-- ---- rounds and terms are no more than events

round_of : Phase → ℕ
round_of (Choosing r) = r
round_of (Active r d) = r
round_of Passive = 0
round_of (Leader r d) = 0
round_of Yielding = 0

step_bound : (n : ℕ) (s : NodeState) (e : Event) (t : NodeState) → NodeStep n s e t → (t.term ≤ s.term + 1)
    × (round_of t.phase ≤ round_of s.phase + 1)
unfolding round_of
step_bound n s e t (sends l runs o ee et) = rw et (omega arith, omega arith)
step_bound n s e t (draws term round id es ee lo hi et) = rw (es, et) (omega arith, omega arith)
step_bound n s e t (passes term m es ee k et) = rw (es, et) (omega arith, omega arith)
step_bound n s e t (gives_in term round id m es ee g k et) = rw (es, et) (omega arith, omega arith)
step_bound n s e t (purges term round id m es ee g et) = rw et (omega arith, omega arith)
step_bound n s e t (meets term round id m es ee g k j et) = rw (es, et) (omega arith, omega arith)
step_bound n s e t (ties term round id m es ee g k d j et) = rw (es, et) (omega arith, omega arith)
step_bound n s e t (wins term round id m es ee g k d et) = rw (es, et) (omega arith, omega arith)
step_bound n s e t (yields l ee low et) = rw et (omega arith, omega arith)
step_bound n s e t (restarts term k es ee below low et) = rw (es, et) (omega arith, omega arith)
step_bound n s e t (comes_home term es ee low et) = rw (es, et) (omega arith, omega arith)

leads_bound : (n : ℕ) (s : NodeState) (es : List Event) (t : NodeState) → LeadsTo n s es t
    → (t.term ≤ s.term + length es) × (round_of t.phase ≤ round_of s.phase + length es)
leads_bound n s [] t h = rw h (omega arith, omega arith)
leads_bound n s (e ∷ es) t h =
    let a = step_bound n s e h.0 h.1 in
    let b = leads_bound n h.0 es t h.2 in
    (omega (arith, a.0, b.0), omega (arith, a.1, b.1))

first_bound : (b : Bool) → ((first_state b).term ≤ 1) × (round_of (first_state b).phase ≤ 1)
unfolding round_of
first_bound true = (omega arith, omega arith)
first_bound false = (omega arith, omega arith)

few_taken : (a : ℕ) (es : List Event) → length (take a es) ≤ length es
few_taken zero es = omega arith
few_taken (suc a) [] = omega arith
few_taken (suc a) (e ∷ es) = omega (arith, few_taken a es)

-- a state after no more events than a log has is past no limit, in a ring of no more nodes than a ring has
no_limit : (n : ℕ) (b : Bool) (es : List Event) (s : NodeState) (l : Load) → n ≤ MAX_NODES → length es ≤ MAX_RECORDS
    → LeadsTo n (first_state b) es s → IsPastLimits n s l → ⊥
unfolding round_of
no_limit n b es s (Message m) small few h (inl past) = omega (arith, past.0, past.1)
no_limit n b es s (Message m) small few h (inr past) =
    omega (arith, past.0, ap round_of past.1, (leads_bound n (first_state b) es s h).1, (first_bound b).1)
no_limit n b es s (Reset k) small few h past =
    omega (arith, past, (leads_bound n (first_state b) es s h).0, (first_bound b).0)

-- ---- the configuration at a cut

none_more : (xs ys : List Load) → xs ++ ys ≡ xs → ys ≡ []
none_more xs ys e = nil_from_length ys (omega (arith, ap length e, length-append xs ys))

-- node i is in this state at the cut
pub record Comes (logs : List Log) (cut : ℕ → ℕ) (i : ℕ) (state : NodeState) : Type 0 where
  pub log : Log
  pub at : slice_get logs i ≡ Some log
  pub leads : LeadsTo log.nodes (first_state log.initiator) (take (cut i) log.events) state

-- what node i sent is received at the cut
abbrev pub IsReceived : List Log → (ℕ → ℕ) → ℕ → Type 0
IsReceived logs cut i = sent (take (cut i) (log_of logs i))
    ≡ got (take (cut (next (length logs) i)) (log_of logs (next (length logs) i)))

module _ {logs : List Log} {cut : ℕ → ℕ} (r : IsCutOfRuns logs cut) where
  -- a run comes to it
  record HasRun : Type 0 where
    run : List (ℕ × Event)
    c : Configuration
    reaches : Reaches (length logs) (beginning (λ i. is_initiator (slice_get logs i))) run c
    states : (i : ℕ) (s : NodeState) → Comes logs cut i s → s ≡ c.state i
    links : (k : ℕ) → k < length logs
        → got (take (cut (next (length logs) k)) (log_of logs (next (length logs) k))) ++ c.link k
        ≡ sent (take (cut k) (log_of logs k))

  has_run : HasRun
  has_run =
      let w = comes_to r in
      record {
        run = w.0;
        c = w.1;
        reaches = w.3.reaches;
        states = λ i s is.
            (let li = slice_get_within logs i is.log is.at in
            log_reached (slice_get logs i) (r.local i) is.log (cut i) s is.at is.leads ∙ ap (st r i) (sym (w.4 i li))
            ∙ sym (w.3.states i li));
        links = λ k lk.
            (let i = next (length logs) k in
            ap (λ (x : ℕ). got (take x (log_of logs i)) ++ w.1.link k) (sym (w.4 i (next_below (length logs) k lk)))
            ∙ w.3.links k lk ∙ ap (λ (x : ℕ). sent (take x (log_of logs k))) (w.4 k lk));
      }

  -- a node of a cut that stands still
  pub record Stands (j : ℕ) : Type 0 where
    pub state : NodeState
    pub comes : Comes logs cut j state
    pub owes : state.owed ≡ None
    pub waits : Receives state.phase
    pub received : IsReceived logs cut j

  pub not_all_stand : (k : ℕ) (log : Log) → slice_get logs k ≡ Some log → log.initiator ≡ true
      → ((j : ℕ) → j < length logs → Stands j) → ⊥
  not_all_stand k log at starts all =
      let h = has_run in
      no_run_stands_still (length logs) (λ i. is_initiator (slice_get logs i)) h.run h.c k r.two h.reaches
      (slice_get_within logs k log at) (ap is_initiator at ∙ starts) (record {
        owes = λ j lj. (let s = all j lj in
            subst (λ (x : NodeState). x.owed ≡ None) (h.states j s.state s.comes) s.owes);
        waits = λ j lj. (let s = all j lj in
            subst (λ (x : NodeState). Receives x.phase) (h.states j s.state s.comes) s.waits);
        empty = λ j lj.
            none_more (got (take (cut (next (length logs) j)) (log_of logs (next (length logs) j)))) (h.c.link j)
            (h.links j lj ∙ (all j lj).received);
      })

  -- where a node leads, each is at rest
  pub record Rests (i j : ℕ) (leader state : NodeState) : Type 0 where
    pub owes : state.owed ≡ None
    pub received : IsReceived logs cut j
    pub term : state.term ≡ leader.term
    pub passive : j ≢ i → state.phase ≡ Passive

  pub rests : (i j : ℕ) (leader state : NodeState) → Comes logs cut i leader → IsLeader leader.phase
      → Comes logs cut j state → Rests i j leader state
  rests i j leader state there leads here =
      let h = has_run in
      let lj = slice_get_within logs j here.log here.at in
      let i_is = h.states i leader there in
      let j_is = h.states j state here in
      let over : IsOver (length logs) i h.c =
      leaders_end_elections (length logs) (λ k. is_initiator (slice_get logs k)) h.run h.c i r.two h.reaches
      (slice_get_within logs i there.log there.at) (subst (λ (s : NodeState). IsLeader s.phase) i_is leads) in
      let received = got (take (cut (next (length logs) j)) (log_of logs (next (length logs) j))) in
      record {
        owes = ap (λ (s : NodeState). s.owed) j_is ∙ over.owes j lj;
        received = sym (h.links j lj) ∙ ap (λ (ls : List Load). received ++ ls) (over.empty j lj)
            ∙ append-nil received;
        term = ap (λ (s : NodeState). s.term) j_is ∙ over.term j lj ∙ ap (λ (s : NodeState). s.term) (sym i_is);
        passive = λ ne. ap (λ (s : NodeState). s.phase) j_is ∙ over.passive j lj ne;
      }

  -- what comes first on a link has a step
  pub first_step : AreLogs logs → (i : ℕ) (state : NodeState) (l : Load) (rest : List Load) → Comes logs cut i state
      → state.owed ≡ None
      → Receives state.phase
      → sent (take (cut (prev (length logs) i)) (log_of logs (prev (length logs) i)))
      ≡ got (take (cut i) (log_of logs i)) ++ l ∷ rest
      → HasStep (length logs) state (Got l)
  first_step are i state l rest comes owes waits input =
      let h = has_run in
      let log = comes.log in
      let li = slice_get_within logs i log comes.at in
      let p = prev (length logs) i in
      let is = h.states i state comes in
      let links : got (take (cut i) (log_of logs i)) ++ h.c.link p ≡ sent (take (cut p) (log_of logs p)) =
      subst (λ (k : ℕ). got (take (cut k) (log_of logs k)) ++ h.c.link p ≡ sent (take (cut p) (log_of logs p)))
      (next_prev (length logs) i li) (h.links p (prev_below (length logs) i li)) in
      let link : h.c.link p ≡ l ∷ rest =
      append_cancel_left (got (take (cut i) (log_of logs i))) (h.c.link p) (l ∷ rest) (links ∙ input) in
      subst (λ (s : NodeState). HasStep (length logs) s (Got l)) (sym is)
      (elim (loads_have_steps (length logs) (λ k. is_initiator (slice_get logs k)) h.run h.c i l rest r.two
      h.reaches li (subst (λ (s : NodeState). s.owed ≡ None) is owes)
      (subst (λ (s : NodeState). Receives s.phase) is waits) link) [
        | inl step ↦ step
        | inr past ↦ absurd (no_limit (length logs) log.initiator (take (cut i) log.events) state l are.ring.1
            (omega (arith, few_taken (cut i) log.events, (are.valid i log comes.at).count))
            (subst (λ (n : ℕ). LeadsTo n (first_state log.initiator) (take (cut i) log.events) state)
            (are.sizes i log comes.at) comes.leads)
            (subst (λ (s : NodeState). IsPastLimits (length logs) s l) (sym is) past))
      ])

-- ---- the laws

pub runs_to : (logs : List Log) (cut : List ℕ) → AreLogs logs → Matches logs → AreLocalRuns logs → IsConsistentCut logs cut
    → IsCutOfRuns logs (slice_index cut)
runs_to logs cut are matches local consistent =
    record {
      two = are.ring.0;
      sizes = are.sizes;
      matches = matches;
      local = local;
      fits = consistent.0.within;
      held = consistent.1;
    }

pub no_cut_stands_still : NoCutStandsStill
no_cut_stands_still logs cut k log are matches local consistent at starts all =
    not_all_stand (runs_to logs cut are matches local consistent) k log at starts (λ j lj.
    (let s = all j lj in
    record {
      state = s.state;
      comes = record { log = s.is_in.log; at = s.is_in.at; leads = s.is_in.reached };
      owes = s.owes;
      waits = s.waits;
      received = s.empty;
    }))

pub elections_end_at_cuts : ElectionsEndAtCuts
elections_end_at_cuts logs cut are matches local consistent i j state leader is_in =
    let x = leader.is_in in
    let w = rests (runs_to logs cut are matches local consistent) i j leader.state state
    (record { log = x.log; at = x.at; leads = x.reached }) leader.leads
    (record { log = is_in.log; at = is_in.at; leads = is_in.reached }) in
    record { empty = w.received; owes = w.owes; term = w.term; passive = w.passive }

pub loads_at_cuts_have_steps : LoadsAtCutsHaveSteps
loads_at_cuts_have_steps logs cut i state l rest are matches local consistent is_in owes waits input =
    first_step (runs_to logs cut are matches local consistent) are i state l rest
    (record { log = is_in.log; at = is_in.at; leads = is_in.reached }) owes waits input
