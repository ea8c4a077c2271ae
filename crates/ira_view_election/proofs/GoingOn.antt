-- At a moment of a run something may come next, or a node leads.
use Rattle.std.proofs.Common.{◌≡◌, ℕ, ◌<◌, ◌⊎◌, inl, inr, Option, Some, None, List, [], ◌∷◌, ◌++◌, length, take}
use Rattle.std.proofs.Common.{refl, sym, ◌∙◌, ap, subst, arith, append-nil, true}
use Rattle.std.specs.Prelude.{slice_get, slice_index}
use Rattle.std.proofs.lemmas.Bool.{cases_eq}
use Rattle.std.proofs.lemmas.List.{append_cancel_left}
use Rattle.std.proofs.lemmas.Option.{slice_get_within}
use Rattle.ira_event.specs.declared.event.Event.{Event}
use Rattle.ira_event.specs.declared.event.Event.TheVariants.{Draw, Sent, Got}
use Rattle.ira_event.specs.declared.load.Load.{Load}
use Rattle.ira_event.specs.Log.{Log}
use Rattle.ira_event.specs.Logs.{AreLogs}
use Rattle.ira_node.specs.declared.phase.Phase.{Phase}
use Rattle.ira_node.specs.declared.phase.Phase.TheVariants.{Choosing, Active, Passive, Leader, Yielding}
use Rattle.ira_node.specs.NodeState.{IsLeader, Receives}
use Rattle.ira_node.specs.NodeStep.{HasStep, sends, draws}
use Rattle.ira_node.proofs.Wants.{leading_yields, waiting_receives}
use Rattle.ira_order.specs.Cut.{IsConsistentCut}
use Rattle.ira_order.specs.Matching.{Matches, sent, got}
use Rattle.ira_order.specs.Ring.{log_of, next, prev}
use Rattle.ira_order.specs.Run.{AreLocalRuns}
use Rattle.ira_order.proofs.Ranks.{next_below}
use Rattle.ira_order.proofs.Runs.{prev_below, prev_next}
use Rattle.ira_safety.specs.OneLeader.{IsIn}
use Rattle.ira_election.specs.Ending.{IsAtRest}
use Rattle.ira_election.specs.StandingStill.{IsEmptyLink}
use Rattle.ira_election.proofs.Beginning.{all_or_one}
use Rattle.ira_election.proofs.Cuts.{elections_end_at_cuts, loads_at_cuts_have_steps, no_cut_stands_still}
use Rattle.ira_election.proofs.Loads.{free_is}
use Rattle.ira_view_moment.specs.declared.node_progress.NodeProgress.{NodeProgress}
use Rattle.ira_view_election.specs.Coming.{MayCome}
use Rattle.ira_view_election.proofs.Nexts.{none_comes, one_at}
use Rattle.ira_view_election.specs.Laws.{LeadersAreAtTheEnd, MomentsGoOn}
use Rattle.ira_view_moment.specs.Moment.{IsMoment, LeadsAt, Moment}

module _ (logs : List Log) (cut : List ℕ) (m : Moment) (are : AreLogs logs) (matches : Matches logs)
    (local : AreLocalRuns logs) (consistent : IsConsistentCut logs cut) (is : IsMoment logs cut m) where
  place : (i : ℕ) (p : NodeProgress) → slice_get m.nodes i ≡ Some p → i < length logs
  place i p at = omega (arith, slice_get_within m.nodes i p at, is.places)

  node_at : (i : ℕ) → i < length logs → (p : NodeProgress) × (slice_get m.nodes i ≡ Some p)
  node_at i l = one_at m.nodes i (omega (arith, is.places))

  loads_at : (i : ℕ) → i < length logs → (ls : List Load) × (slice_get m.links i ≡ Some ls)
  loads_at i l = one_at m.links i (omega (arith, is.links))

  is_in : (i : ℕ) (p : NodeProgress) → slice_get m.nodes i ≡ Some p → IsIn logs i (slice_index cut i) p.state
  is_in i p at =
      let log = one_at logs i (place i p at) in
      record { log = log.0; at = log.1; reached = (is.nodes i log.0 p log.1 at).state }

  -- ---- where nothing may come, and no node leads, all are still

  record Waits (i : ℕ) : Type 0 where
    progress : NodeProgress
    at : slice_get m.nodes i ≡ Some progress
    owes : progress.state.owed ≡ None
    waits : Receives progress.state.phase

  module _ (none : (i : ℕ) (e : Event) → ¬ (MayCome m i e)) where
    module _ (i : ℕ) (p : NodeProgress) (at : slice_get m.nodes i ≡ Some p) where
      it_waits : p.state.owed ≡ None → Receives p.state.phase → Waits i ⊎ LeadsAt m i
      it_waits owes waits = inl (record { progress = p; at = at; owes = owes; waits = waits })

      it_owes : (load : Load) → ¬ (IsLeader p.state.phase) → p.state.owed ≡ Some load → Waits i ⊎ LeadsAt m i
      it_owes load other owes = absurd (none i (Sent load) (record {
        progress = p;
        at = at;
        step = (_, sends load other owes refl refl);
        first = tt;
        works = λ q. cc;
      }))

      by_state : (o : Option Load) → p.state.owed ≡ o → (phase : Phase) → p.state.phase ≡ phase
          → Waits i ⊎ LeadsAt m i
      by_state o owes (Leader r d) phase =
          inr (record { progress = p; at = at; leads = subst IsLeader (sym phase) tt })
      by_state (Some load) owes (Choosing r) phase = it_owes load (λ x. subst IsLeader phase x) owes
      by_state (Some load) owes (Active r d) phase = it_owes load (λ x. subst IsLeader phase x) owes
      by_state (Some load) owes Passive phase = it_owes load (λ x. subst IsLeader phase x) owes
      by_state (Some load) owes Yielding phase = it_owes load (λ x. subst IsLeader phase x) owes
      by_state None owes (Active r d) phase = it_waits owes (subst Receives (sym phase) tt)
      by_state None owes Passive phase = it_waits owes (subst Receives (sym phase) tt)
      by_state None owes Yielding phase = it_waits owes (subst Receives (sym phase) tt)
      by_state None owes (Choosing r) phase = absurd (none i (Draw 1) (record {
        progress = p;
        at = at;
        step = (
          _,
          draws p.state.term r 1 (free_is p.state (Choosing r) owes phase) refl (omega arith)
              (omega (arith, is.places, are.ring.0)) refl,
        );
        first = tt;
        works = λ q. cc;
      }))

    waits_or_leads : (i : ℕ) → i < length logs → Waits i ⊎ LeadsAt m i
    waits_or_leads i l =
        let here = node_at i l in
        by_state i here.0 here.1 here.0.state.owed refl here.0.state.phase refl

    -- its link holds nothing, where all wait
    holds_nothing : ((i : ℕ) → i < length logs → Waits i) → (i : ℕ) → i < length logs → IsEmptyLink logs cut i
    holds_nothing all i l = by_loads loads.0 loads.1
      where
        loads : (ls : List Load) × (slice_get m.links i ≡ Some ls)
        loads = loads_at i l

        by_loads : (ls : List Load) → slice_get m.links i ≡ Some ls → IsEmptyLink logs cut i
        by_loads [] at = is.on_their_way i [] at
            ∙ append-nil (got (take (slice_index cut (next (length logs) i)) (log_of logs (next (length logs) i))))
        by_loads (x ∷ ls) at =
            let w = all (next (length logs) i) (next_below (length logs) i l) in
            let back : i ≡ prev (length logs) (next (length logs) i) =
            prev_next (length logs) (next (length logs) i) i (next_below (length logs) i l) l refl in
            let there : i ≡ prev (length m.nodes) (next (length logs) i) =
            back ∙ ap (λ (n : ℕ). prev n (next (length logs) i)) (sym is.places) in
            let input =
            subst (λ (k : ℕ). sent (take (slice_index cut k) (log_of logs k))
            ≡ got (take (slice_index cut (next (length logs) i)) (log_of logs (next (length logs) i))) ++ x ∷ ls) back
            (is.on_their_way i (x ∷ ls) at) in
            let step = loads_at_cuts_have_steps logs cut (next (length logs) i) w.progress.state x ls are matches local
            consistent (is_in (next (length logs) i) w.progress w.at) w.owes w.waits input in
            absurd (none (next (length logs) i) (Got x) (record {
              progress = w.progress;
              at = w.at;
              step = subst (λ (n : ℕ). HasStep n w.progress.state (Got x)) (sym is.places) step;
              first = (ls, subst (λ (k : ℕ). slice_get m.links k ≡ Some (x ∷ ls)) there at);
              works = λ q. cc;
            }))

    leads_somewhere : (k : ℕ) (log : Log) → slice_get logs k ≡ Some log → log.initiator ≡ true → (i : ℕ) × LeadsAt m i
    leads_somewhere k log at starts = elim (all_or_one Waits (LeadsAt m) (length logs) waits_or_leads) [
      | inr one ↦ (one.0, one.2)
      | inl all ↦ absurd (no_cut_stands_still logs cut k log are matches local consistent at starts (λ i l.
          (let w = all i l in
          record {
            state = w.progress.state;
            is_in = is_in i w.progress w.at;
            owes = w.owes;
            waits = w.waits;
            empty = holds_nothing all i l;
          })))
    ]

  -- ---- where a node leads, nothing may come

  module _ (i : ℕ) (leader : LeadsAt m i) where
    rest : (j : ℕ) (p : NodeProgress) → slice_get m.nodes j ≡ Some p
        → IsAtRest logs cut i j leader.progress.state p.state
    rest j p at = elections_end_at_cuts logs cut are matches local consistent i j p.state (record {
      state = leader.progress.state;
      is_in = is_in i leader.progress leader.at;
      leads = leader.leads;
    }) (is_in j p at)

    -- nothing is on its way to node j
    no_input : (j : ℕ) (l : Load) (ls : List Load) → j < length logs
        → slice_get m.links (prev (length m.nodes) j) ≡ Some (l ∷ ls) → ⊥
    no_input j l ls lj at =
        let k : ℕ = prev (length logs) j in
        let lk : prev (length logs) j < length logs = prev_below (length logs) j lj in
        let link : slice_get m.links (prev (length logs) j) ≡ Some (l ∷ ls) =
        subst (λ (n : ℕ). slice_get m.links (prev n j) ≡ Some (l ∷ ls)) is.places at in
        let writer = node_at k lk in
        let empty : IsEmptyLink logs cut (prev (length logs) j) = (rest k writer.0 writer.1).empty in
        let reads : List Load =
        got (take (slice_index cut (next (length logs) (prev (length logs) j)))
        (log_of logs (next (length logs) (prev (length logs) j)))) in
        let none : [] ≡ l ∷ ls =
        append_cancel_left reads [] (l ∷ ls) (append-nil reads ∙ sym empty ∙ is.on_their_way k (l ∷ ls) link) in
        cc

    nothing_comes : (j : ℕ) (e : Event) → ¬ (MayCome m j e)
    nothing_comes j e may = elim (cases_eq j i) [
      | inl here ↦
          let same : leader.progress ≡ may.progress =
          (let both = sym leader.at ∙ subst (λ (x : ℕ). slice_get m.nodes x ≡ Some may.progress) here may.at in cc) in
          may.works (leading_yields (length m.nodes) may.progress.state e
          (subst (λ (p : NodeProgress). IsLeader p.state.phase) same leader.leads) may.step)
      | inr other ↦
          let r = rest j may.progress may.at in
          let is_got = waiting_receives (length m.nodes) may.progress.state e r.owes
          (subst Receives (sym (r.passive other)) tt) may.step in
          let may_get = subst (MayCome m j) is_got.1 may in
          no_input j is_got.0 may_get.first.0 (place j may.progress may.at) may_get.first.1
    ]

pub moments_go_on : MomentsGoOn
moments_go_on logs cut m k log are matches local consistent is at starts contenders stands =
    stands.0 (leads_somewhere logs cut m are matches local consistent is (none_comes m stands.1) k log at starts)

pub leaders_are_at_the_end : LeadersAreAtTheEnd
leaders_are_at_the_end logs cut m i j e are matches local consistent is leads =
    nothing_comes logs cut m are matches local consistent is i leads j e
