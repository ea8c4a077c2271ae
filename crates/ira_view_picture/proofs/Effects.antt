-- What an event does to its node, by the last state before it and by what is known after it.
use Rattle.std.proofs.Common.{◌≡◌, ◌∙◌, ℕ, suc, ◌+◌, ◌-◌, ◌≤◌, ◌∷◌, ◌++◌, Option, Some, None, length, refl, ap, subst}
use Rattle.std.proofs.Common.{arith, take}
use Rattle.std.specs.Prelude.{◌↔◌}
use Rattle.std.proofs.Math.Seq.{take-append-add}
use Rattle.ira_event.specs.Log.{Log}
use Rattle.ira_node.specs.declared.node_state.NodeState.{NodeState}
use Rattle.ira_node.specs.NodeState.{first_state}
use Rattle.ira_replay.specs.declared.replay_fault.ReplayFault.{ReplayFault}
use Rattle.ira_replay.specs.LocalRun.{IsFirstFault}
use Rattle.ira_replay.proofs.Alike.{one_end}
use Rattle.ira_replay.proofs.FirstFaults.{run_or_fault}
use Rattle.ira_view_picture.specs.declared.after.After.{After}
use Rattle.ira_view_picture.specs.declared.after.After.TheVariants.{NoStep, State, Unknown}
use Rattle.ira_view_picture.specs.declared.traffic.Effect.{Effect}
use Rattle.ira_view_picture.specs.declared.traffic.Effect.TheVariants.{GoesOn, Leads, Nothing}
use Rattle.ira_view_trail.specs.StateTrail.{Reaches}
use Rattle.ira_view_picture.specs.Lane.{IsKnown, IsReplayed}
use Rattle.ira_view_picture.specs.Traffic.{ChangesNothing, IsEffect}

-- events with one without a step among them lead to no state
no_state : (log : Log) (n : ℕ) (s : NodeState) (f : ReplayFault) → Reaches log n s → IsFirstFault log f
    → f.position ≤ n → ⊥
no_state log n s f reached stop past =
    let number : n ≡ length stop.before + suc (n - f.position) = omega (arith, stop.position, past) in
    run_or_fault (record log { events = take n log.events }) f (s, reached) (record {
      before = stop.before;
      event = stop.event;
      after = take (n - f.position) stop.after;
      state = stop.state;
      parts = ap (take n) stop.parts ∙ ap (λ k. take k (stop.before ++ stop.event ∷ stop.after)) number
          ∙ take-append-add stop.before (stop.event ∷ stop.after) (suc (n - f.position));
      leads = stop.leads;
      position = stop.position;
      fault = stop.fault;
    })

-- an event changes nothing exactly where the last state before it is known after it
pub changes_nothing : (log : Log) (n : ℕ) (end : NodeState) (first_fault : Option ReplayFault) (after : After)
    → IsReplayed log n end first_fault → IsKnown log (n + 1) after
    → ChangesNothing log (n + 1) ↔ (after ≡ State end)
changes_nothing log n end None (State u) is known =
    let back : n + 1 - 1 ≡ n = omega arith in (
      λ none.
          let before : Reaches log n none.0 = rw back at none.1 in
          let one : end ≡ none.0 =
          one_end log.nodes (first_state log.initiator) (take n log.events) end none.0 is before in
          let other : u ≡ none.0 =
          one_end log.nodes (first_state log.initiator) (take (n + 1) log.events) u none.0 known none.2 in
          cc,
      λ same. (let equal : u ≡ end = cc in (end, rw back is, subst (Reaches log (n + 1)) equal known)),
    )
changes_nothing log n end (Some f) (State u) is known =
    absurd (no_state log (n + 1) u f known is.0 (omega (arith, is.1)))
changes_nothing log n end first_fault NoStep is known =
    (λ none. absurd (no_state log (n + 1) none.0 known.0 none.2 known.1 (omega (arith, known.2))), λ same. absurd cc)
changes_nothing log n end first_fault Unknown is known =
    (λ none. absurd (no_state log (n + 1) none.0 known.0 none.2 known.1 (omega (arith, known.2))), λ same. absurd cc)

pub effect_is : (log : Log) (p : ℕ) (effect : Effect) (S : Type 0) → (effect ≡ Nothing) ↔ S → ChangesNothing log p ↔ S
    → IsEffect log p effect
effect_is log p Nothing S says is = is.1 (says.0 refl)
effect_is log p GoesOn S says is = λ none. (let no : GoesOn ≡ Nothing = says.1 (is.0 none) in cc)
effect_is log p Leads S says is = λ none. (let no : Leads ≡ Nothing = says.1 (is.0 none) in cc)
