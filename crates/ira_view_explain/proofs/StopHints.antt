-- Which events after another send a load.
use Rattle.std.proofs.Common.{◌≡◌, ◌≢◌, ℕ, zero, suc, ◌+◌, ◌<◌, ◌≤◌, inl, inr, List, [], ◌∷◌, Option, None, Some, arith, drop, length}
use Rattle.std.proofs.Common.{refl, subst, sym}
use Rattle.std.proofs.lemmas.Bool.{cases_lt}
use Rattle.std.proofs.lemmas.Option.{slice_get_within}
use Rattle.std.specs.Prelude.{IfSome, slice_get}
use Rattle.ira_event.specs.declared.event.Event.{Event}
use Rattle.ira_event.specs.declared.event.Event.TheVariants.{Got, Sent}
use Rattle.ira_event.specs.declared.load.Load.{Load}
use Rattle.ira_event.specs.Log.{Log}
use Rattle.ira_node.specs.NodeStep.{NodeStep}
use Rattle.ira_node.specs.declared.node_state.NodeState.{NodeState}
use Rattle.ira_order.specs.Ring.{numbered}
use Rattle.ira_order.proofs.Receipts.{none_ahead}
use Rattle.ira_view_evidence.proofs.Counted.{at_number}
use Rattle.ira_view_evidence.specs.LoadDifference.{DifferAlike, DiffersBy}
use Rattle.ira_view_evidence.specs.declared.load_difference.LoadDifference.{LoadDifference}
use Rattle.ira_view_explain.specs.StopHint.{CallsFor, IsCalledNext, IsSentAfter}
use Rattle.ira_view_explain.specs.declared.stopped.Stopped.{Stopped}

-- the next event doesn't send it
pub none_more : (log : Log) (position n : ℕ) (load : Load) (e : Event) → slice_get log.events n ≡ Some e
    → ((k : ℕ) → k ≤ n → ¬ (IsSentAfter log position load k)) → ¬ ((position < n + 1) × (e ≡ Sent load))
    → (k : ℕ) → k ≤ n + 1 → ¬ (IsSentAfter log position load k)
none_more log position n load e at none not k le is = elim (cases_lt n k) [
  | inl after ↦
      let same : k ≡ n + 1 = omega (arith, after, le) in
      let here : numbered log.events (n + 1) ≡ Some e = at_number log.events n e at in
      let there : numbered log.events (n + 1) ≡ Some (Sent load) =
      subst (λ (m : ℕ). numbered log.events m ≡ Some (Sent load)) same is.1 in
      let sent : e ≡ Sent load = cc in
      not (omega (arith, same, is.0), sent)
  | inr before ↦ none k before is
]

within : (es : List Event) (k : ℕ) (e : Event) → numbered es k ≡ Some e → k ≤ length es
within es zero e is = omega arith
within es (suc k) e is = omega (arith, slice_get_within es k e is)

-- nor does any where none is left
pub none_past : (log : Log) (position n : ℕ) (load : Load) → [] ≡ drop n log.events
    → ((k : ℕ) → k ≤ n → ¬ (IsSentAfter log position load k)) → (k : ℕ) → ¬ (IsSentAfter log position load k)
none_past log position n load end none k is =
    none k (omega (arith, within log.events k (Sent load) is.1, none_ahead log.events n end)) is

-- what a node owes after a step
pub debt_after : (nodes : ℕ) (s : NodeState) (e : Event) (t : NodeState) (o : Option Load) → NodeStep nodes s e t
    → t.owed ≡ o → IfSome o (CallsFor nodes s e)
debt_after nodes s e t None step is = tt
debt_after nodes s e t (Some load) step is = (t, step, is)

-- the next event calls for what the node owes after it
pub called : (log : Log) (stopped : Stopped) (call load : Load) (o : Option Load)
    → numbered log.events (stopped.position + 1) ≡ Some (Got call)
    → IfSome o (CallsFor log.nodes stopped.state (Got call)) → o ≡ Some load → IsCalledNext log stopped load
called log stopped call load o at calls debt =
    (call, at, subst (λ (x : Option Load). IfSome x (CallsFor log.nodes stopped.state (Got call))) debt calls)

-- one receipt that isn't its sending differs as all do
pub other_differs : (how : LoadDifference) (first load : Load) → first ≢ load
    → DifferAlike how (first ∷ []) (load ∷ []) → DiffersBy how first load
other_differs how first load not alike = elim (alike.alike 0 first load refl refl) [
  | inl same ↦ absurd (not (sym same))
  | inr differ ↦ differ
]
