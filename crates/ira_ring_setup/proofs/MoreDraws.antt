-- A lone run in which nobody lacked a draw is one of the setup that gives more draws.
use Rattle.std.proofs.Common.{◌≡◌, ℕ, ◌<◌, ◌≤◌, List, [], ◌∷◌, ◌++◌, Some, length, get_or, refl, sym, ◌∙◌, subst, ap}
use Rattle.std.proofs.Common.{append_assoc, length-append, arith}
use Rattle.std.specs.Prelude.{slice_get}
use Rattle.std.proofs.lemmas.Option.{slice_get-get_or, slice_get_within}
use Rattle.ira_event.specs.declared.event.Event.{Event}
use Rattle.ira_event.specs.declared.load.Load.{Load}
use Rattle.ira_node.specs.declared.phase.Phase.TheVariants.{Choosing}
use Rattle.ira_node.specs.declared.node_state.NodeState.{NodeState}
use Rattle.ira_node.specs.NodeState.{first_state, free}
use Rattle.ira_replay.specs.LocalRun.{LeadsTo}
use Rattle.ira_replay.proofs.Alike.{one_end}
use Rattle.ira_order.specs.Ring.{prev, log_of}
use Rattle.ira_order.specs.Matching.{sent}
use Rattle.ira_order.specs.Run.{Configuration}
use Rattle.ira_ring_setup.specs.declared.node_end.NodeEnd.{NodeEnd}
use Rattle.ira_ring_setup.specs.declared.node_end.NodeEnd.TheVariants.{Leader, Stopped, DrawsSpent, LogFull, NoStep, Quiet}
use Rattle.ira_ring_setup.specs.Setup.{Setup, is_initiator, node_draws}
use Rattle.ira_ring_setup.specs.Run.{Run}
use Rattle.ira_event.specs.Messages.{drawn}
use Rattle.ira_ring_setup.specs.FullRun.{opening_of, events_at, HasEvent, yields, owes, chooses, receives, CanStep}
use Rattle.ira_ring_setup.specs.FullRun.{Walks, BeginsWith}
use Rattle.ira_ring_setup.specs.ShownEnd.{Says, IsShown, IsLoneRun}
use Rattle.ira_ring_setup.proofs.Choosing.{choosing_no_waiting, choosing_no_leader}
use Rattle.ira_ring_setup.proofs.Walks.{walk_leads}

-- a node that has to draw and may go on has spent its draws
pub must_have_spent : (s : Setup) (i term round : ℕ) (state : NodeState) (events : List Event) (input : List Load)
    (end : NodeEnd) → state ≡ free term (Choosing round) → length events < s.cap → Says s i state events input end
    → (end ≡ DrawsSpent) × (drawn events ≡ node_draws s i)
must_have_spent s i term round state events input Leader is below_cap says =
    absurd (choosing_no_leader term round state is says.0)
must_have_spent s i term round state events input LogFull is below_cap says = absurd (omega (arith, says.1))
must_have_spent s i term round state events input DrawsSpent is below_cap says = (refl, says.2)
must_have_spent s i term round state events input (NoStep m) is below_cap says =
    absurd (choosing_no_waiting term round state is says.0.2)
must_have_spent s i term round state events input Quiet is below_cap says =
    absurd (choosing_no_waiting term round state is says.0.2)
must_have_spent s i term round state events input Stopped is below_cap says =
    absurd (choosing_no_waiting term round state is says.0.2)

abbrev pub with_draws : Setup → List (List ℕ) → Setup
with_draws s ds = record { nodes = s.nodes; initiators = s.initiators; draws = ds; cap = s.cap; terms = s.terms }

module _ (s : Setup) (ds : List (List ℕ)) (more : (i : ℕ) → i < s.nodes
    → BeginsWith (node_draws (with_draws s ds) i) (node_draws s i)) where
  longer : (i : ℕ) → i < s.nodes → length (node_draws s i) ≤ length (node_draws (with_draws s ds) i)
  longer i l = omega (arith, ap length (more i l).1, length-append (node_draws s i) (more i l).0)

  has_event_still : (i : ℕ) → i < s.nodes → (state : NodeState) (events : List Event) (input : List Load)
      → HasEvent s.nodes s.terms (node_draws s i) state events input
      → HasEvent s.nodes s.terms (node_draws (with_draws s ds) i) state events input
  has_event_still i l state events input (yields leads below) = yields leads below
  has_event_still i l state events input (owes m o) = owes m o
  has_event_still i l state events input (chooses term round is unused) =
      chooses term round is (omega (arith, unused, longer i l))
  has_event_still i l state events input (receives m others is step) = receives m others is step

  can_step_still : (past : List (ℕ × Event)) (c : Configuration) (i : ℕ) → i < s.nodes → CanStep s past c i
      → CanStep (with_draws s ds) past c i
  can_step_still past c i l can = record {
    not_last = can.not_last;
    below_cap = can.below_cap;
    event = has_event_still i l (c.state i) (events_at past i) (c.link (prev s.nodes i)) can.event;
  }

  walks_still : (past : List (ℕ × Event)) (c : Configuration) (run : List (ℕ × Event)) (d : Configuration)
      → Walks s past c run d → Walks (with_draws s ds) past c run d
  walks_still past c [] d walk = walk
  walks_still past c (x ∷ run) d walk = (
    can_step_still past c x.0 walk.1.1.place walk.0,
    (walk.1.0, walk.1.1, walks_still (past ++ x ∷ []) walk.1.0 run d walk.1.2),
  )

  module _ (run : Run) (alike : (i : ℕ) → i < s.nodes → slice_get run.ends i ≡ Some DrawsSpent
      → node_draws (with_draws s ds) i ≡ node_draws s i) (lone : IsLoneRun s run) where
    -- whoever has to draw at the end had all draws of the longer setup, too
    none_unused : (i term round : ℕ) → i < s.nodes → lone.logs.end.state i ≡ free term (Choosing round)
        → length (events_at lone.logs.run i) < s.cap
        → length (drawn (events_at lone.logs.run i)) < length (node_draws (with_draws s ds) i) → ⊥
    none_unused i term round l is below_cap unused =
        let at : slice_get run.ends i ≡ Some (get_or run.ends i Quiet) =
        slice_get-get_or run.ends i Quiet (omega (arith, lone.many)) in
        let shown : IsShown s run.logs i (get_or run.ends i Quiet) = lone.ends i (get_or run.ends i Quiet) at in
        let log : events_at lone.logs.run i ≡ log_of run.logs i =
        lone.logs.events i (omega (arith, lone.logs.of_setup.number)) in
        let leads : LeadsTo s.nodes (first_state (is_initiator s i)) (events_at lone.logs.run i) (lone.logs.end.state i)
        = walk_leads s [] (opening_of s) lone.logs.run lone.logs.end i l lone.logs.full.walk in
        let P : List Event → Type 0 =
        λ es. LeadsTo s.nodes (first_state (is_initiator s i)) es (lone.logs.end.state i) in
        let same : shown.0 ≡ lone.logs.end.state i =
        one_end s.nodes (first_state (is_initiator s i)) (log_of run.logs i) shown.0 (lone.logs.end.state i) shown.1
        (subst P log leads) in
        let spent = must_have_spent s i term round shown.0 (log_of run.logs i) (sent (log_of run.logs (prev s.nodes i)))
        (get_or run.ends i Quiet) (same ∙ is) (omega (arith, below_cap, ap length log)) shown.2 in
        let all : node_draws (with_draws s ds) i ≡ node_draws s i = alike i l (at ∙ ap Some spent.0) in
        omega (arith, unused, ap length all, ap length spent.1, ap (λ (es : List Event). length (drawn es)) log)

    no_step_still : (i : ℕ) → i < s.nodes → CanStep (with_draws s ds) lone.logs.run lone.logs.end i
        → HasEvent s.nodes s.terms (node_draws (with_draws s ds) i) (lone.logs.end.state i) (events_at lone.logs.run i)
        (lone.logs.end.link (prev s.nodes i)) → ⊥
    no_step_still i l can (yields leads below) =
        lone.logs.full.whole i l (record {
          not_last = can.not_last;
          below_cap = can.below_cap;
          event = yields leads
              below;
        })
    no_step_still i l can (owes m o) =
        lone.logs.full.whole i l (record { not_last = can.not_last; below_cap = can.below_cap; event = owes m o })
    no_step_still i l can (chooses term round is unused) = none_unused i term round l is can.below_cap unused
    no_step_still i l can (receives m others is step) =
        lone.logs.full.whole i l (record {
          not_last = can.not_last;
          below_cap = can.below_cap;
          event = receives m others is step;
        })

    draws_still : (i : ℕ) → i < s.nodes
        → BeginsWith (node_draws (with_draws s ds) i) (drawn (events_at lone.logs.run i))
    draws_still i l =
        let first = lone.logs.full.draws i l in (
          first.0 ++ (more i l).0,
          (more i l).1 ∙ ap (λ (ids : List ℕ). ids ++ (more i l).0) first.1
              ∙ append_assoc (drawn (events_at lone.logs.run i)) first.0 (more i l).0,
        )

    says_still : (i : ℕ) (state : NodeState) (events : List Event) (input : List Load) (end : NodeEnd)
        → (end ≡ DrawsSpent → node_draws (with_draws s ds) i ≡ node_draws s i) → Says s i state events input end
        → Says (with_draws s ds) i state events input end
    says_still i state events input Leader same says = says
    says_still i state events input LogFull same says = says
    says_still i state events input DrawsSpent same says = (says.0, says.1, says.2 ∙ sym (same refl))
    says_still i state events input (NoStep m) same says = says
    says_still i state events input Quiet same says = says
    says_still i state events input Stopped same says = says

    place_of : (i : ℕ) (end : NodeEnd) → slice_get run.ends i ≡ Some end → i < s.nodes
    place_of i end at = omega (arith, slice_get_within run.ends i end at, lone.many)

    pub lone_run_still : IsLoneRun (with_draws s ds) run
    lone_run_still = record {
      logs = record {
        of_setup = record {
          ring = lone.logs.of_setup.ring;
          number = lone.logs.of_setup.number;
          versions = lone.logs.of_setup.versions;
          kinds = lone.logs.of_setup.kinds;
        };
        run = lone.logs.run;
        end = lone.logs.end;
        full = record {
          walk = walks_still [] (opening_of s) lone.logs.run lone.logs.end lone.logs.full.walk;
          draws = draws_still;
          whole = λ i l can. no_step_still i l can can.event;
        };
        events = lone.logs.events;
      };
      many = lone.many;
      ends = λ i end at. let shown = lone.ends i end at in (
        shown.0,
        shown.1,
        says_still i shown.0 (log_of run.logs i) (sent (log_of run.logs (prev s.nodes i))) end (λ is.
            alike i (place_of i end at) (at ∙ ap Some is)) shown.2,
      );
      none_stopped = lone.none_stopped;
    }
