-- What comes next at a node, by the kind of event that its state wants.
use Rattle.std.proofs.Common.{◌≡◌, ℕ, ◌≤◌, List, ◌∷◌, Some, length, sym, ◌∙◌, ap, subst, ◌↔◌, refl, [], Result, Ok, Err}
use Rattle.std.specs.Prelude.{slice_get}
use Rattle.std.specs.Result.{result_ok}
use Rattle.ira_event.specs.declared.event.Event.{Event}
use Rattle.ira_event.specs.declared.event.Event.TheVariants.{Draw, Sent, Got, Yield}
use Rattle.ira_event.specs.declared.load.Load.{Load}
use Rattle.ira_node.specs.declared.node_state.NodeState.{NodeState}
use Rattle.ira_node.specs.declared.step_fault.StepFault.{StepFault}
use Rattle.ira_node.specs.declared.wanted.Wanted.TheVariants.{Draw as WantsDraw, Send as WantsSend, Receipt}
use Rattle.ira_node.specs.NodeStep.{HasStep, NodeStep, sends, draws, passes, gives_in, purges, meets, ties, wins, yields}
use Rattle.ira_node.specs.NodeStep.{restarts, comes_home}
use Rattle.ira_node.specs.Wanted.{IsOfKind}
use Rattle.ira_order.specs.Ring.{prev}
use Rattle.ira_view_election.specs.declared.due.Due.TheVariants.{Draw as DrawDue, Send, Receive}
use Rattle.ira_view_moment.specs.declared.node_progress.NodeProgress.{NodeProgress}
use Rattle.ira_view_election.specs.Coming.{IsDue, MayCome}
use Rattle.ira_view_moment.specs.Moment.{Moment}

-- a node that draws may draw each ID of 1 to n, and no other
draws_all : (k n : ℕ) (s t : NodeState) (id other : ℕ) → NodeStep k s (Draw id) t → 1 ≤ other → other ≤ n
    → HasStep n s (Draw other)
draws_all k n s t id other (draws term round d es ee lo hi et) least most =
    (_, draws term round other es refl least most refl)
draws_all k n s t id other (sends l runs o ee et) least most = cc
draws_all k n s t id other (passes term m es ee h et) least most = cc
draws_all k n s t id other (gives_in term round d m es ee g h et) least most = cc
draws_all k n s t id other (purges term round d m es ee g et) least most = cc
draws_all k n s t id other (meets term round d m es ee g h y et) least most = cc
draws_all k n s t id other (ties term round d m es ee g h x y et) least most = cc
draws_all k n s t id other (wins term round d m es ee g h x et) least most = cc
draws_all k n s t id other (yields leads ee low et) least most = cc
draws_all k n s t id other (restarts term h es ee y low et) least most = cc
draws_all k n s t id other (comes_home term es ee low et) least most = cc

drawn : (n : ℕ) (s : NodeState) (id : ℕ) (t : NodeState) → NodeStep n s (Draw id) t → (1 ≤ id) × (id ≤ n)
drawn n s id t (draws term round d es ee lo hi et) =
    let same : d ≡ id = cc in
    (subst (λ x. 1 ≤ x) same lo, subst (λ x. x ≤ n) same hi)
drawn n s id t (sends l runs o ee et) = cc
drawn n s id t (passes term m es ee h et) = cc
drawn n s id t (gives_in term round d m es ee g h et) = cc
drawn n s id t (purges term round d m es ee g et) = cc
drawn n s id t (meets term round d m es ee g h k et) = cc
drawn n s id t (ties term round d m es ee g h x k et) = cc
drawn n s id t (wins term round d m es ee g h x et) = cc
drawn n s id t (yields leads ee low et) = cc
drawn n s id t (restarts term h es ee k low et) = cc
drawn n s id t (comes_home term es ee low et) = cc

-- what a node sends it sends in a ring of any size
sends_in : (k n : ℕ) (s t : NodeState) (l : Load) → NodeStep k s (Sent l) t → HasStep n s (Sent l)
sends_in k n s t l (sends x runs o ee et) =
    let same : x ≡ l = cc in
    (_, sends l runs (o ∙ ap (λ (y : Load). Some y) same) refl refl)
sends_in k n s t l (draws term round d es ee lo hi et) = cc
sends_in k n s t l (passes term m es ee h et) = cc
sends_in k n s t l (gives_in term round d m es ee g h et) = cc
sends_in k n s t l (purges term round d m es ee g et) = cc
sends_in k n s t l (meets term round d m es ee g h y et) = cc
sends_in k n s t l (ties term round d m es ee g h x y et) = cc
sends_in k n s t l (wins term round d m es ee g h x et) = cc
sends_in k n s t l (yields leads ee low et) = cc
sends_in k n s t l (restarts term h es ee y low et) = cc
sends_in k n s t l (comes_home term es ee low et) = cc

module _ (m : Moment) (i : ℕ) (p : NodeProgress) (at : slice_get m.nodes i ≡ Some p) where
  -- what may come has a step in this state
  step_here : (e : Event) → MayCome m i e → HasStep (length m.nodes) p.state e
  step_here e may =
      let same : may.progress ≡ p = (let all = sym may.at ∙ at in cc) in
      subst (λ (x : NodeProgress). HasStep (length m.nodes) x.state e) same may.step

  pub draw_due : (k : ℕ) → HasStep k p.state (Draw 1)
      → ((n : ℕ) (e : Event) (t : NodeState) → NodeStep n p.state e t → IsOfKind WantsDraw e)
      → (e : Event) → IsDue (length m.nodes) (Some DrawDue) e ↔ MayCome m i e
  draw_due k can only e = (to e, back e)
    where
      to : (e : Event) → IsDue (length m.nodes) (Some DrawDue) e → MayCome m i e
      to (Draw id) due =
          record {
            progress = p;
            at = at;
            step = draws_all k (length m.nodes) p.state can.0 1 id can.1 due.0 due.1;
            first = tt;
            works = λ q. cc;
          }
      to (Sent l) due = absurd due
      to (Got l) due = absurd due
      to Yield due = absurd due

      of_kind : (e : Event) → MayCome m i e → IsOfKind WantsDraw e
      of_kind e may = (let step = step_here e may in only (length m.nodes) e step.0 step.1)

      back : (e : Event) → MayCome m i e → IsDue (length m.nodes) (Some DrawDue) e
      back (Draw id) may = (let step = step_here (Draw id) may in drawn (length m.nodes) p.state id step.0 step.1)
      back (Sent l) may = absurd (of_kind (Sent l) may)
      back (Got l) may = absurd (of_kind (Got l) may)
      back Yield may = absurd (of_kind Yield may)

  pub sending_due : (k : ℕ) (l : Load) → HasStep k p.state (Sent l)
      → ((n : ℕ) (e : Event) (t : NodeState) → NodeStep n p.state e t → IsOfKind (WantsSend l) e)
      → (e : Event) → IsDue (length m.nodes) (Some (Send l)) e ↔ MayCome m i e
  sending_due n l can only e = (to e, back e)
    where
      to : (e : Event) → IsDue (length m.nodes) (Some (Send l)) e → MayCome m i e
      to (Draw id) due = absurd due
      to (Sent k) due =
          record {
            progress = p;
            at = at;
            step = subst (λ (x : Load). HasStep (length m.nodes) p.state (Sent x)) (sym due)
                (sends_in n (length m.nodes) p.state can.0 l can.1);
            first = tt;
            works = λ q. cc;
          }
      to (Got k) due = absurd due
      to Yield due = absurd due

      of_kind : (e : Event) → MayCome m i e → IsOfKind (WantsSend l) e
      of_kind e may = (let step = step_here e may in only (length m.nodes) e step.0 step.1)

      back : (e : Event) → MayCome m i e → IsDue (length m.nodes) (Some (Send l)) e
      back (Draw id) may = absurd (of_kind (Draw id) may)
      back (Sent k) may = of_kind (Sent k) may
      back (Got k) may = absurd (of_kind (Got k) may)
      back Yield may = absurd (of_kind Yield may)

  received_due : (l : Load) (rest : List Load) → slice_get m.links (prev (length m.nodes) i) ≡ Some (l ∷ rest)
      → HasStep (length m.nodes) p.state (Got l)
      → ((n : ℕ) (e : Event) (t : NodeState) → NodeStep n p.state e t → IsOfKind Receipt e)
      → (e : Event) → IsDue (length m.nodes) (Some (Receive l)) e ↔ MayCome m i e
  received_due l rest link can only e = (to e, back e)
    where
      to : (e : Event) → IsDue (length m.nodes) (Some (Receive l)) e → MayCome m i e
      to (Draw id) due = absurd due
      to (Sent k) due = absurd due
      to (Got k) due =
          record {
            progress = p;
            at = at;
            step = subst (λ (x : Load). HasStep (length m.nodes) p.state (Got x)) (sym due) can;
            first = (rest, link ∙ ap (λ (x : Load). Some (x ∷ rest)) (sym due));
            works = λ q. cc;
          }
      to Yield due = absurd due

      of_kind : (e : Event) → MayCome m i e → IsOfKind Receipt e
      of_kind e may = (let step = step_here e may in only (length m.nodes) e step.0 step.1)

      back : (e : Event) → MayCome m i e → IsDue (length m.nodes) (Some (Receive l)) e
      back (Draw id) may = absurd (of_kind (Draw id) may)
      back (Sent k) may = absurd (of_kind (Sent k) may)
      back (Got k) may = (let both = sym may.first.1 ∙ link in cc)
      back Yield may = absurd (of_kind Yield may)

  pub receipt_due : (l : Load) (ls : List Load) → slice_get m.links (prev (length m.nodes) i) ≡ Some ls
      → Some l ≡ slice_get ls 0 → HasStep (length m.nodes) p.state (Got l)
      → ((n : ℕ) (e : Event) (t : NodeState) → NodeStep n p.state e t → IsOfKind Receipt e)
      → (e : Event) → IsDue (length m.nodes) (Some (Receive l)) e ↔ MayCome m i e
  receipt_due l [] link first can only = cc
  receipt_due l (x ∷ rest) link first can only =
      let same : x ≡ l = cc in
      received_due l rest (link ∙ ap (λ (y : Load). Some (y ∷ rest)) same) can only

pub stepped : (r : Result NodeState StepFault) (t : NodeState) → Some t ≡ result_ok r → r ≡ Ok t
stepped (Ok s) t is = cc
stepped (Err f) t is = cc
