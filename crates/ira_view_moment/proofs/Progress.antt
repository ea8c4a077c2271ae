-- How far a node has come, event by event.
use Rattle.std.proofs.Common.{◌≡◌, ◌≢◌, ℕ, zero, suc, ◌+◌, ◌<◌, ◌≤◌, inl, inr, Some, None, Ok, Err, List, [], ◌∷◌}
use Rattle.std.proofs.Common.{length, take, get_or, refl, sym, ◌∙◌, ap, subst, arith, add-one}
use Rattle.std.specs.Prelude.{slice_get, count_by}
use Rattle.std.proofs.lemmas.Option.{get_or_from_slice_get, slice_get_within}
use Rattle.std.proofs.lemmas.List.Sums.{count_by_more_no, count_by_more_yes, count_by-le-length}
use Rattle.std.proofs.lemmas.List.{length-take-le}
use Rattle.ira_event.specs.declared.event.Event.{Event}
use Rattle.ira_event.specs.declared.event.Event.TheVariants.{Draw, Sent, Got, Yield}
use Rattle.ira_event.specs.Log.{Log}
use Rattle.ira_event.specs.Messages.{sending, receipt, sent, got}
use Rattle.ira_node.specs.declared.node_state.NodeState.{NodeState}
use Rattle.ira_node.specs.declared.step_fault.StepFault.{StepFault}
use Rattle.ira_node.specs.NodeState.{first_state}
use Rattle.ira_node.specs.NodeStep.{NodeStep, sends, draws, passes, gives_in, purges, meets, ties, wins, yields}
use Rattle.ira_node.specs.NodeStep.{restarts, comes_home}
use Rattle.ira_node.specs.NodeStepFault.{NodeStepFault}
use Rattle.ira_node.specs.StepAnswer.{answer}
use Rattle.ira_node.proofs.Answers.{fault_gives, step_gives}
use Rattle.ira_replay.specs.LocalRun.{IsLocalRun, LeadsTo}
use Rattle.ira_replay.proofs.Reached.{same_next}
pub use Rattle.ira_replay.proofs.Alike.{one_end}
use Rattle.ira_order.specs.Tally.{sent_by, got_by}
use Rattle.ira_order.proofs.OrderPrefixes.{rank_le, rank_more}
use Rattle.ira_view_moment.specs.declared.node_progress.NodeProgress.{NodeProgress}
use Rattle.ira_view_moment.specs.NodeProgress.{Reaches, IsDropped, IsNumberBelow, is_draw, IsProgress}

-- ---- states along events

-- events all of which have steps go on from each state that they come to
next_step : (n : ℕ) (s : NodeState) (es : List Event) (t u : NodeState) (a : ℕ) (e : Event) → LeadsTo n s es t
    → LeadsTo n s (take a es) u → slice_get es a ≡ Some e → (v : NodeState) × NodeStep n u e v
next_step n s [] t u a e h k at = cc
next_step n s (x ∷ es) t u zero e h k at =
    let same : x ≡ e = cc in
    let P : Event → Type 0 = λ y. NodeStep n u y h.0 in
    let Q : NodeState → Type 0 = λ y. NodeStep n y x h.0 in
    (h.0, subst P same (subst Q (sym k) h.1))
next_step n s (x ∷ es) t u (suc a) e h k at =
    let F : NodeState → Type 0 = λ y. LeadsTo n y (take a es) u in
    next_step n h.0 es t u a e h.2 (subst F (same_next n s x k.0 h.0 k.1 h.1) k.2) at

-- and come to the state after one event more
further : (n : ℕ) (s : NodeState) (es : List Event) (u v : NodeState) (a : ℕ) (e : Event) → LeadsTo n s (take a es) u
    → slice_get es a ≡ Some e → NodeStep n u e v → LeadsTo n s (take (suc a) es) v
further n s [] u v a e k at step = cc
further n s (x ∷ es) u v zero e k at step =
    let same : e ≡ x = cc in
    let P : Event → Type 0 = λ y. NodeStep n s y v in
    let Q : NodeState → Type 0 = λ y. NodeStep n y e v in
    (v, subst P same (subst Q k step), refl)
further n s (x ∷ es) u v (suc a) e k at step = (k.0, k.1, further n k.0 es u v a e k.2 at step)

pub no_fault : (log : Log) (a : ℕ) (s : NodeState) (e : Event) (f : StepFault) → IsLocalRun log → Reaches log a s
    → slice_get log.events a ≡ Some e → NodeStepFault log.nodes s e f → ⊥
no_fault log a s e f local reached at fault =
    let step = next_step log.nodes (first_state log.initiator) log.events local.0 s a e local.1 reached at in
    let good : answer log.nodes s e ≡ Ok step.0 = step_gives log.nodes s e step.0 step.1 in
    let bad : answer log.nodes s e ≡ Err f = fault_gives log.nodes s e f fault in
    cc

pub reaches_more : (log : Log) (a : ℕ) (s t : NodeState) (e : Event) → Reaches log a s → slice_get log.events a ≡ Some e
    → NodeStep log.nodes s e t → Reaches log (a + 1) t
reaches_more log a s t e reached at step =
    let P : ℕ → Type 0 = λ x. Reaches log x t in
    subst P (sym (add-one a)) (further log.nodes (first_state log.initiator) log.events s t a e reached at step)

-- ---- what is dropped

pub number_few : (P : ℕ → Type 0) (n k : ℕ) → IsNumberBelow P n k → k ≤ n
number_few P zero k h = omega (arith, h)
number_few P (suc n) k (inl h) = omega (arith, number_few P n h.1.0 h.1.1, h.1.2)
number_few P (suc n) k (inr h) = omega (arith, number_few P n k h.1)

pub number_more : (P : ℕ → Type 0) (n k : ℕ) → P n → IsNumberBelow P n k → IsNumberBelow P (n + 1) (k + 1)
number_more P n k here h =
    let Q : ℕ → Type 0 = λ x. IsNumberBelow P x (k + 1) in
    subst Q (sym (add-one n)) (inl (here, (k, h, add-one k)))

pub number_over : (P : ℕ → Type 0) (n k : ℕ) → ¬ (P n) → IsNumberBelow P n k → IsNumberBelow P (n + 1) k
number_over P n k never h =
    let Q : ℕ → Type 0 = λ x. IsNumberBelow P x k in
    subst Q (sym (add-one n)) (inr (never, h))

-- a state that stays drops the event
pub dropped_more : (log : Log) (a : ℕ) (p : NodeProgress) (t : NodeState) → IsProgress log a p → Reaches log (a + 1) t
    → t ≡ p.state → IsNumberBelow (IsDropped log) (a + 1) (p.dropped + 1)
dropped_more log a p t is reached same =
    let P : NodeState → Type 0 = Reaches log (a + 1) in
    number_more (IsDropped log) a p.dropped (p.state, is.state, subst P same reached) is.dropped

pub dropped_over : (log : Log) (a : ℕ) (p : NodeProgress) (t : NodeState) → IsProgress log a p → Reaches log (a + 1) t
    → t ≢ p.state → IsNumberBelow (IsDropped log) (a + 1) p.dropped
dropped_over log a p t is reached differs =
    number_over (IsDropped log) a p.dropped
    (λ h. differs
    (one_end log.nodes (first_state log.initiator) (take (a + 1) log.events) t h.0 reached h.2
    ∙ one_end log.nodes (first_state log.initiator) (take a log.events) h.0 p.state h.1 is.state))
    is.dropped

-- an event that is no receipt changes the state
pub changes : (n : ℕ) (s : NodeState) (e : Event) (t : NodeState) → receipt e ≡ None → NodeStep n s e t → t ≢ s
changes n s e t none (sends l runs o ee et) =
    λ q. (let free : t.owed ≡ None = ap (λ (x : NodeState). x.owed) et in
    let owed : t.owed ≡ Some l = ap (λ (x : NodeState). x.owed) q ∙ o in cc)
changes n s e t none (draws term round id es ee lo hi et) =
    λ q. (let free : s.owed ≡ None = ap (λ (x : NodeState). x.owed) es in
    let owed = ap (λ (x : NodeState). x.owed) (sym q ∙ et) in cc)
changes n s e t none (yields leads ee low et) =
    λ q. (let phase = ap (λ (x : NodeState). x.phase) (sym q ∙ et) in rw phase at leads)
changes n s e t none (passes term m es ee h et) = absurd (let no = rw ee at none in cc)
changes n s e t none (gives_in term round id m es ee g h et) = absurd (let no = rw ee at none in cc)
changes n s e t none (purges term round id m es ee g et) = absurd (let no = rw ee at none in cc)
changes n s e t none (meets term round id m es ee g h k et) = absurd (let no = rw ee at none in cc)
changes n s e t none (ties term round id m es ee g h d k et) = absurd (let no = rw ee at none in cc)
changes n s e t none (wins term round id m es ee g h d et) = absurd (let no = rw ee at none in cc)
changes n s e t none (restarts term h es ee k low et) = absurd (let no = rw ee at none in cc)
changes n s e t none (comes_home term es ee low et) = absurd (let no = rw ee at none in cc)

-- ---- one event more

abbrev pub draws_of : Event → ℕ
draws_of e = count_by is_draw (e ∷ [])

draws_more : (es : List Event) (a : ℕ) (e : Event) → slice_get es a ≡ Some e
    → count_by is_draw (take (a + 1) es) ≡ count_by is_draw (take a es) + draws_of e
draws_more es a e at = by_kind e (get_or_from_slice_get es a e (Draw 0) at)
  where
    here : a < length es
    here = slice_get_within es a e at

    by_kind : (x : Event) → get_or es a (Draw 0) ≡ x
        → count_by is_draw (take (a + 1) es) ≡ count_by is_draw (take a es) + draws_of x
    by_kind (Draw id) is = count_by_more_yes is_draw es a (Draw 0) here (ap is_draw is)
    by_kind (Sent l) is = omega (arith, count_by_more_no is_draw es a (Draw 0) here (ap is_draw is))
    by_kind (Got l) is = omega (arith, count_by_more_no is_draw es a (Draw 0) here (ap is_draw is))
    by_kind Yield is = omega (arith, count_by_more_no is_draw es a (Draw 0) here (ap is_draw is))

pub progress_more : (log : Log) (a : ℕ) (e : Event) (p : NodeProgress) (t : NodeState) (dr sents gots drops : ℕ)
    → slice_get log.events a ≡ Some e → IsProgress log a p → NodeStep log.nodes p.state e t → dr ≡ p.draws + draws_of e
    → sents ≡ p.sent + sent_by e → gots ≡ p.received + got_by e → IsNumberBelow (IsDropped log) (a + 1) drops
    → IsProgress log (a + 1) (record {
      events = a + 1;
      state = t;
      draws = dr;
      sent = sents;
      received = gots;
      dropped = drops;
    })
progress_more log a e p t dr sents gots drops at is step d s g x =
    let here : a < length log.events = slice_get_within log.events a e at in
    let event : get_or log.events a e ≡ e = get_or_from_slice_get log.events a e e at in
    let sent_more = rank_more sending log.events a e here
    ∙ ap (λ (y : Event). length (sent (take a log.events)) + sent_by y) event in
    let got_more = rank_more receipt log.events a e here
    ∙ ap (λ (y : Event). length (got (take a log.events)) + got_by y) event in
    record {
      within = omega (arith, here);
      events = refl;
      state = reaches_more log a p.state t e is.state at step;
      draws = omega (arith, d, is.draws, draws_more log.events a e at);
      sent = omega (arith, s, is.sent, sent_more);
      received = omega (arith, g, is.received, got_more);
      dropped = x;
    }

-- ---- the numbers are small

pub few_draws : (log : Log) (a : ℕ) (p : NodeProgress) → IsProgress log a p → p.draws ≤ a
few_draws log a p is = omega (
  arith,
  is.draws,
  is.within,
  count_by-le-length is_draw (take a log.events),
  length-take-le a log.events is.within,
)

pub few_loads : (log : Log) (a : ℕ) (p : NodeProgress) → IsProgress log a p → (p.sent ≤ a) × (p.received ≤ a)
few_loads log a p is = (
  omega (arith, is.sent, rank_le sending log.events a),
  omega (arith, is.received, rank_le receipt log.events a),
)
