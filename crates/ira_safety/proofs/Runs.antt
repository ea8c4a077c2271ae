-- No run of a ring leads to two leaders.
use Rattle.std.proofs.Common.{◌≡◌, ◌≢◌, ℕ, zero, suc, ◌+◌, ◌<◌, ◌≤◌, ◌==◌, cond, inl, inr, Bool, Some, List, [], ◌∷◌}
use Rattle.std.proofs.Common.{◌++◌, length, zero-add, refl, sym, ◌∙◌, ap, subst, arith}
use Rattle.std.specs.Prelude.{slice_get}
use Rattle.std.proofs.lemmas.Bool.{ne_eqb, eq-eqb, cases_lt, cases_eq}
use Rattle.std.proofs.lemmas.List.{take_all}
use Rattle.std.proofs.lemmas.Option.{slice_get_within}
use Rattle.ira_event.specs.declared.event.Event.{Event}
use Rattle.ira_event.specs.Log.{Log}
use Rattle.ira_event.specs.Logs.{EachLog}
use Rattle.ira_node.specs.declared.node_state.NodeState.{NodeState}
use Rattle.ira_node.specs.declared.phase.Phase.TheVariants.{Passive}
use Rattle.ira_node.specs.NodeState.{first_state, IsLeader}
use Rattle.ira_replay.specs.LocalRun.{LeadsTo, IsLocalRun}
use Rattle.ira_replay.proofs.Along.{leads_further}
use Rattle.ira_order.specs.Matching.{Matches}
use Rattle.ira_order.specs.Ring.{log_of, events_of, next}
use Rattle.ira_order.specs.Run.{Configuration, RingStep, AreLocalRuns}
use Rattle.ira_order.proofs.Ranks.{next_below}
use Rattle.ira_order.proofs.Converse.{Balanced, balanced_step, balanced_matches}
use Rattle.ira_order.proofs.Acyclic.{before_within}
use Rattle.ira_safety.specs.OneLeader.{IsIn}
use Rattle.ira_safety.specs.Reaches.{Reaches, beginning, NoRunHasTwoLeaders, LeadersOfRunsAreAlone}
use Rattle.ira_safety.proofs.Leaders.{others_at_a_cut}

-- what each node did leads it to its state, and the links hold what was sent and not yet received
record Made (n : ℕ) (initiators : ℕ → Bool) (past : ℕ → List Event) (c : Configuration) : Type 0 where
  pub leads : (i : ℕ) → i < n → LeadsTo n (first_state (initiators i)) (past i) (c.state i)
  pub balanced : Balanced n past c.link

-- one event of node i more
more_of : (ℕ → List Event) → ℕ → Event → ℕ → List Event
more_of past i e j = cond (i == j) (past j ++ e ∷ []) (past j)

more_here : (past : ℕ → List Event) (i : ℕ) (e : Event) → more_of past i e i ≡ past i ++ e ∷ []
unfolding more_of
more_here past i e = rw (eq-eqb i i refl) refl

more_there : (past : ℕ → List Event) (i : ℕ) (e : Event) (j : ℕ) → j ≢ i → more_of past i e j ≡ past j
unfolding more_of
more_there past i e j ne = rw (ne_eqb i j (λ q. ne (sym q))) refl

module _ (n : ℕ) (two : 2 ≤ n) (initiators : ℕ → Bool) where
  made_more : (past : ℕ → List Event) (i : ℕ) (e : Event) (c d : Configuration) → Made n initiators past c
      → RingStep n i e c d → Made n initiators (more_of past i e) d
  made_more past i e c d made step = record {
    leads = λ j lj. elim (cases_eq j i) [
      | inl same ↦
          let P : ℕ → Type 0 = λ k. LeadsTo n (first_state (initiators k)) (more_of past i e k) (d.state k) in
          let Q : List Event → Type 0 = λ es. LeadsTo n (first_state (initiators i)) es (d.state i) in
          subst P (sym same) (subst Q (sym (more_here past i e))
          (leads_further n (first_state (initiators i)) (past i) (c.state i) e (d.state i) (made.leads i step.place)
          step.node))
      | inr ne ↦
          let P : NodeState → Type 0 = λ s. LeadsTo n (first_state (initiators j)) (past j) s in
          let Q : List Event → Type 0 = λ es. LeadsTo n (first_state (initiators j)) es (d.state j) in
          subst Q (sym (more_there past i e j ne)) (subst P (sym (step.others j lj ne)) (made.leads j lj))
    ];
    balanced = balanced_step n i past (more_of past i e) c.link d.link two step.place (more_there past i e)
        made.balanced e (more_here past i e) step.links;
  }

  made_all : (run : List (ℕ × Event)) (past : ℕ → List Event) (c d : Configuration) → Made n initiators past c
      → Reaches n c run d → (all : ℕ → List Event) × Made n initiators all d
  made_all [] past c d made reaches = (past, subst (Made n initiators past) (sym reaches) made)
  made_all (x ∷ run) past c d made reaches =
      made_all run (more_of past x.0 x.1) reaches.0 d (made_more past x.0 x.1 c reaches.0 made reaches.1) reaches.2

  made_first : Made n initiators (λ i. []) (beginning initiators)
  made_first = record { leads = λ i li. refl; balanced = λ k lk. refl }

-- ---- what the nodes did, as logs

logs_from : (ℕ → Log) → ℕ → ℕ → List Log
logs_from log first zero = []
logs_from log first (suc k) = log first ∷ logs_from log (suc first) k

length-logs_from : (log : ℕ → Log) (first k : ℕ) → length (logs_from log first k) ≡ k
unfolding logs_from
length-logs_from log first zero = refl
length-logs_from log first (suc k) = ap suc (length-logs_from log (suc first) k)

log_there : (log : ℕ → Log) (first k i : ℕ) → i < k → slice_get (logs_from log first k) i ≡ Some (log (first + i))
unfolding logs_from
log_there log first zero i l = absurd (omega arith)
log_there log first (suc k) zero l = (let same : first + 0 ≡ first = omega arith in ap (λ x. Some (log x)) (sym same))
log_there log first (suc k) (suc i) l = (let same : suc first + i ≡ first + suc i = omega arith in
    log_there log (suc first) k i (omega arith) ∙ ap (λ x. Some (log x)) same)

module _ (n : ℕ) (initiators : ℕ → Bool) (past : ℕ
    → List Event) (c : Configuration) (made : Made n initiators past c) where
  log : ℕ → Log
  log i = record { version = 1; nodes = n; place = i; initiator = initiators i; events = past i }

  logs : List Log
  logs = logs_from log 0 n

  many : length logs ≡ n
  unfolding logs
  many = length-logs_from log 0 n

  log_at : (i : ℕ) → i < n → slice_get logs i ≡ Some (log i)
  unfolding logs
  log_at i l = log_there log 0 n i l ∙ ap (λ x. Some (log x)) (zero-add i)

  log_is : (i : ℕ) (x : Log) → slice_get logs i ≡ Some x → (i < n) × (log i ≡ x)
  log_is i x at =
      let l : i < n = omega (arith, many, slice_get_within logs i x at) in
      let there = log_at i l in
      (l, (let same : log i ≡ x = cc in same))

  events_are : (i : ℕ) → i < n → log_of logs i ≡ past i
  unfolding log
  events_are i l = ap events_of (log_at i l)

  matches : Matches logs
  matches = balanced_matches logs c.link balanced
    where
      balanced : Balanced (length logs) (log_of logs) c.link
      balanced k lk =
          let l : k < n = omega (arith, many, lk) in
          rw (many, events_are k l, events_are (next n k) (next_below n k l)) (made.balanced k l)

  sizes : EachLog logs (λ _ x. x.nodes ≡ length logs)
  unfolding log
  sizes i x at = ap (λ (y : Log). y.nodes) (sym (log_is i x at).1) ∙ sym many

  local : AreLocalRuns logs
  unfolding log
  local i x at =
      let is = log_is i x at in
      subst IsLocalRun is.1 (c.state i, made.leads i is.0)

  is_at_end : (i : ℕ) → i < n → IsIn logs i (length (log_of logs i)) (c.state i)
  unfolding log
  is_at_end i l = record {
    log = log i;
    at = log_at i l;
    reached = rw (take_all (length (log_of logs i)) (past i) (omega (arith, ap length (events_are i l))))
        (made.leads i l);
  }

  others_at_the_end : (i j : ℕ) → i < n → j < n → i ≢ j → IsLeader (c.state i).phase → (c.state j).phase ≡ Passive
  others_at_the_end i j li lj ne leads =
      others_at_a_cut logs sizes matches local (λ k. length (log_of logs k)) (λ i a j b h held.
      (before_within logs i a j b h).1) i j (c.state j) ne
      (record { state = c.state i; is_in = is_at_end i li; leads = leads }) (is_at_end j lj)

pub leaders_of_runs_are_alone : LeadersOfRunsAreAlone
leaders_of_runs_are_alone n initiators run c reaches i j li lj ne leads = elim (cases_lt n 2) [
  | inl small ↦ absurd (omega arith)
  | inr two ↦
      let m = made_all n two initiators run (λ k. []) (beginning initiators) c (made_first n two initiators) reaches in
      others_at_the_end n initiators m.0 c m.1 i j li lj ne leads
]

pub no_run_has_two_leaders : NoRunHasTwoLeaders
no_run_has_two_leaders n initiators run c reaches i j li lj x y = elim (cases_eq i j) [
  | inl one ↦ one
  | inr ne ↦ (let passive = leaders_of_runs_are_alone n initiators run c reaches i j li lj ne x in
      absurd (rw passive at y))
]
