-- The laws of leaders, from the courses of the nodes.
use Rattle.std.proofs.Common.{◌≡◌, ◌≢◌, ℕ, zero, suc, ◌<◌, inl, inr, Bool, true, Some, List, [], ◌∷◌}
use Rattle.std.proofs.Common.{length, refl, sym, ◌∙◌, ap, subst, arith}
use Rattle.std.specs.Prelude.{slice_get, slice_index}
use Rattle.std.specs.List.{list_all}
use Rattle.std.proofs.lemmas.Bool.{cases_eq}
use Rattle.std.proofs.lemmas.Option.{slice_get_cases, slice_get_within}
use Rattle.ira_event.specs.declared.load.Load.TheVariants.{Msg as Message, Reset}
use Rattle.ira_event.specs.declared.event.Event.{Event}
use Rattle.ira_event.specs.declared.event.Event.TheVariants.{Draw, Sent, Got, Yield}
use Rattle.ira_event.specs.Event.{is_of_version}
use Rattle.ira_event.specs.Log.{Log}
use Rattle.ira_event.specs.Logs.{EachLog}
use Rattle.ira_event.specs.Messages.{receipt}
use Rattle.ira_event.proofs.Numerals.{and_parts}
use Rattle.ira_node.specs.declared.node_state.NodeState.{NodeState}
use Rattle.ira_node.specs.declared.phase.Phase.TheVariants.{Passive}
use Rattle.ira_node.specs.NodeState.{IsLeader}
use Rattle.ira_order.specs.Cut.{HoldsAllBefore}
use Rattle.ira_order.specs.Matching.{Matches}
use Rattle.ira_order.specs.Ring.{log_of, events_of}
use Rattle.ira_order.specs.Run.{AreLocalRuns}
use Rattle.ira_safety.specs.OneLeader.{IsIn, Leads, OneLeaderInATerm, OneLeaderOfVersion1, OneLeaderAtACut}
use Rattle.ira_safety.specs.OneLeader.{OthersArePassive}
use Rattle.ira_safety.proofs.Course.{IsCourse, log_state, log_course, log_reached, first_term}
use Rattle.ira_safety.proofs.Cuts.{others_passive}
use Rattle.ira_safety.proofs.Steps.{resets_in, term_more}
use Rattle.ira_safety.proofs.Terms.{one_leader}

-- ---- events of version 1

all_at : (p : Event → Bool) (es : List Event) (a : ℕ) (e : Event) → list_all p es ≡ true → slice_get es a ≡ Some e
    → p e ≡ true
all_at p [] a e h at = cc
all_at p (x ∷ es) zero e h at = (let same : x ≡ e = cc in ap p (sym same) ∙ (and_parts (p x) (list_all p es) h).0)
all_at p (x ∷ es) (suc a) e h at = all_at p es a e (and_parts (p x) (list_all p es) h).1 at

-- none of them is the receipt of a reset
no_reset : (e : Event) → is_of_version 1 e ≡ true → resets_in (receipt e) ≡ 0
no_reset (Draw id) h = refl
no_reset (Sent l) h = refl
no_reset (Got (Message m)) h = refl
no_reset (Got (Reset k)) h = absurd cc
no_reset Yield h = refl

module _ (logs : List Log) (sizes : EachLog logs (λ _ log. log.nodes ≡ length logs)) (matches : Matches logs)
    (local : AreLocalRuns logs) where
  abbrev st : ℕ → ℕ → NodeState
  st i a = log_state (slice_get logs i) (local i) a

  courses : (i : ℕ) → IsCourse (length logs) (log_of logs i) (st i)
  courses i = log_course (slice_get logs i) (local i) (length logs) (sizes i)

  place : (i a : ℕ) → Leads logs i a → i < length logs
  place i a x = slice_get_within logs i x.is_in.log x.is_in.at

  state_is : (i a : ℕ) (s : NodeState) → IsIn logs i a s → s ≡ st i a
  state_is i a s x = log_reached (slice_get logs i) (local i) x.log a s x.at x.reached

  leads_there : (i a : ℕ) → Leads logs i a → IsLeader (st i a).phase
  leads_there i a x = subst (λ (s : NodeState). IsLeader s.phase) (state_is i a x.state x.is_in) x.leads

  pub one_in_a_term : (i a j b : ℕ) (x : Leads logs i a) (y : Leads logs j b) → x.state.term ≡ y.state.term → i ≡ j
  one_in_a_term i a j b x y same =
      one_leader logs st courses matches i a j b (place i a x) (place j b y) (leads_there i a x) (leads_there j b y)
      (sym (ap (λ (s : NodeState). s.term) (state_is i a x.state x.is_in)) ∙ same
      ∙ ap (λ (s : NodeState). s.term) (state_is j b y.state y.is_in))

  -- no node of version 1 comes to another term
  term_one : (i : ℕ) (log : Log) → slice_get logs i ≡ Some log → list_all (is_of_version 1) log.events ≡ true → (a : ℕ)
      → (st i a).term ≡ (st i 0).term
  term_one i log at held zero = refl
  term_one i log at held (suc a) = elim (slice_get_cases (log_of logs i) a).1 [
    | inl more ↦
        let here : slice_get log.events a ≡ Some more.0 = sym (ap (λ o. slice_get (events_of o) a) at) ∙ more.2 in
        let none = no_reset more.0 (all_at (is_of_version 1) log.events a more.0 held here) in
        omega (
          arith,
          term_one i log at held a,
          term_more (length logs) (st i a) more.0 (st i (suc a)) ((courses i).steps a more.0 more.2),
          none,
        )
    | inr end ↦ ap (λ (s : NodeState). s.term) ((courses i).ends a end.0) ∙ term_one i log at held a
  ]

  pub one_of_version_1 : EachLog logs (λ _ log. list_all (is_of_version 1) log.events ≡ true) → (i a j b : ℕ)
      → Leads logs i a → Leads logs j b → i ≡ j
  one_of_version_1 held i a j b x y =
      let s = term_one i x.is_in.log x.is_in.at (held i x.is_in.log x.is_in.at) a in
      let t = term_one j y.is_in.log y.is_in.at (held j y.is_in.log y.is_in.at) b in
      one_leader logs st courses matches i a j b (place i a x) (place j b y) (leads_there i a x) (leads_there j b y)
      (omega (
        arith,
        s,
        t,
        first_term (length logs) (log_of logs i) (st i) (courses i),
        first_term (length logs) (log_of logs j) (st j) (courses j),
      ))

  pub others_at_a_cut : (at : ℕ → ℕ) → HoldsAllBefore logs at → (i j : ℕ) (s : NodeState) → i ≢ j → Leads logs i (at i)
      → IsIn logs j (at j) s → s.phase ≡ Passive
  others_at_a_cut at consistent i j s ne x y =
      ap (λ (z : NodeState). z.phase) (state_is j (at j) s y)
      ∙ others_passive logs st courses matches at consistent i (place i (at i) x) (leads_there i (at i) x) j
      (slice_get_within logs j y.log y.at) ne

  pub one_at_a_cut : (at : ℕ → ℕ) → HoldsAllBefore logs at → (i j : ℕ) → Leads logs i (at i) → Leads logs j (at j)
      → i ≡ j
  one_at_a_cut at consistent i j x y = elim (cases_eq i j) [
    | inl one ↦ one
    | inr ne ↦ (let passive = others_at_a_cut at consistent i j y.state ne x y.is_in in absurd (rw passive at y.leads))
  ]

-- ---- the laws

pub one_leader_in_a_term : OneLeaderInATerm
one_leader_in_a_term logs are matches local = one_in_a_term logs are.sizes matches local

pub one_leader_of_version_1 : OneLeaderOfVersion1
one_leader_of_version_1 logs are first matches local =
    one_of_version_1 logs are.sizes matches local (λ i log at. rw (first i log at) at (are.valid i log at).held)

pub one_leader_at_a_cut : OneLeaderAtACut
one_leader_at_a_cut logs cut are matches local consistent =
    one_at_a_cut logs are.sizes matches local (slice_index cut) consistent.1

pub others_are_passive : OthersArePassive
others_are_passive logs cut are matches local consistent =
    others_at_a_cut logs are.sizes matches local (slice_index cut) consistent.1
