-- A full run goes nowhere past logs that are ended.
use Rattle.std.proofs.Common.{◌≡◌, ℕ, ◌<◌, ◌≤◌, inl, inr, List, [], ◌∷◌, ◌++◌, length, refl, sym, ◌∙◌, subst, ap}
use Rattle.std.proofs.Common.{append-nil, append_assoc}
use Rattle.std.proofs.lemmas.List.{append_cancel_left}
use Rattle.std.proofs.lemmas.List.Elements.{filter_map-append}
use Rattle.ira_event.specs.declared.load.Load.{Load}
use Rattle.ira_event.specs.declared.event.Event.{Event}
use Rattle.ira_event.specs.declared.event.Event.TheVariants.{Draw, Sent, Got, Yield}
use Rattle.ira_node.specs.declared.node_state.NodeState.{NodeState}
use Rattle.ira_node.specs.NodeState.{first_state}
use Rattle.ira_node.specs.NodeStep.{NodeStep}
use Rattle.ira_replay.specs.Laws.{AreAlike}
use Rattle.ira_replay.specs.LocalRun.{LeadsTo}
use Rattle.ira_replay.proofs.Alike.{one_end, leads_split, steps_alike}
use Rattle.ira_replay.proofs.Along.{leads_further}
use Rattle.ira_order.specs.Ring.{prev}
use Rattle.ira_order.specs.Matching.{receipt, sent, got}
use Rattle.ira_order.specs.Run.{Configuration, LinkStep, RingStep, event_of}
use Rattle.std.proofs.lemmas.Bool.{cases_eq}
use Rattle.ira_order.proofs.Runs.{next_prev, prev_below}
use Rattle.ira_order.proofs.Converse.{Balanced, balanced_step}
use Rattle.ira_ring_setup.specs.Setup.{Setup, is_initiator, node_draws}
use Rattle.ira_ring_setup.specs.Terms.{IsLastLeader}
use Rattle.ira_event.specs.Messages.{drawing, drawn}
use Rattle.ira_ring_setup.specs.FullRun.{opening_of, events_at, HasEvent, yields, owes, chooses, receives}
use Rattle.ira_ring_setup.specs.FullRun.{CanStep, Walks, BeginsWith, IsFullRun}
use Rattle.ira_ring_setup.proofs.Beginnings.{next_same, begin_each_other, sends_begin}
use Rattle.ira_ring_setup.proofs.Walks.{own_more, other_more, walk_leads, walk_balanced}

-- node i made these events, and these loads were sent to it: it drew the first of its IDs, it
-- received the first of the loads, and it can't go on
pub record IsEnded (s : Setup) (i : ℕ) (events : List Event) (input : List Load) : Type 0 where
  pub state : NodeState
  pub leads : LeadsTo s.nodes (first_state (is_initiator s i)) events state
  pub draws : BeginsWith (node_draws s i) (drawn events)
  pub receipts : BeginsWith input (got events)
  pub stays : ¬ (IsLastLeader s.terms state) → length events < s.cap
      → ¬ (HasEvent s.nodes s.terms (node_draws s i) state events receipts.0)

-- that of each node, where these are their logs
abbrev pub AreEnded : Setup → (ℕ → List Event) → Type 0
AreEnded s logs = (i : ℕ) → i < s.nodes → IsEnded s i (logs i) (sent (logs (prev s.nodes i)))

-- ---- one event

-- a node that can make an event can make it where more loads wait, too
has_event_still : (n terms : ℕ) (ids : List ℕ) (state : NodeState) (events : List Event) (input more : List Load)
    → HasEvent n terms ids state events input → HasEvent n terms ids state events (input ++ more)
has_event_still n terms ids state events input more (yields leads below) = yields leads below
has_event_still n terms ids state events input more (owes m o) = owes m o
has_event_still n terms ids state events input more (chooses term round is unused) = chooses term round is unused
has_event_still n terms ids state events input more (receives m others is step) =
    receives m (others ++ more) (ap (λ (x : List Load). x ++ more) is) step

-- a load that is received is the first on the link
taken_first : (n i : ℕ) (e : Event) (old new : ℕ → List Load) (m : Load) → LinkStep n i e old new → e ≡ Got m
    → BeginsWith (old (prev n i)) (m ∷ [])
taken_first n i e old new m step is =
    let P : Event → Type 0 = λ x. LinkStep n i x old new in
    let taken : LinkStep n i (Got m) old new = subst P is step in
    (new (prev n i), taken.0)

-- node i made the events past of its log, and has these loads before it; it can make an event more
module _ (s : Setup) (i : ℕ) (past log : List Event) (state : NodeState) (link writer sendings : List Load)
    (leads : LeadsTo s.nodes (first_state (is_initiator s i)) past state)
    (balanced : got past ++ link ≡ writer)
    (more : BeginsWith sendings writer)
    (ended : IsEnded s i log sendings)
    (not_last : ¬ (IsLastLeader s.terms state))
    (below_cap : length past < s.cap)
    (event : HasEvent s.nodes s.terms (node_draws s i) state past link) where
  -- so they are not all of the log
  not_all : log ≡ past → ⊥
  not_all same =
      let P : List Event → Type 0 = λ es. IsEnded s i es sendings in
      let here : IsEnded s i past sendings = subst P same ended in
      let state_is : here.state ≡ state =
      one_end s.nodes (first_state (is_initiator s i)) past here.state state here.leads leads in
      let left_is : here.receipts.0 ≡ link ++ more.0 =
      append_cancel_left (got past) here.receipts.0 (link ++ more.0)
      (sym here.receipts.1 ∙ more.1 ∙ ap (λ (x : List Load). x ++ more.0) (sym balanced)
      ∙ append_assoc (got past) link more.0) in
      let Q : NodeState → Type 0 = λ x. ¬ (IsLastLeader s.terms x) in
      let R : NodeState → Type 0 = λ x. HasEvent s.nodes s.terms (node_draws s i) x past (link ++ more.0) in
      let S : List Load → Type 0 = λ x. HasEvent s.nodes s.terms (node_draws s i) here.state past x in
      here.stays (subst Q (sym state_is) not_last) below_cap
      (subst S (sym left_is) (subst R (sym state_is)
      (has_event_still s.nodes s.terms (node_draws s i) state past link more.0 event)))

  -- the next event of the log is of the same kind
  alike : (e f : Event) (rest : List Event) (after : NodeState) → NodeStep s.nodes state e after
      → log ≡ past ++ f ∷ rest → AreAlike e f
  alike e f rest after step is =
      let P : List Event → Type 0 = λ es. LeadsTo s.nodes (first_state (is_initiator s i)) es ended.state in
      let parts = leads_split s.nodes (first_state (is_initiator s i)) past (f
      ∷ rest) ended.state (subst P is ended.leads) in
      let state_is : parts.0 ≡ state =
      one_end s.nodes (first_state (is_initiator s i)) past parts.0 state parts.1 leads in
      let Q : NodeState → Type 0 = λ x. NodeStep s.nodes x f parts.2.0 in
      steps_alike s.nodes state e f after parts.2.0 step (subst Q state_is parts.2.1)

  same_draw : (d c : ℕ) (rest : List Event) → BeginsWith (node_draws s i) (drawn (past ++ Draw d ∷ []))
      → log ≡ past ++ Draw c ∷ rest → d ≡ c
  same_draw d c rest draws is =
      let a : node_draws s i ≡ drawn past ++ d ∷ draws.0 =
      draws.1 ∙ ap (λ (x : List ℕ). x ++ draws.0) (filter_map-append drawing past (Draw d ∷ []))
      ∙ append_assoc (drawn past) (d ∷ []) draws.0 in
      let b : node_draws s i ≡ drawn past ++ c ∷ (drawn rest ++ ended.draws.0) =
      ended.draws.1 ∙ ap (λ (x : List Event). drawn x ++ ended.draws.0) is
      ∙ ap (λ (x : List ℕ). x ++ ended.draws.0) (filter_map-append drawing past (Draw c ∷ rest))
      ∙ append_assoc (drawn past) (c ∷ drawn rest) ended.draws.0 in
      next_same (drawn past) draws.0 (drawn rest ++ ended.draws.0) d c (sym a ∙ b)

  same_receipt : (m k : Load) (rest : List Event) → BeginsWith link (m ∷ []) → log ≡ past ++ Got k ∷ rest → m ≡ k
  same_receipt m k rest first is =
      let a : sendings ≡ got past ++ m ∷ (first.0 ++ more.0) =
      more.1 ∙ ap (λ (x : List Load). x ++ more.0) (sym balanced ∙ ap (λ (x : List Load). got past ++ x) first.1)
      ∙ append_assoc (got past) (m ∷ first.0) more.0 in
      let b : sendings ≡ got past ++ k ∷ (got rest ++ ended.receipts.0) =
      ended.receipts.1 ∙ ap (λ (x : List Event). got x ++ ended.receipts.0) is
      ∙ ap (λ (x : List Load). x ++ ended.receipts.0) (filter_map-append receipt past (Got k ∷ rest))
      ∙ append_assoc (got past) (k ∷ got rest) ended.receipts.0 in
      next_same (got past) (first.0 ++ more.0) (got rest ++ ended.receipts.0) m k (sym a ∙ b)

  -- it is the same event
  same_event : (e f : Event) (rest : List Event) → AreAlike e f → BeginsWith (node_draws s i) (drawn (past ++ e ∷ []))
      → ((m : Load) → e ≡ Got m → BeginsWith link (m ∷ [])) → log ≡ past ++ f ∷ rest → e ≡ f
  same_event (Draw d) (Draw c) rest both draws first is = ap Draw (same_draw d c rest draws is)
  same_event (Sent m) (Sent k) rest both draws first is = ap Sent both
  same_event (Got m) (Got k) rest both draws first is = ap Got (same_receipt m k rest (first m refl) is)
  same_event (Draw d) (Sent k) rest both draws first is = absurd both
  same_event (Draw d) (Got k) rest both draws first is = absurd both
  same_event (Sent m) (Draw c) rest both draws first is = absurd both
  same_event (Sent m) (Got k) rest both draws first is = absurd both
  same_event (Got m) (Draw c) rest both draws first is = absurd both
  same_event (Got m) (Sent k) rest both draws first is = absurd both
  same_event Yield Yield rest both draws first is = refl
  same_event Yield (Draw c) rest both draws first is = absurd both
  same_event Yield (Sent k) rest both draws first is = absurd both
  same_event Yield (Got k) rest both draws first is = absurd both
  same_event (Draw d) Yield rest both draws first is = absurd both
  same_event (Sent m) Yield rest both draws first is = absurd both
  same_event (Got m) Yield rest both draws first is = absurd both

  held_on : (e : Event) (after : NodeState) (rest : List Event) → NodeStep s.nodes state e after
      → BeginsWith (node_draws s i) (drawn (past ++ e ∷ [])) → ((m : Load) → e ≡ Got m → BeginsWith link (m ∷ []))
      → log ≡ past ++ rest → BeginsWith log (past ++ e ∷ [])
  held_on e after [] step draws first is = absurd (not_all (is ∙ append-nil past))
  held_on e after (f ∷ rest) step draws first is =
      let same : e ≡ f = same_event e f rest (alike e f rest after step is) draws first is in
      (rest, is ∙ ap (λ (x : Event). past ++ x ∷ rest) (sym same) ∙ sym (append_assoc past (e ∷ []) rest))

-- ---- a walk

-- the events past, which led to this configuration, are the first of these logs
record IsHeld (s : Setup) (logs : ℕ → List Event) (past : List (ℕ × Event)) (c : Configuration) : Type 0 where
  leads : (i : ℕ) → i < s.nodes → LeadsTo s.nodes (first_state (is_initiator s i)) (events_at past i) (c.state i)
  balanced : Balanced s.nodes (events_at past) c.link
  begins : (i : ℕ) → i < s.nodes → BeginsWith (logs i) (events_at past i)

held_more : (s : Setup) (logs : ℕ → List Event) (past : List (ℕ × Event)) (c b : Configuration) (i : ℕ) (e : Event)
    → 2 ≤ s.nodes → AreEnded s logs → IsHeld s logs past c → CanStep s past c i → RingStep s.nodes i e c b
    → BeginsWith (node_draws s i) (drawn (events_at (past ++ (i, e) ∷ []) i)) → IsHeld s logs (past ++ (i, e) ∷ []) b
held_more s logs past c b i e two ended held can step draws =
    let n : ℕ = s.nodes in
    let l : i < s.nodes = step.place in
    let p : prev s.nodes i < s.nodes = prev_below s.nodes i l in
    let own : events_at (past ++ (i, e) ∷ []) i ≡ events_at past i ++ e ∷ [] = own_more past i i e refl in
    let link : got (events_at past i) ++ c.link (prev s.nodes i) ≡ sent (events_at past (prev s.nodes i)) =
    ap (λ (x : ℕ). got (events_at past x) ++ c.link (prev s.nodes i)) (sym (next_prev s.nodes i l))
    ∙ held.balanced (prev s.nodes i) p in
    let P : List Event → Type 0 = λ es. BeginsWith (node_draws s i) (drawn es) in
    let begins : BeginsWith (logs i) (events_at past i ++ e ∷ []) =
    held_on s i (events_at past i) (logs i) (c.state i) (c.link (prev s.nodes i))
    (sent (events_at past (prev s.nodes i))) (sent (logs (prev s.nodes i)))
    (held.leads i l) link (sends_begin (logs (prev s.nodes i)) (events_at past (prev s.nodes i))
    (held.begins (prev s.nodes i) p)) (ended i l) can.not_last can.below_cap can.event
    e (b.state i) (held.begins i l).0 step.node (subst P own draws) (λ m is.
    taken_first s.nodes i e c.link b.link m step.links is) (held.begins i l).1 in
    record {
      leads = λ j lj. elim (cases_eq i j) [
        | inl same ↦
            let Q : List Event → Type 0 = λ es. LeadsTo s.nodes (first_state (is_initiator s j)) es (b.state j) in
            let R : ℕ → Type 0 = λ k. NodeStep s.nodes (c.state k) e (b.state k) in
            subst Q (sym (own_more past i j e same))
            (leads_further s.nodes (first_state (is_initiator s j)) (events_at past j) (c.state j) e (b.state j)
            (held.leads j lj) (subst R same step.node))
        | inr ne ↦
            let Q : List Event → Type 0 = λ es. LeadsTo s.nodes (first_state (is_initiator s j)) es (b.state j) in
            let R : NodeState → Type 0 = λ t. LeadsTo s.nodes (first_state (is_initiator s j)) (events_at past j) t in
            subst Q (sym (other_more past i j e ne))
            (subst R (sym (step.others j lj (λ q. ne (sym q)))) (held.leads j lj))
      ];
      balanced = balanced_step s.nodes i (events_at past) (events_at (past ++ (i, e) ∷ [])) c.link b.link two l (λ j ne.
          other_more past i j e (λ q. ne (sym q))) held.balanced e own step.links;
      begins = λ j lj. elim (cases_eq i j) [
        | inl same ↦
            let Q : List Event → Type 0 = λ es. BeginsWith (logs i) es in
            let R : ℕ → Type 0 = λ k. BeginsWith (logs k) (events_at (past ++ (i, e) ∷ []) k) in
            subst R same (subst Q (sym own) begins)
        | inr ne ↦
            let Q : List Event → Type 0 = λ es. BeginsWith (logs j) es in
            subst Q (sym (other_more past i j e ne)) (held.begins j lj)
      ];
    }

-- of the IDs that a node draws first, those that it drew earlier are the first
fewer_drawn : (ids : List ℕ) (es fs : List Event) → BeginsWith ids (drawn (es ++ fs)) → BeginsWith ids (drawn es)
fewer_drawn ids es fs h = (
  drawn fs ++ h.0,
  h.1 ∙ ap (λ (x : List ℕ). x ++ h.0) (filter_map-append drawing es fs)
      ∙ append_assoc (drawn es) (drawn fs) h.0,
)

held : (s : Setup) (logs : ℕ → List Event) (past : List (ℕ × Event)) (c : Configuration) (run : List (ℕ × Event))
    (d : Configuration) → 2 ≤ s.nodes → AreEnded s logs → IsHeld s logs past c → Walks s past c run d
    → ((i : ℕ) → i < s.nodes → BeginsWith (node_draws s i) (drawn (events_at (past ++ run) i))) → (i : ℕ) → i < s.nodes
    → BeginsWith (logs i) (events_at (past ++ run) i)
held s logs past c [] d two ended so_far walk draws i l =
    let P : List (ℕ × Event) → Type 0 = λ xs. BeginsWith (logs i) (events_at xs i) in
    subst P (sym (append-nil past)) (so_far.begins i l)
held s logs past c (x ∷ run) d two ended so_far walk draws i l =
    let all : (past ++ x ∷ []) ++ run ≡ past ++ x ∷ run = append_assoc past (x ∷ []) run in
    let P : List (ℕ × Event) → Type 0 = λ xs. (j : ℕ) → j < s.nodes
    → BeginsWith (node_draws s j) (drawn (events_at xs j)) in
    let Q : List (ℕ × Event) → Type 0 = λ xs. BeginsWith (logs i) (events_at xs i) in
    let drawn_all : (j : ℕ) → j < s.nodes
    → BeginsWith (node_draws s j) (drawn (events_at ((past ++ x ∷ []) ++ run) j)) = subst P (sym all) draws in
    let R : List Event → Type 0 = λ es. BeginsWith (node_draws s x.0) (drawn es) in
    let here : BeginsWith (node_draws s x.0) (drawn (events_at (past ++ x ∷ []) x.0)) =
    fewer_drawn (node_draws s x.0) (events_at (past ++ x ∷ []) x.0) (events_at run x.0)
    (subst R (filter_map-append (event_of x.0) (past ++ x ∷ []) run) (drawn_all x.0 walk.1.1.place)) in
    subst Q all (held s logs (past ++ x ∷ []) walk.1.0 run d two ended
    (held_more s logs past c walk.1.0 x.0 x.1 two ended so_far walk.0 walk.1.1 here) walk.1.2 drawn_all i l)

-- ---- full runs

-- each log that is ended begins with what its node did in a full run
pub full_run_held : (s : Setup) (logs : ℕ → List Event) (run : List (ℕ × Event)) (end : Configuration) → 2 ≤ s.nodes
    → AreEnded s logs → IsFullRun s run end → (i : ℕ) → i < s.nodes → BeginsWith (logs i) (events_at run i)
full_run_held s logs run end two ended full =
    held s logs [] (opening_of s) run end two ended (record {
      leads = λ i l. refl;
      balanced = λ k l. refl;
      begins = λ i l. (logs i, refl);
    }) full.walk full.draws

-- what the nodes did in a full run is ended
pub full_run_ended : (s : Setup) (run : List (ℕ × Event)) (end : Configuration) → 2 ≤ s.nodes → IsFullRun s run end
    → AreEnded s (events_at run)
full_run_ended s run end two full i l =
    let balanced : Balanced s.nodes (events_at run) end.link =
    walk_balanced s [] (opening_of s) run end two (λ k lk. refl) full.walk in
    record {
      state = end.state i;
      leads = walk_leads s [] (opening_of s) run end i l full.walk;
      draws = full.draws i l;
      receipts = (
        end.link (prev s.nodes i),
        sym (balanced (prev s.nodes i) (prev_below s.nodes i l))
            ∙ ap (λ (x : ℕ). got (events_at run x) ++ end.link (prev s.nodes i)) (next_prev s.nodes i l),
      );
      stays = λ not_last below_cap event. full.whole i l record
          { not_last = not_last; below_cap = below_cap; event = event };
    }

-- each node does the same in two full runs
pub full_runs_same : (s : Setup) (run other : List (ℕ × Event)) (end there : Configuration) → 2 ≤ s.nodes
    → IsFullRun s run end → IsFullRun s other there → (i : ℕ) → i < s.nodes → events_at run i ≡ events_at other i
full_runs_same s run other end there two full fully i l =
    begin_each_other (events_at run i) (events_at other i)
    (full_run_held s (events_at run) other there two (full_run_ended s run end two full) fully i l)
    (full_run_held s (events_at other) run end two (full_run_ended s other there two fully) full i l)
