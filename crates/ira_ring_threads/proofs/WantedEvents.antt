-- What a node wants, and what is known of it when it ends.
use Rattle.std.proofs.Common.{◌≡◌, ◌<◌, ◌≤◌, ℕ, true, false, ◌&&◌, List, ◌∷◌, suc, None, sym, ◌∙◌, ap, subst, arith}
use Rattle.std.specs.Prelude.{IsTrue}
use Rattle.std.specs.List.{All}
use Rattle.std.proofs.lemmas.Bool.Decides.{nat_tests}
use Rattle.ira_event.specs.Limits.{MAX_NUMBER}
use Rattle.ira_event.specs.declared.load.Load.{Load}
use Rattle.ira_event.specs.declared.event.Event.{Event}
use Rattle.ira_event.specs.Event.{is_number, is_load, is_of_version}
use Rattle.ira_event.proofs.Numerals.{and_parts}
use Rattle.ira_event.specs.Log.{Log}
use Rattle.ira_event.specs.declared.log_head.LogHead.{LogHead}
use Rattle.ira_event.specs.LogText.{head_of}
use Rattle.ira_node.specs.declared.wanted.Wanted.TheVariants.{Draw as WantsDraw, Send, Receipt}
use Rattle.ira_node.specs.declared.node_state.NodeState.{NodeState}
use Rattle.ira_node.specs.NodeState.{first_state, Receives, is_phase, is_debt, is_state}
use Rattle.ira_node.specs.NodeStep.{HasStep}
use Rattle.ira_node.specs.Wanted.{wanted_of}
use Rattle.ira_node.proofs.Wants.{wants_draw, wants_receipt, wants_send, receiving_leads_not}
use Rattle.ira_replay.specs.LocalRun.{LeadsTo}
use Rattle.ira_ring_setup.specs.Terms.{version_of, IsLastLeader, YieldsBelow}
use Rattle.ira_event.specs.Messages.{drawn}
use Rattle.ira_ring_setup.specs.FullRun.{BeginsWith}
use Rattle.ira_ring_setup.specs.ShownEnd.{HasToDraw}
use Rattle.ira_ring_setup.specs.Recording.{EndsAs, IsRecorded}
use Rattle.ira_ring_setup.specs.declared.node_end.NodeEnd.{NodeEnd}
use Rattle.ira_ring_setup.proofs.Choosing.{choosing_no_leader}
use Rattle.ira_ring_threads.specs.declared.record_fault.RecordFault.{RecordFault}
use Rattle.ira_ring_threads.specs.declared.record_fault.RecordFault.TheVariants.{NoStep, OtherVersion}
use Rattle.ira_ring_threads.specs.Recorder.{Recorder, IsRecorder, AreOfOneNode, RecordFaultOf}

-- a node that is to draw chooses
pub choosing : (r s : NodeState) → r ≡ s → WantsDraw ≡ wanted_of r.term r.phase r.owed → HasToDraw s
choosing r s same h =
    let chooses = wants_draw r.term r.phase r.owed h in
    subst HasToDraw same (r.term, chooses.0, chooses.1)

-- a node that is to receive owes nothing
pub waiting : (r s : NodeState) → r ≡ s → Receipt ≡ wanted_of r.term r.phase r.owed → (s.owed ≡ None) × Receives s.phase
waiting r s same h = let P : NodeState → Type 0 = λ x. (x.owed ≡ None) × Receives x.phase in
    subst P same (wants_receipt r.term r.phase r.owed h)

-- a node that is to send owes a load whose numbers a record may hold
pub owes_recordable : (r s : NodeState) (l : Load) → r ≡ s → Send l ≡ wanted_of r.term r.phase r.owed
    → is_state s ≡ true → is_load l ≡ true
owes_recordable r s l same h numbers =
    let owed : is_debt r.owed ≡ is_load l = ap is_debt (wants_send r.term r.phase r.owed l h) in
    let all = subst (λ (x : NodeState). is_state x ≡ true) (sym same) numbers in
    sym owed ∙ (and_parts (is_number r.term && is_phase r.phase) (is_debt r.owed) all).1

-- neither of the two leads
pub choosing_leads_not : (terms : ℕ) (s : NodeState) → HasToDraw s → ¬ (IsLastLeader terms s)
choosing_leads_not terms s h leads = choosing_no_leader h.0 h.1 s h.2 leads.0

pub waiting_leads_not : (terms : ℕ) (s : NodeState) → Receives s.phase → ¬ (IsLastLeader terms s)
waiting_leads_not terms s waits leads = receiving_leads_not s.phase waits leads.0

-- an event of the log's version that has a step is recorded
pub no_fault : (r : Recorder) (e : Event) (f : RecordFault) → HasStep r.log.nodes r.state e
    → is_of_version r.log.version e ≡ true → RecordFaultOf r e f → ⊥
no_fault r e NoStep step of_version fault = fault step
no_fault r e OtherVersion step of_version fault = let other = fault.1 in absurd cc

not_true : IsTrue false → ⊥
not_true h = cc

pub has_room : (count most cap : ℕ) → count ≤ most → most ≡ cap → (count ≡ most → IsTrue false) → count < cap
has_room count most cap few same full = let unequal : ¬ (count ≡ most) = λ e. not_true (full e) in
    omega (arith, few, same, unequal)

pub has_step : (n : ℕ) (s t : NodeState) (e : Event) → s ≡ t → HasStep n s e → HasStep n t e
has_step n s t e same h = (let P : NodeState → Type 0 = λ x. HasStep n x e in subst P same h)

pub all_first : (P : ℕ → Type 0) (xs ys : List ℕ) (x : ℕ) → xs ≡ x ∷ ys → All P xs → P x
all_first P xs ys x first h = (let k = rw first at h in k 0 0 (omega arith))

pub all_rest : (P : ℕ → Type 0) (xs ys : List ℕ) (x : ℕ) → xs ≡ x ∷ ys → All P xs → All P ys
all_rest P xs ys x first h = (let k = rw first at h in λ i d low. k (suc i) d (omega (arith, low)))

pub id_is_number : (id : ℕ) → 1 ≤ id → id ≤ MAX_NUMBER → is_number id ≡ true
id_is_number id low high = grind (arith, nat_tests)

-- the log goes on as that of the same node
pub one_node : (a b c : Log) (es : List Event) → b ≡ record a { events = es } → AreOfOneNode a c → AreOfOneNode b c
one_node a b c es h k = ap head_of h ∙ k

pub same_ring : (a b : Log) → AreOfOneNode a b → a.nodes ≡ b.nodes
same_ring a b one = ap (λ (head : LogHead). head.nodes) one

pub same_version : (a b : Log) → AreOfOneNode a b → a.version ≡ b.version
same_version a b one = ap (λ (head : LogHead). head.version) one

-- what a recorder of this node says when the node has ended
pub recorded : (r q : Recorder) (log : Log) (how : NodeEnd) (ids : List ℕ) (terms : ℕ) → IsRecorder r
    → AreOfOneNode r.log q.log → q.log.version ≡ version_of q.log.nodes terms → r.cap ≡ q.cap → log ≡ r.log
    → BeginsWith ids (drawn r.log.events) → YieldsBelow terms r.log.nodes (first_state r.log.initiator) r.log.events
    → EndsAs q.log.nodes q.cap terms ids r.state r.log.events how
    → IsRecorded q.log.nodes q.log.place q.log.initiator ids q.cap terms log how
recorded r q log how ids terms valid one version cap same draws below end =
    let nodes : r.log.nodes ≡ q.log.nodes = ap (λ (head : LogHead). head.nodes) one in
    let kind : r.log.initiator ≡ q.log.initiator = ap (λ (head : LogHead). head.initiator) one in
    let leads_on : LeadsTo q.log.nodes (first_state q.log.initiator) r.log.events r.state =
    rw (← nodes, ← kind) valid.leads in
    let yields_on : YieldsBelow terms q.log.nodes (first_state q.log.initiator) r.log.events =
    rw (← nodes, ← kind) below in
    rw same (record {
      version = same_version r.log q.log one ∙ version;
      nodes = nodes;
      place = ap (λ (head : LogHead). head.place) one;
      kind = kind;
      state = r.state;
      run = leads_on;
      count = omega (arith, valid.count, cap);
      draws = draws;
      yields = yields_on;
      end = end;
    })
