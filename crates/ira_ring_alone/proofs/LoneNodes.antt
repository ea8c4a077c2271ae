-- What a node of a lone run does next, or how it ends.
use Rattle.std.proofs.Common.{◌≡◌, ℕ, suc, Bool, true, false, ◌<◌, ◌≤◌, inl, inr, All, length-append, List, [], ◌∷◌}
use Rattle.std.proofs.Common.{Option, Some, None, ◌++◌, length, get_or, drop, refl, sym, ◌∙◌, subst, ap, arith}
use Rattle.std.specs.Prelude.{nat_lt, if◌then◌else◌}
use Rattle.std.proofs.lemmas.Bool.Decides.{nat_tests}
use Rattle.ira_event.specs.Limits.{MAX_NUMBER}
use Rattle.ira_event.specs.declared.load.Load.{Load}
use Rattle.ira_event.specs.declared.event.Event.{Event}
use Rattle.ira_event.specs.declared.event.Event.TheVariants.{Draw, Sent, Got, Yield}
use Rattle.ira_node.specs.declared.phase.Phase.{Phase}
use Rattle.ira_node.specs.declared.phase.Phase.TheVariants.{Choosing, Active, Passive, Leader, Yielding}
use Rattle.ira_node.specs.declared.node_state.NodeState.{NodeState}
use Rattle.ira_node.specs.declared.wanted.Wanted.TheVariants.{Draw as WantsDraw, Send, Receipt, Yield as WantsYield}
use Rattle.ira_node.specs.declared.wanted.Wanted.TheVariants.{Nothing}
use Rattle.ira_node.specs.Wanted.{wanted_of}
use Rattle.ira_node.specs.NodeStep.{NodeStep, HasStep}
use Rattle.ira_node.specs.NodeState.{free, IsLeader, Receives}
use Rattle.std.proofs.lemmas.Bool.{cases_lt}
use Rattle.ira_node.proofs.Wants.{wants_draw, wants_receipt, owing_leads_not, receiving_leads_not}
use Rattle.ira_ring_setup.specs.declared.node_end.NodeEnd.TheVariants.{Leader as Leads, DrawsSpent, LogFull, NoStep, Quiet}
use Rattle.ira_ring_alone.specs.LoneNode.{LoneNode, IsNext, HasNoNext, MakesOwn, MakesSending, GoesTo, drawn_by, after_event}

-- a node that is to yield, or that has nothing to do, leads
pub wants_yield : (term : ℕ) (phase : Phase) (owed : Option Load) → WantsYield ≡ wanted_of term phase owed
    → IsLeader phase
wants_yield term (Leader round id) owed h = tt
wants_yield term (Choosing round) None h = cc
wants_yield term (Active round id) None h = cc
wants_yield term Passive None h = cc
wants_yield term Yielding None h = cc
wants_yield term (Choosing round) (Some m) h = cc
wants_yield term (Active round id) (Some m) h = cc
wants_yield term Passive (Some m) h = cc
wants_yield term Yielding (Some m) h = cc

pub wants_nothing : (term : ℕ) (phase : Phase) (owed : Option Load) → Nothing ≡ wanted_of term phase owed
    → IsLeader phase
wants_nothing term (Leader round id) owed h = tt
wants_nothing term (Choosing round) None h = cc
wants_nothing term (Active round id) None h = cc
wants_nothing term Passive None h = cc
wants_nothing term Yielding None h = cc
wants_nothing term (Choosing round) (Some m) h = cc
wants_nothing term (Active round id) (Some m) h = cc
wants_nothing term Passive (Some m) h = cc
wants_nothing term Yielding (Some m) h = cc

-- the last term that a node counts is over for a leader that has nothing to do
pub ends_nothing : (term : ℕ) (phase : Phase) (owed : Option Load) → Nothing ≡ wanted_of term phase owed
    → MAX_NUMBER ≤ term
ends_nothing term (Leader round id) owed h = by_test (nat_lt term MAX_NUMBER) refl h
  where
    by_test : (b : Bool) → nat_lt term MAX_NUMBER ≡ b → Nothing ≡ (if b then WantsYield else Nothing)
        → MAX_NUMBER ≤ term
    by_test true less h = absurd cc
    by_test false less h = grind (arith, nat_tests)
ends_nothing term (Choosing round) None h = cc
ends_nothing term (Active round id) None h = cc
ends_nothing term Passive None h = cc
ends_nothing term Yielding None h = cc
ends_nothing term (Choosing round) (Some m) h = cc
ends_nothing term (Active round id) (Some m) h = cc
ends_nothing term Passive (Some m) h = cc
ends_nothing term Yielding (Some m) h = cc

pub choosing_leads_not : (s : NodeState) (term round : ℕ) → s ≡ free term (Choosing round) → ¬ (IsLeader s.phase)
choosing_leads_not s term round is l = let P : NodeState → Type 0 = λ x. IsLeader x.phase in subst P is l

no_number : (ids : List ℕ) → length ids ≡ 0 → ids ≡ []
no_number [] h = refl
no_number (x ∷ ids) h = absurd (omega arith)

pub no_load : (ms : List Load) → ¬ (0 < length ms) → ms ≡ []
no_load [] h = refl
no_load (x ∷ ms) h = absurd (h (omega arith))

pub first_load : (ms : List Load) (m : Load) → 0 < length ms → m ≡ get_or ms 0 m → (rest : List Load) × (ms ≡ m ∷ rest)
first_load [] m l h = absurd (omega arith)
first_load (x ∷ ms) m l h = (ms, cc)

-- ---- the next event, by what the state wants

pub next_draw : (n most terms : ℕ) (node : LoneNode) (id : ℕ) (rest : List ℕ) (after : NodeState)
    → WantsDraw ≡ wanted_of node.state.term node.state.phase node.state.owed → length node.events < most
    → node.ids ≡ id ∷ rest → NodeStep n node.state (Draw id) after
    → IsNext n most terms node (Draw id) after
next_draw n most terms node id rest after wants below_cap first step =
    let w : (round : ℕ) × (node.state ≡ free node.state.term (Choosing round)) =
    wants_draw node.state.term node.state.phase node.state.owed wants in
    record {
      not_last = λ l. choosing_leads_not node.state node.state.term w.0 w.1 l.0;
      below_cap = below_cap;
      step = step;
      first = ((rest, first), tt);
    }

pub next_got : (n most terms : ℕ) (node : LoneNode) (m : Load) (after : NodeState)
    → Receipt ≡ wanted_of node.state.term node.state.phase node.state.owed → length node.events < most
    → 0 < length node.input → m ≡ get_or node.input 0 m → NodeStep n node.state (Got m) after
    → IsNext n most terms node (Got m) after
next_got n most terms node m after wants below_cap some first step =
    let w : (node.state.owed ≡ None) × Receives node.state.phase =
    wants_receipt node.state.term node.state.phase node.state.owed wants in
    record {
      not_last = λ l. receiving_leads_not node.state.phase w.1 l.0;
      below_cap = below_cap;
      step = step;
      first = (tt, first_load node.input m some first);
    }

pub next_sent : (n most terms : ℕ) (node : LoneNode) (m : Load) (after : NodeState)
    → Send m ≡ wanted_of node.state.term node.state.phase node.state.owed → length node.events < most
    → NodeStep n node.state (Sent m) after → IsNext n most terms node (Sent m) after
next_sent n most terms node m after wants below_cap step =
    record {
      not_last = λ l. owing_leads_not node.state.term node.state.phase node.state.owed m wants l.0;
      below_cap = below_cap;
      step = step;
      first = (tt, tt);
    }

pub next_yield : (n most terms : ℕ) (node : LoneNode) (after : NodeState) → node.state.term < terms
    → length node.events < most → NodeStep n node.state Yield after → IsNext n most terms node Yield after
next_yield n most terms node after below below_cap step =
    record { not_last = λ l. omega (arith, below, l.1); below_cap = below_cap; step = step; first = (tt, tt) }

-- ---- no next event, by what the state wants

-- a leader in the last term has ended
pub leads_last : (n most terms : ℕ) (node : LoneNode) → IsLeader node.state.phase → terms ≤ node.state.term
    → HasNoNext n most terms node
leads_last n most terms node leads past = (Leads, (leads, past))

pub spent : (n most terms : ℕ) (node : LoneNode)
    → WantsDraw ≡ wanted_of node.state.term node.state.phase node.state.owed → length node.events < most
    → length node.ids ≡ 0 → HasNoNext n most terms node
spent n most terms node wants below_cap none =
    let w : (round : ℕ) × (node.state ≡ free node.state.term (Choosing round)) =
    wants_draw node.state.term node.state.phase node.state.owed wants in
    (DrawsSpent, (below_cap, (node.state.term, w.0, w.1), no_number node.ids none))

pub no_step : (n most terms : ℕ) (node : LoneNode) (m : Load)
    → Receipt ≡ wanted_of node.state.term node.state.phase node.state.owed → length node.events < most
    → 0 < length node.input → m ≡ get_or node.input 0 m → ¬ (HasStep n node.state (Got m)) → HasNoNext n most terms node
no_step n most terms node m wants below_cap some first none =
    let w : (node.state.owed ≡ None) × Receives node.state.phase =
    wants_receipt node.state.term node.state.phase node.state.owed wants in
    (NoStep m, (below_cap, w.0, w.1, first_load node.input m some first, none))

pub quiet : (n most terms : ℕ) (node : LoneNode) → Receipt ≡ wanted_of node.state.term node.state.phase node.state.owed
    → length node.events < most → ¬ (0 < length node.input) → HasNoNext n most terms node
quiet n most terms node wants below_cap none =
    let w : (node.state.owed ≡ None) × Receives node.state.phase =
    wants_receipt node.state.term node.state.phase node.state.owed wants in
    (Quiet, (below_cap, w.0, w.1, no_load node.input none))

-- ---- the same, as the code holds the parts of a node and its state

abbrev pub parts : NodeState → List ℕ → List Load → List Event → LoneNode
parts state ids input events = record { state = state; ids = ids; input = input; events = events }

pub makes_draw : (n most terms : ℕ) (state : NodeState) (ids : List ℕ) (input : List Load) (events : List Event)
    (node : LoneNode) (held after : NodeState) (id : ℕ) (rest : List ℕ) (pushed : List Event)
    → parts state ids input events ≡ node → held ≡ node.state → WantsDraw ≡ wanted_of held.term held.phase held.owed
    → length node.events < most
    → ids ≡ id ∷ rest → NodeStep n held (Draw id) after → pushed ≡ events ++ Draw id ∷ []
    → MakesOwn n most terms node (parts after rest input pushed) (Some after)
makes_draw n most terms state ids input events node held after id rest pushed is same wants below_cap first step more =
    let W : NodeState → Type 0 = λ x. WantsDraw ≡ wanted_of x.term x.phase x.owed in
    let S : NodeState → Type 0 = λ x. NodeStep n x (Draw id) after in
    let N : LoneNode → Type 0 = λ x. parts after rest input pushed ≡ after_event x (Draw id) after in (
      Draw id,
      λ m e. cc,
      next_draw n most terms node id rest after (subst W same wants) below_cap (sym (ap (λ (x : LoneNode). x.ids) is)
          ∙ first) (subst S same step),
      subst N is (rw (first, more) refl),
    )

pub makes_got : (n most terms : ℕ) (state : NodeState) (ids : List ℕ) (input : List Load) (events : List Event)
    (node : LoneNode) (held after : NodeState) (m : Load) (rest : List Load) (pushed : List Event)
    → parts state ids input events ≡ node → held ≡ node.state → Receipt ≡ wanted_of held.term held.phase held.owed
    → length node.events < most
    → 0 < length input → m ≡ get_or input 0 m → NodeStep n held (Got m) after → pushed ≡ events ++ Got m ∷ []
    → rest ≡ drop 1 input → MakesOwn n most terms node (parts after ids rest pushed) (Some after)
makes_got n most terms state ids input events node held after m rest pushed is same wants below_cap some first step more
    remainder =
    let W : NodeState → Type 0 = λ x. Receipt ≡ wanted_of x.term x.phase x.owed in
    let S : NodeState → Type 0 = λ x. NodeStep n x (Got m) after in
    let F : LoneNode → Type 0 = λ x. m ≡ get_or x.input 0 m in
    let N : LoneNode → Type 0 = λ x. parts after ids rest pushed ≡ after_event x (Got m) after in (
      Got m,
      λ k e. cc,
      next_got n most terms node m after (subst W same wants) below_cap
          (omega (arith, some, ap (λ (x : LoneNode). length x.input) is)) (subst F is first) (subst S same step),
      subst N is (rw (remainder, more) refl),
    )

pub makes_sending : (n most terms : ℕ) (state : NodeState) (ids : List ℕ) (input : List Load) (events : List Event)
    (node : LoneNode) (held after : NodeState) (m : Load) (pushed : List Event)
    → parts state ids input events ≡ node → held ≡ node.state → Send m ≡ wanted_of held.term held.phase held.owed
    → length node.events < most
    → NodeStep n held (Sent m) after → pushed ≡ events ++ Sent m ∷ []
    → MakesSending n most terms node (parts after ids input pushed) m
makes_sending n most terms state ids input events node held after m pushed is same wants below_cap step more =
    let W : NodeState → Type 0 = λ x. Send m ≡ wanted_of x.term x.phase x.owed in
    let S : NodeState → Type 0 = λ x. NodeStep n x (Sent m) after in
    let N : LoneNode → Type 0 = λ x. parts after ids input pushed ≡ after_event x (Sent m) after in (
      after,
      next_sent n most terms node m after (subst W same wants) below_cap (subst S same step),
      subst N is (rw more refl),
    )

pub draws_none : (n most terms : ℕ) (state : NodeState) (ids : List ℕ) (input : List Load) (events : List Event)
    (node : LoneNode) (held : NodeState) → parts state ids input events ≡ node → held ≡ node.state
    → WantsDraw ≡ wanted_of held.term held.phase held.owed → length node.events < most → length ids ≡ 0
    → HasNoNext n most terms node
draws_none n most terms state ids input events node held is same wants below_cap none =
    let W : NodeState → Type 0 = λ x. WantsDraw ≡ wanted_of x.term x.phase x.owed in
    spent n most terms node (subst W same wants) below_cap (omega (arith, none, ap (λ (x : LoneNode). length x.ids) is))

pub takes_none : (n most terms : ℕ) (state : NodeState) (ids : List ℕ) (input : List Load) (events : List Event)
    (node : LoneNode) (held : NodeState) (m : Load) → parts state ids input events ≡ node → held ≡ node.state
    → Receipt ≡ wanted_of held.term held.phase held.owed → length node.events < most → 0 < length input
    → m ≡ get_or input 0 m → ¬ (HasStep n held (Got m)) → HasNoNext n most terms node
takes_none n most terms state ids input events node held m is same wants below_cap some first none =
    let W : NodeState → Type 0 = λ x. Receipt ≡ wanted_of x.term x.phase x.owed in
    let S : NodeState → Type 0 = λ x. ¬ (HasStep n x (Got m)) in
    let F : LoneNode → Type 0 = λ x. m ≡ get_or x.input 0 m in
    no_step n most terms node m (subst W same wants) below_cap
    (omega (arith, some, ap (λ (x : LoneNode). length x.input) is)) (subst F is first) (subst S same none)

pub finds_none : (n most terms : ℕ) (state : NodeState) (ids : List ℕ) (input : List Load) (events : List Event)
    (node : LoneNode) (held : NodeState) → parts state ids input events ≡ node → held ≡ node.state
    → Receipt ≡ wanted_of held.term held.phase held.owed → length node.events < most → ¬ (0 < length input)
    → HasNoNext n most terms node
finds_none n most terms state ids input events node held is same wants below_cap none =
    let W : NodeState → Type 0 = λ x. Receipt ≡ wanted_of x.term x.phase x.owed in
    quiet n most terms node (subst W same wants) below_cap (λ l.
    none (omega (arith, l, ap (λ (x : LoneNode). length x.input) is)))

-- ---- a node that goes on

pub stopped : (n most terms k : ℕ) (first old new : LoneNode) (next : Option NodeState)
    → GoesTo n most terms k first old → MakesOwn n most terms old new next → next ≡ None
    → ((k : ℕ) × GoesTo n most terms k first new) × HasNoNext n most terms new
stopped n most terms k first old new (Some after) goes made none = cc
stopped n most terms k first old new None goes made none = (
  (k, subst (λ (x : LoneNode). GoesTo n most terms k first x) (sym made.1) goes),
  subst (HasNoNext n most terms) (sym made.1) made.0,
)

all_after_drop : (P : ℕ → Type 0) (e : Event) (ids : List ℕ) → All P ids → All P (drop (drawn_by e) ids)
all_after_drop P (Draw id) [] all = all
all_after_drop P (Draw id) (x ∷ xs) all = λ k d l. all (suc k) d (omega (arith, l))
all_after_drop P (Sent m) ids all = all
all_after_drop P (Got m) ids all = all
all_after_drop P Yield ids all = all

-- what is known after an event of its own
pub record IsFurther (n most terms : ℕ) (first old new : LoneNode) (after : NodeState) : Type 0 where
  pub goes : (k : ℕ) × GoesTo n most terms k first new
  pub state : after ≡ new.state
  pub ids : All (λ d. (1 ≤ d) × (d ≤ n)) new.ids
  pub longer : length old.events < length new.events

pub further : (n most terms k : ℕ) (first old new : LoneNode) (next : Option NodeState) (after : NodeState)
    → GoesTo n most terms k first old → All (λ d. (1 ≤ d) × (d ≤ n)) old.ids → MakesOwn n most terms old new next
    → next ≡ Some after → IsFurther n most terms first old new after
further n most terms k first old new None after goes ids made is = cc
further n most terms k first old new (Some t) after goes ids made is =
    let same : t ≡ after = cc in
    let P : List ℕ → Type 0 = All (λ d. (1 ≤ d) × (d ≤ n)) in
    record {
      goes = (suc k, (old, goes, (t, made)));
      state = sym same ∙ sym (ap (λ (x : LoneNode). x.state) made.3);
      ids = subst P (sym (ap (λ (x : LoneNode). x.ids) made.3))
          (all_after_drop (λ d. (1 ≤ d) × (d ≤ n)) made.0 old.ids ids);
      longer = omega (arith, ap (λ (x : LoneNode). length x.events) made.3, length-append old.events (made.0 ∷ []));
    }

full_by_phase : (n most terms : ℕ) (node : LoneNode) (phase : Phase) → node.state.phase ≡ phase
    → most ≤ length node.events → HasNoNext n most terms node
full_by_phase n most terms node (Leader round id) is full = elim (cases_lt node.state.term terms) [
  | inl below ↦ (LogFull, (λ l. omega (arith, below, l.1), full))
  | inr past ↦ (Leads, (subst (λ (x : Phase). IsLeader x) (sym is) tt, omega arith))
]
full_by_phase n most terms node (Choosing round) is full =
    (LogFull, (λ l. subst (λ (x : Phase). IsLeader x) is l.0, full))
full_by_phase n most terms node (Active round id) is full =
    (LogFull, (λ l. subst (λ (x : Phase). IsLeader x) is l.0, full))
full_by_phase n most terms node Passive is full = (LogFull, (λ l. subst (λ (x : Phase). IsLeader x) is l.0, full))
full_by_phase n most terms node Yielding is full = (LogFull, (λ l. subst (λ (x : Phase). IsLeader x) is l.0, full))

-- a node whose log is full has ended
pub full_ends : (n most terms : ℕ) (node : LoneNode) → most ≤ length node.events → HasNoNext n most terms node
full_ends n most terms node full = full_by_phase n most terms node node.state.phase refl full
