-- The positions that are found span by span are the candidates.
use mathlib.Core.Bool.{beq}
use Rattle.std.proofs.Common.{◌≡◌, ◌≤◌, ◌+◌, ◌⊎◌, inl, inr, ℕ, zero, suc, Bool, true, false, cond, not, ◌&&◌, ◌||◌, List, [], ◌∷◌, ◌++◌}
use Rattle.std.proofs.Common.{Option, Some, None, Result, Ok, Err, option_map, slice_get, All, map, length, filter}
use Rattle.std.proofs.Common.{append_assoc, length-append, drop, get_or, ◌<◌, refl, sym, ap, subst, ◌∙◌, arith, replicate}
use Rattle.std.specs.Prelude.{OnErr, is_err, is_some}
use Rattle.std.proofs.lemmas.Option.{slice_get-map}
use Rattle.std.proofs.lemmas.List.Elements.{All-get_or, filter-append}
use Rattle.std.proofs.lemmas.List.{length-map, drop_more, drop_all, length-drop, get_or_append_left, length_push}
use Rattle.std.proofs.lemmas.List.{map-append, append-nil, flat_map_more, length-replicate, replicate-append-replicate}
use Rattle.ira_event.specs.declared.load.Load.{Load}
use Rattle.ira_event.specs.declared.event.Event.{Event}
use Rattle.ira_event.specs.Log.{Log}
use Rattle.ira_event.specs.Messages.{sending}
use Rattle.ira_event.proofs.Pieces.{or_parts}
use Rattle.ira_node.specs.declared.node_state.NodeState.{NodeState}
use Rattle.ira_node.specs.declared.step_fault.StepFault.{StepFault}
use Rattle.ira_node.specs.declared.phase.Phase.{Phase}
use Rattle.ira_node.specs.declared.phase.Phase.TheVariants.{Choosing, Active, Passive, Leader, Yielding}
use Rattle.ira_node.specs.NodeState.{IsLeader, first_state}
use Rattle.ira_node.specs.NodeStep.{NodeStep, sends, draws, passes, gives_in, purges, meets, ties, wins, yields}
use Rattle.ira_node.specs.NodeStep.{restarts, comes_home}
use Rattle.ira_node.specs.StepAnswer.{advance_answer, answer}
use Rattle.ira_node.proofs.Answers.{step_exactly}
use Rattle.ira_pred.specs.ClauseAnswer.{compare_some_test, holds_test, id_of, is_active, is_choosing, is_leader}
use Rattle.ira_pred.specs.ClauseAnswer.{is_owing, is_passive, is_yielding}
use Rattle.ira_pred.specs.Formula.{Formula, always, leader, active, passive, choosing, yielding, owes, round, id, term}
use Rattle.ira_pred.specs.Formula.{both, either, names_debt, negated, names_round_or_term}
use Rattle.ira_replay.specs.StatesLeft.{states_left, advanced}
use Rattle.ira_cand.specs.Holding.{positions_passing}
use Rattle.ira_cand.specs.Candidates.{AreCandidates}
use Rattle.ira_cand.specs.declared.phase_span.PhaseSpan.{PhaseSpan}
use Rattle.ira_cand.specs.declared.stage.Stage.{Stage}
use Rattle.ira_cand.specs.Profile.{HasKind, IsProfile, TableAt, WalkedTo, answers_in, in_first_round, phase_in_first_round}
use Rattle.ira_cand.specs.Profile.{sample, some_load, stage, stages_in}
use Rattle.ira_cand.proofs.Passing.{are_candidates_as}

-- ---- a formula sees no more of a state than its stage, and whether something is owed

owing_seen : (o : Option Load) → is_owing o ≡ is_owing (cond (is_some o) (Some some_load) None)
owing_seen None = refl
owing_seen (Some m) = refl

pub seen : (f : Formula) (s : NodeState) → holds_test f s ≡ holds_test f (sample (stage s) (is_some s.owed))
seen always s = refl
seen leader s = refl
seen active s = refl
seen passive s = refl
seen choosing s = refl
seen yielding s = refl
seen owes s = owing_seen s.owed
seen (round rel n) s = refl
seen (id rel n) s = refl
seen (term rel n) s = refl
seen (both a b) s = ap (λ x. x && holds_test b s) (seen a s)
    ∙ ap (λ y. holds_test a (sample (stage s) (is_some s.owed)) && y) (seen b s)
seen (either a b) s = ap (λ x. x || holds_test b s) (seen a s)
    ∙ ap (λ y. holds_test a (sample (stage s) (is_some s.owed)) || y) (seen b s)
seen (negated a) s = ap not (seen a s)

-- the test of a formula at a stage
abbrev pub test_of : Formula → Stage → Bool → Bool
test_of f stage o = holds_test f (sample stage o)

-- ---- a formula that names neither a round nor a term tells no more stages apart than their kinds

-- no atom but a round sees more of a phase than is the same in the first round
same_kind : (p : Phase) → (is_leader (phase_in_first_round p) ≡ is_leader p)
    × (is_active (phase_in_first_round p) ≡ is_active p)
    × (is_passive (phase_in_first_round p) ≡ is_passive p) × (is_choosing (phase_in_first_round p) ≡ is_choosing p)
    × (is_yielding (phase_in_first_round p) ≡ is_yielding p) × (id_of (phase_in_first_round p) ≡ id_of p)
same_kind (Choosing r) = (refl, refl, refl, refl, refl, refl)
same_kind (Active r i) = (refl, refl, refl, refl, refl, refl)
same_kind Passive = (refl, refl, refl, refl, refl, refl)
same_kind (Leader r i) = (refl, refl, refl, refl, refl, refl)
same_kind Yielding = (refl, refl, refl, refl, refl, refl)

told_by_kind : (f : Formula) (at : Stage) (o : Bool) → names_round_or_term f ≡ false
    → test_of f (in_first_round at) o ≡ test_of f at o
told_by_kind always at o e = refl
told_by_kind leader at o e = (same_kind at.phase).0
told_by_kind active at o e = (same_kind at.phase).1
told_by_kind passive at o e = (same_kind at.phase).2
told_by_kind choosing at o e = (same_kind at.phase).3
told_by_kind yielding at o e = (same_kind at.phase).4
told_by_kind owes at o e = refl
told_by_kind (round rel n) at o e = cc
told_by_kind (id rel n) at o e = ap (λ x. compare_some_test x rel n) (same_kind at.phase).5
told_by_kind (term rel n) at o e = cc
told_by_kind (both a b) at o e =
    let apart = or_parts (names_round_or_term a) (names_round_or_term b) e in
    ap (λ x. x && test_of b (in_first_round at) o) (told_by_kind a at o apart.0)
    ∙ ap (λ y. test_of a at o && y) (told_by_kind b at o apart.1)
told_by_kind (either a b) at o e =
    let apart = or_parts (names_round_or_term a) (names_round_or_term b) e in
    ap (λ x. x || test_of b (in_first_round at) o) (told_by_kind a at o apart.0)
    ∙ ap (λ y. test_of a at o || y) (told_by_kind b at o apart.1)
told_by_kind (negated a) at o e = ap not (told_by_kind a at o e)

-- a formula that doesn't ask for debts gives one answer at a stage
pub free_as_owing : (f : Formula) (at : Stage) → names_debt f ≡ false → test_of f at false ≡ test_of f at true
free_as_owing always at e = refl
free_as_owing leader at e = refl
free_as_owing active at e = refl
free_as_owing passive at e = refl
free_as_owing choosing at e = refl
free_as_owing yielding at e = refl
free_as_owing owes at e = cc
free_as_owing (round rel n) at e = refl
free_as_owing (id rel n) at e = refl
free_as_owing (term rel n) at e = refl
free_as_owing (both a b) at e =
    let apart = or_parts (names_debt a) (names_debt b) e in
    ap (λ x. x && test_of b at false) (free_as_owing a at apart.0)
    ∙ ap (λ y. test_of a at true && y) (free_as_owing b at apart.1)
free_as_owing (either a b) at e =
    let apart = or_parts (names_debt a) (names_debt b) e in
    ap (λ x. x || test_of b at false) (free_as_owing a at apart.0)
    ∙ ap (λ y. test_of a at true || y) (free_as_owing b at apart.1)
free_as_owing (negated a) at e = ap not (free_as_owing a at e)

-- what is known of a kind is the answer of each stage of that kind
pub known_read : (f : Formula) (kinds : List Stage) (known : List (Bool × Bool)) → names_round_or_term f ≡ false
    → known ≡ map (answers_in f) kinds
    → (k : ℕ) (at : Stage) (pair : Bool × Bool) → slice_get kinds k ≡ Some (in_first_round at)
    → slice_get known k ≡ Some pair → pair ≡ answers_in f at
known_read f kinds known unnamed is k at pair here there =
    let read : slice_get known k ≡ Some (answers_in f (in_first_round at)) =
    ap (λ xs. slice_get xs k) is ∙ slice_get-map (answers_in f) kinds k ∙ ap (option_map (answers_in f)) here in
    let same : pair ≡ answers_in f (in_first_round at) = cc in
    same ∙ ap (λ x. (x, test_of f (in_first_round at) true)) (told_by_kind f at false unnamed)
    ∙ ap (λ y. (test_of f at false, y)) (told_by_kind f at true unnamed)

pub kind_of_span : (kinds : List Stage) (spans : List PhaseSpan) (k : ℕ) (r : PhaseSpan)
    → All (HasKind kinds) spans → k < length spans → r ≡ get_or spans k r
    → HasKind kinds r
kind_of_span kinds spans k r h lt is = subst (HasKind kinds) (sym is) (All-get_or (HasKind kinds) spans k r lt h)

-- ---- states that are walked by

module _ (n : ℕ) where
  pub walked_none : (s : NodeState) (es : List Event) → WalkedTo n s es [] s es
  walked_none s es = record {
    between = λ p. [];
    states = λ p. ap (λ q. states_left n (Some (q, s)) es) (omega arith);
    stages_are = λ p. refl;
    few = omega arith;
  }

  walked_one : (s t : NodeState) (e : Event) (es : List Event) → answer n s e ≡ Ok t
      → WalkedTo n s (e ∷ es) (stage s ∷ []) t es
  walked_one s t e es a = record {
    between = λ p. (p, s) ∷ [];
    states = λ p. ap (λ r. (p, s) ∷ states_left n (advanced p r) es) a;
    stages_are = λ p. refl;
    few = omega arith;
  }

  walked_on : (s t u : NodeState) (es mid left : List Event) (xs ys : List Stage) → WalkedTo n s es xs t mid
      → WalkedTo n t mid ys u left → WalkedTo n s es (xs ++ ys) u left
  walked_on s t u es mid left xs ys a b =
      let long = length-append xs ys in
      record {
        between = λ p. a.between p ++ b.between (p + length xs);
        states = λ p. a.states p ∙ ap (λ us. a.between p ++ us) (b.states (p + length xs)
            ∙ ap (λ q. b.between (p + length xs) ++ states_left n (Some (q, u)) left) (omega (arith, long)))
            ∙ sym (append_assoc (a.between p) (b.between (p + length xs)) _);
        stages_are = λ p. map-append (λ x. stage x.1) (a.between p) (b.between (p + length xs))
            ∙ ap (λ us. us ++ map (λ x. stage x.1) (b.between (p + length xs))) (a.stages_are p)
            ∙ ap (λ us. xs ++ us) (b.stages_are (p + length xs));
        few = let first = a.few in let second = b.few in omega (arith, first, second, long);
      }

-- the state after an event, as advancing to it tells
advanced_to : (r : Result (Unit {0}) StepFault) (after : NodeState) (x : Result NodeState StepFault)
    → advance_answer r after ≡ x → false ≡ is_err r → x ≡ Ok after
advanced_to (Ok _) after x e fine = sym e
advanced_to (Err f) after x e fine = cc

pub stays : (r : Result (Unit {0}) StepFault) (P : Type 0) → OnErr r P → true ≡ is_err r → P
stays (Ok _) P p fault = cc
stays (Err f) P p fault = p

-- no state comes after one whose next event has no step
pub not_advanced : (n m p : ℕ) (s after : NodeState) (e : Event) (left es : List Event)
    (r : Result (Unit {0}) StepFault) → left ≡ e ∷ es → m ≡ n → advance_answer r after ≡ answer m s e → true ≡ is_err r
    → states_left n (Some (p, s)) left ≡ (p, s) ∷ []
not_advanced n m p s after e left es (Ok _) is same a fault = cc
not_advanced n m p s after e left es (Err f) is same a fault = ap (states_left n (Some (p, s))) is
    ∙ ap (λ k. (p, s) ∷ states_left n (advanced p (answer k s e)) es) (sym same)
    ∙ ap (λ r. (p, s) ∷ states_left n (advanced p r) es) (sym a)

-- one state more is walked by
pub walked_more : (n m : ℕ) (s t u : NodeState) (es left rest : List Event) (xs : List Stage) (c : ℕ) (e : Event)
    (r : Result (Unit {0}) StepFault) → WalkedTo n s es (xs ++ replicate c (stage t)) t left → left ≡ e ∷ rest → m ≡ n
    → advance_answer r u ≡ answer m t e → false ≡ is_err r → WalkedTo n s es (xs ++ replicate (c + 1) (stage t)) u rest
walked_more n m s t u es left rest xs c e r walked is same a fine =
    subst (λ ys. WalkedTo n s es ys u rest)
    (append_assoc xs (replicate c (stage t)) (stage t ∷ [])
    ∙ ap (λ ys. xs ++ ys) (replicate-append-replicate c 1 (stage t)))
    (walked_on n s t u es left rest (xs ++ replicate c (stage t)) (stage t ∷ []) walked
    (subst (λ us. WalkedTo n t us (stage t ∷ []) u rest) (sym is) (walked_one n t u e rest
    (ap (λ k. answer k t e) (sym same) ∙ advanced_to r u (answer m t e) a fine))))

-- a span more
pub span_more : (spans all : List PhaseSpan) (span : PhaseSpan) (at : Stage) (c : ℕ) → all ≡ spans ++ span ∷ []
    → span.stage ≡ at → span.count ≡ c → stages_in spans ++ replicate c at ≡ stages_in all
span_more spans all span at c is same long =
    sym (ap stages_in is ∙ sym (flat_map_more (λ r. replicate r.count r.stage) [] spans span)
    ∙ ap (λ k. stages_in spans ++ replicate k span.stage) long ∙ ap (λ a. stages_in spans ++ replicate c a) same)

-- ---- what events tell of debts

-- a leader owes nothing
abbrev IsSound : NodeState → Type 0
IsSound s = IsLeader s.phase → s.owed ≡ None

-- a sound node owes something exactly where it sends, and is sound after each step
debt_told : (n : ℕ) (s : NodeState) (e : Event) (t : NodeState) → IsSound s → NodeStep n s e t
    → (is_some s.owed ≡ is_some (sending e)) × IsSound t
debt_told n s e t sound (sends l runs o ee et) = (rw (o, ee) refl, rw et (λ _. refl))
debt_told n s e t sound (draws k r i es ee lo hi et) = (rw (es, ee) refl, rw et (λ leads. absurd leads))
debt_told n s e t sound (passes k m es ee h et) = (rw (es, ee) refl, rw et (λ leads. absurd leads))
debt_told n s e t sound (gives_in k r i m es ee g h et) = (rw (es, ee) refl, rw et (λ leads. absurd leads))
debt_told n s e t sound (purges k r i m es ee g et) = (rw (es, ee) refl, rw et sound)
debt_told n s e t sound (meets k r i m es ee g h j et) = (rw (es, ee) refl, rw et (λ leads. absurd leads))
debt_told n s e t sound (ties k r i m es ee g h d j et) = (rw (es, ee) refl, rw et (λ _. refl))
debt_told n s e t sound (wins k r i m es ee g h d et) = (rw (es, ee) refl, rw et (λ _. refl))
debt_told n s e t sound (yields leads ee low et) = (rw ee (ap is_some (sound leads)), rw et (λ h. absurd h))
debt_told n s e t sound (restarts k h es ee below low et) = (rw (es, ee) refl, rw et (λ leads. absurd leads))
debt_told n s e t sound (comes_home k es ee low et) = (rw (es, ee) refl, rw et (λ _. refl))

first_sound : (b : Bool) → IsSound (first_state b)
first_sound true = λ leads. absurd leads
first_sound false = λ leads. absurd leads

-- the placed state number i, at position i + p, owes something exactly where the next event is a sending
abbrev Told : ℕ → ℕ → (ℕ × NodeState) → List Event → Type 0
Told p i x es = (x.0 ≡ i + p) × (e : Event) × (slice_get es i ≡ Some e) × (is_some x.1.owed ≡ is_some (sending e))

told_after : (n p : ℕ) (s : NodeState) (e : Event) (es : List Event) (r : Result NodeState StepFault) (i : ℕ)
    (d : ℕ × NodeState) → IsSound s → answer n s e ≡ r → suc i < length ((p, s) ∷ states_left n (advanced p r) es)
    → ((t : NodeState) (j : ℕ) → IsSound t → suc j < length (states_left n (Some (p + 1, t)) es)
    → Told (p + 1) j (get_or (states_left n (Some (p + 1, t)) es) j d) es)
    → Told p i (get_or ((p, s) ∷ states_left n (advanced p r) es) i d) (e ∷ es)
told_after n p s e es (Err f) i d sound a within on = absurd (omega (arith, within))
told_after n p s e es (Ok t) zero d sound a within on =
    (omega arith, e, refl, (debt_told n s e t sound ((step_exactly n s e (answer n s e) refl t).0 a)).0)
told_after n p s e es (Ok t) (suc j) d sound a within on =
    let next = (debt_told n s e t sound ((step_exactly n s e (answer n s e) refl t).0 a)).1 in
    let at = on t j next (omega (arith, within)) in
    let place = at.0 in (omega (arith, place), at.1, at.2, at.3)

told : (n p : ℕ) (s : NodeState) (es : List Event) (i : ℕ) (d : ℕ × NodeState) → IsSound s
    → suc i < length (states_left n (Some (p, s)) es) → Told p i (get_or (states_left n (Some (p, s)) es) i d) es
told n p s [] i d sound within = absurd (omega (arith, within))
told n p s (e ∷ es) i d sound within =
    told_after n p s e es (answer n s e) i d sound refl within (λ t j. told n (p + 1) t es j d)

-- ---- a table that is found span by span

passing-append : (test : NodeState → Bool) (xs ys : List (ℕ × NodeState))
    → positions_passing test (xs ++ ys) ≡ positions_passing test xs ++ positions_passing test ys
passing-append test xs ys = ap (map (λ x. x.0)) (filter-append (λ x. test x.1) xs ys)
    ∙ map-append (λ x. x.0) (filter (λ x. test x.1) xs) (filter (λ x. test x.1) ys)

one_passing : (b : Bool) (x : ℕ × NodeState) → map (λ y. y.0) (cond b (x ∷ []) []) ≡ cond b (x.0 ∷ []) []
one_passing true x = refl
one_passing false x = refl

-- whether a state passes, by the two answers of its stage
pub passes_by : (f : Formula) (at : Stage) (free owing : Bool) → (free, owing) ≡ answers_in f at → (o : Bool)
    → test_of f at o ≡ cond o owing free
passes_by f at free owing is true = ap (λ x. x.1) (sym is)
passes_by f at free owing is false = ap (λ x. x.0) (sym is)

-- where neither answer is no both are yes, if they are the same; else what is owed decides
pub both_pass : (free owing : Bool) → ((free ≡ false) × (owing ≡ true)) ⊎ (free ≡ true) → beq free owing ≡ true
    → (o : Bool) → true ≡ cond o owing free
both_pass true true some same true = refl
both_pass true true some same false = refl
both_pass true false some same o = cc
both_pass false true some same o = cc
both_pass false false (inl h) same o = cc
both_pass false false (inr h) same o = cc

pub debt_decides : (free owing o b : Bool) → beq free owing ≡ false → beq o owing ≡ b → b ≡ cond o owing free
debt_decides true true o b other same = cc
debt_decides true false true b other same = sym same
debt_decides true false false b other same = sym same
debt_decides false true true b other same = sym same
debt_decides false true false b other same = sym same
debt_decides false false o b other same = cc

module _ (log : Log) (last : NodeState) (f : Formula) where
  pub table_begin : (spans : List PhaseSpan) (kinds : List Stage) → IsProfile log spans kinds last
      → TableAt log last f (stages_in spans) 0 []
  table_begin spans kinds is =
      let before = is.walked.between 0 in
      let few = is.walked.few in
      let count : length before ≡ length (stages_in spans) =
      sym (length-map before (λ x. stage x.1)) ∙ ap length (is.walked.stages_are 0) in
      record {
        before = before;
        all = is.walked.states 0 ∙ ap (λ us. before ++ us) (is.ends (0 + length (stages_in spans))
            ∙ ap (λ q. (q, last) ∷ []) (omega (arith, count)));
        few = omega (arith, few, count);
        stages_are = is.walked.stages_are 0;
        passing = refl;
        low = omega arith;
      }

  -- the next span is one of states of the log
  pub span_room : (span : PhaseSpan) (rest : List PhaseSpan) (p : ℕ) (found : List ℕ)
      → TableAt log last f (stages_in (span ∷ rest)) p found → p + span.count ≤ length log.events
  span_room span rest p found at =
      let long = length-map (drop p at.before) (λ x. stage x.1) in
      let same = ap length at.stages_are in
      let parts = length-append (replicate span.count span.stage) (stages_in rest) in
      let count = length-replicate span.count span.stage in
      let left = length-drop p at.before in
      let low = at.low in let few = at.few in omega (arith, long, same, parts, count, left, low, few)

  pub table_end : (p : ℕ) (found more : List ℕ) → TableAt log last f [] p found
      → more ≡ found ++ cond (holds_test f last) (p ∷ []) [] → AreCandidates log f more
  table_end p found more at is_more =
      let none = ap length at.stages_are in let long = length-map (drop p at.before) (λ x. stage x.1) in
      let rest = length-drop p at.before in let low = at.low in
      let end : p ≡ length at.before = omega (arith, none, long, rest, low) in
      let here : found ≡ positions_passing (holds_test f) at.before =
      sym (at.passing ∙ ap (λ us. found ++ positions_passing (holds_test f) us)
      (drop_all p at.before (omega (arith, end))) ∙ append-nil found) in
      are_candidates_as log f more
      (is_more ∙ ap (λ us. us ++ cond (holds_test f last) (p ∷ []) []) here
      ∙ ap (λ q. positions_passing (holds_test f) at.before ++ cond (holds_test f last) (q ∷ []) []) end
      ∙ sym (ap (positions_passing (holds_test f)) at.all
      ∙ passing-append (holds_test f) at.before ((length at.before, last) ∷ [])
      ∙ ap (λ us. positions_passing (holds_test f) at.before ++ us)
      (one_passing (holds_test f last) (length at.before, last))))

  -- one position more is found or not
  pub table_step : (at : Stage) (rest : List Stage) (p : ℕ) (found more : List ℕ) (b : Bool)
      → TableAt log last f (at ∷ rest) p found
      → ((e : Event) → slice_get log.events p ≡ Some e → b ≡ test_of f at (is_some (sending e)))
      → more ≡ found ++ cond b (p ∷ []) [] → TableAt log last f rest (p + 1) more
  table_step at rest p found more b so_far tells is_more =
      let before = so_far.before in
      let d : ℕ × NodeState = (0, last) in
      let some = ap length so_far.stages_are in let counted = length-map (drop p before) (λ x. stage x.1) in
      let left = length-drop p before in
      let within : p < length before = omega (arith, some, counted, left) in
      let x = get_or before p d in
      let parts = drop_more before p d within in
      let stages : stage x.1 ∷ map (λ x. stage x.1) (drop (p + 1) before) ≡ at ∷ rest =
      sym (ap (map (λ x. stage x.1)) parts) ∙ so_far.stages_are in
      let same : stage x.1 ≡ at = cc in
      let others : map (λ x. stage x.1) (drop (p + 1) before) ≡ rest = cc in
      let long = ap length so_far.all ∙ length_push before (length before, last) in
      let known = told log.nodes 0 (first_state log.initiator) log.events p d (first_sound log.initiator)
      (omega (arith, long, within)) in
      let it : get_or (states_left log.nodes (Some (0, first_state log.initiator)) log.events) p d ≡ x =
      ap (λ us. get_or us p d) so_far.all ∙ get_or_append_left before ((length before, last) ∷ []) d p within in
      let place : x.0 ≡ p = let there = known.0 in ap (λ y. y.0) (sym it) ∙ omega (arith, there) in
      let test : holds_test f x.1 ≡ b =
      seen f x.1 ∙ ap (λ a. test_of f a (is_some x.1.owed)) same
      ∙ ap (λ y. test_of f at (is_some y.1.owed)) (sym it) ∙ ap (test_of f at) known.3 ∙ sym (tells known.1 known.2) in
      record {
        before = before;
        all = so_far.all;
        few = so_far.few;
        stages_are = others;
        passing = so_far.passing ∙ ap (λ us. found ++ positions_passing (holds_test f) us) parts
            ∙ ap (λ us. found ++ us) (passing-append (holds_test f) (x ∷ []) (drop (p + 1) before)
            ∙ ap (λ us. us ++ positions_passing (holds_test f) (drop (p + 1) before))
            (one_passing (holds_test f x.1) x ∙ ap (λ y. cond y (x.0 ∷ []) []) test
            ∙ ap (λ q. cond b (q ∷ []) []) place))
            ∙ sym (append_assoc found _ _) ∙ ap (λ us. us ++ positions_passing (holds_test f) (drop (p + 1) before))
            (sym is_more);
        low = omega (arith, within);
      }

  pub table_on : (at : Stage) (rest : List Stage) (p end m : ℕ) (found more : List ℕ) (b : Bool) → p + m ≡ end → p < end
      → TableAt log last f (replicate m at ++ rest) p found
      → ((e : Event) → slice_get log.events p ≡ Some e → b ≡ test_of f at (is_some (sending e)))
      → more ≡ found ++ cond b (p ∷ []) []
      → (k : ℕ) × (p + 1 + k ≡ end) × TableAt log last f (replicate k at ++ rest) (p + 1) more
  table_on at rest p end zero found more b fit within so_far tells is_more = absurd (omega (arith, fit, within))
  table_on at rest p end (suc k) found more b fit within so_far tells is_more =
      (k, omega (arith, fit), table_step at (replicate k at ++ rest) p found more b so_far tells is_more)

  -- a span whose states don't pass
  pub table_skip : (c : ℕ) (at : Stage) (rest : List Stage) (p : ℕ) (found : List ℕ) → (false, false) ≡ answers_in f at
      → TableAt log last f (replicate c at ++ rest) p found → TableAt log last f rest (p + c) found
  table_skip zero at rest p found none so_far = subst (λ q. TableAt log last f rest q found) (omega arith) so_far
  table_skip (suc c) at rest p found none so_far =
      subst (λ q. TableAt log last f rest q found) (omega arith)
      (table_skip c at rest (p + 1) found none
      (table_step at (replicate c at ++ rest) p found found false so_far
      (λ e _. sym (passes_by f at false false none (is_some (sending e)) ∙ never (is_some (sending e))))
      (sym (append-nil found))))
    where
      never : (b : Bool) → cond b false false ≡ false
      never true = refl
      never false = refl
