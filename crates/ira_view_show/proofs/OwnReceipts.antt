-- The last receipt of its own pair in a node's log.
use Rattle.std.proofs.Common.{◌≡◌, ◌↔◌, ◌∙◌, ◌⊎◌, ℕ, zero, suc, ◌+◌, ◌<◌, ◌≤◌, inl, inr, List, [], ◌∷◌, Option, Some, None, ap}
use Rattle.std.proofs.Common.{arith, cond, length, refl, subst, sym, take, true}
use Rattle.std.specs.Prelude.{MatchOption, ◌==◌, ◌&&◌, slice_get}
use Rattle.std.specs.List.{enumerate_from}
use Rattle.std.specs.Option.{option_or}
use Rattle.std.proofs.lemmas.Bool.{and_from, and_parts, cases_lt, eq-eqb, eqb-true}
use Rattle.std.proofs.lemmas.List.FromFn.{length-enumerate_from}
use Rattle.std.proofs.lemmas.Option.{cond_some, none-some, same_Some, slice_get_cases, slice_get_within}
use Rattle.ira_event.specs.Log.{Log}
use Rattle.ira_event.specs.declared.event.Event.{Event}
use Rattle.ira_event.specs.declared.event.Event.TheVariants.{Draw, Got, Sent, Yield}
use Rattle.ira_event.specs.declared.load.Load.TheVariants.{Msg as Message, Reset}
use Rattle.ira_event.specs.declared.msg.Msg.{Msg}
use Rattle.ira_node.specs.NodeState.{first_state}
use Rattle.ira_node.specs.declared.node_state.NodeState.{NodeState}
use Rattle.ira_node.specs.declared.phase.Phase.{Phase}
use Rattle.ira_node.specs.declared.phase.Phase.TheVariants.{Active, Choosing, Leader, Passive, Yielding}
use Rattle.ira_replay.specs.LocalRun.{LeadsTo}
use Rattle.ira_replay.specs.StatesLeft.{states_left}
use Rattle.ira_replay.specs.StatesOfLog.{AreStatesOfLog}
use Rattle.ira_replay.proofs.Along.{are_placed_states}
use Rattle.ira_replay.proofs.Reached.{states_are_reached}
use Rattle.ira_view_page.proofs.Adding.{element_at}
use Rattle.ira_view_show.specs.OwnReceipt.{HasNoOwn, IsLastOwn, ReceivesOwn, own_receipt_of}
use Rattle.ira_view_show.specs.declared.own_receipt.OwnReceipt.{OwnReceipt}

-- ---- the last that is found in a list

abbrev pub latest : {X Y : Type 0} → (X → Option Y) → Option Y → List X → Option Y
latest f last [] = last
latest f last (x ∷ xs) = latest f (option_or (f x) last) xs

abbrev NoneOf : {X Y : Type 0} → (X → Option Y) → List X → Type 0
NoneOf {X} f xs = (j : ℕ) (x : X) → slice_get xs j ≡ Some x → f x ≡ None

record IsLatest {X Y : Type 0} (f : X → Option Y) (xs : List X) (found : Option Y) : Type 0 where
  index : ℕ
  element : X
  value : Y
  at : slice_get xs index ≡ Some element
  gives : f element ≡ Some value
  is : found ≡ Some value
  later : (j : ℕ) (x : X) → index < j → slice_get xs j ≡ Some x → f x ≡ None

later_on : {X Y : Type 0} (f : X → Option Y) (x : X) (xs : List X) (i : ℕ)
    → ((j : ℕ) (z : X) → i < j → slice_get xs j ≡ Some z → f z ≡ None) → (j : ℕ) (z : X) → suc i < j
    → slice_get (x ∷ xs) j ≡ Some z → f z ≡ None
later_on f x xs i later zero z less at = absurd (omega (arith, less))
later_on f x xs i later (suc j) z less at = later j z (omega (arith, less)) at

after_first : {X Y : Type 0} (f : X → Option Y) (x : X) (xs : List X) → NoneOf f xs → (j : ℕ) (z : X) → 0 < j
    → slice_get (x ∷ xs) j ≡ Some z → f z ≡ None
after_first f x xs none zero z less at = absurd (omega (arith, less))
after_first f x xs none (suc j) z less at = none j z at

none_more : {X Y : Type 0} (f : X → Option Y) (x : X) (xs : List X) → f x ≡ None → NoneOf f xs → NoneOf f (x ∷ xs)
none_more {X} {Y} f x xs is none zero z at =
    let same : x ≡ z = same_Some x z at in subst (λ (y : X). f y ≡ None) same is
none_more f x xs is none (suc j) z at = none j z at

begun : {X Y : Type 0} (f : X → Option Y) (x : X) (xs : List X) (last o : Option Y) → f x ≡ o
    → (latest f (option_or o last) xs ≡ option_or o last) × NoneOf f xs
    → IsLatest f (x ∷ xs) (latest f (option_or o last) xs)
    ⊎ ((latest f (option_or o last) xs ≡ last) × NoneOf f (x ∷ xs))
begun f x xs last (Some y) is w = inl (record {
  index = 0;
  element = x;
  value = y;
  at = refl;
  gives = is;
  is = w.0;
  later = after_first f x xs w.1;
})
begun f x xs last None is w = inr (w.0, none_more f x xs is w.1)

latest_is : {X Y : Type 0} (f : X → Option Y) (xs : List X) (last : Option Y)
    → IsLatest f xs (latest f last xs) ⊎ ((latest f last xs ≡ last) × NoneOf f xs)
latest_is f [] last = inr (refl, λ j x at. cc)
latest_is f (x ∷ xs) last = elim (latest_is f xs (option_or (f x) last)) [
  | inl w ↦ inl (record {
    index = suc w.index;
    element = w.element;
    value = w.value;
    at = w.at;
    gives = w.gives;
    is = w.is;
    later = later_on f x xs w.index w.later;
  })
  | inr w ↦ begun f x xs last (f x) refl w
]

-- ---- receipts of the own pair

-- what comes after a state with its position, where it is such a receipt
abbrev pub own_after : Log → ℕ × NodeState → Option OwnReceipt
own_after log x = own_receipt_of x.0 (slice_get log.events x.0) x.1.phase

own_message : (i : ℕ) (m : Msg) (round id : ℕ) (r : OwnReceipt)
    → cond (m.round == round && m.id == id) (Some (record { position = i + 1; message = m })) None ≡ Some r
    → (r.position ≡ i + 1) × (Some (Got (Message m)) ≡ Some (Got (Message r.message)))
    × (Active round id ≡ Active r.message.round r.message.id)
own_message i m round id r is =
    let both = cond_some (m.round == round && m.id == id) (record { position = i + 1; message = m }) r is in
    let parts = and_parts (m.round == round) (m.id == id) both.0 in
    let rounds : m.round ≡ round = eqb-true m.round round parts.0 in
    let ids : m.id ≡ id = eqb-true m.id id parts.1 in
    subst (λ (x : OwnReceipt). (x.position ≡ i + 1) × (Some (Got (Message m)) ≡ Some (Got (Message x.message)))
    × (Active round id ≡ Active x.message.round x.message.id)) both.1
    (refl, refl, rw (rounds, ids) refl)

own_is : (i : ℕ) (event : Option Event) (phase : Phase) (r : OwnReceipt) → own_receipt_of i event phase ≡ Some r
    → (r.position ≡ i + 1) × (event ≡ Some (Got (Message r.message)))
    × (phase ≡ Active r.message.round r.message.id)
own_is i (Some (Got (Message m))) (Active round id) r is = own_message i m round id r is
own_is i (Some (Got (Message m))) (Choosing round) r is = cc
own_is i (Some (Got (Message m))) Passive r is = cc
own_is i (Some (Got (Message m))) (Leader round id) r is = cc
own_is i (Some (Got (Message m))) Yielding r is = cc
own_is i (Some (Got (Reset h))) phase r is = cc
own_is i (Some (Draw id)) phase r is = cc
own_is i (Some (Sent l)) phase r is = cc
own_is i (Some Yield) phase r is = cc
own_is i None phase r is = cc

is_own : (i : ℕ) (event : Option Event) (phase : Phase) (r : OwnReceipt) → r.position ≡ i + 1
    → event ≡ Some (Got (Message r.message)) → phase ≡ Active r.message.round r.message.id
    → own_receipt_of i event phase ≡ Some r
is_own i event phase r position is own =
    let test : (r.message.round == r.message.round && r.message.id == r.message.id) ≡ true =
    and_from (r.message.round == r.message.round) (r.message.id == r.message.id)
    (eq-eqb r.message.round r.message.round refl) (eq-eqb r.message.id r.message.id refl) in
    rw (is, own, test) (ap (λ p. Some (record { position = p; message = r.message })) (sym position))

-- the state that stands at a position of states with their positions
placed_at : (ts : List NodeState) (i : ℕ) (x : ℕ × NodeState) → slice_get (enumerate_from 0 ts) i ≡ Some x
    → (x.0 ≡ i) × (slice_get ts i ≡ Some x.1)
placed_at ts i x at = elim ((slice_get_cases ts i).1) [
  | inl h ↦
      (let same : (i, h.0) ≡ x = same_Some (i, h.0) x (sym (element_at ts i h.0 h.2) ∙ at) in
      subst (λ (y : ℕ × NodeState). (y.0 ≡ i) × (slice_get ts i ≡ Some y.1)) same (refl, h.2))
  | inr h ↦
      absurd (omega (arith, h.0, slice_get_within (enumerate_from 0 ts) i x at, length-enumerate_from 0 ts))
]

-- what is found last along the states of a log is the last receipt of the own pair
pub last_is : (log : Log) (found : Option OwnReceipt)
    → found ≡ latest (own_after log) None (states_left log.nodes (Some (0, first_state log.initiator)) log.events)
    → MatchOption found (HasNoOwn log) (IsLastOwn log)
last_is log found is =
    let placed = are_placed_states log.nodes (first_state log.initiator) log.events in
    let same : found ≡ latest (own_after log) None (enumerate_from 0 placed.0) =
    is ∙ ap (latest (own_after log) None) placed.2 in
    elim (latest_is (own_after log) (enumerate_from 0 placed.0) None) [
      | inl w ↦
          (let here = placed_at placed.0 w.index w.element w.at in
          let own = own_is w.element.0 (slice_get log.events w.element.0) w.element.1.phase w.value w.gives in
          let there = subst (λ n. slice_get placed.0 n ≡ Some w.element.1) (sym here.0) here.1 in
          let before = ((reached log placed.0 placed.1 w.element.0 w.element.1).0 there).1 in
          rw (same ∙ w.is) (record {
            receives = record {
              events = w.element.0;
              position = own.0;
              event = own.1;
              state = w.element.1;
              before = before;
              own = own.2;
            };
            last = λ other given. elim (cases_lt w.index given.events) [
              | inl less ↦
                  absurd (none-some other (sym (w.later given.events (given.events, given.state) less
                  (met log placed.0 placed.1 other given)) ∙ found_of log other given))
              | inr more ↦ omega (arith, more, given.position, own.0, here.0)
            ];
          }))
      | inr w ↦
          rw (same ∙ w.0) (λ other given. none-some other
          (sym (w.1 given.events (given.events, given.state) (met log placed.0 placed.1 other given))
          ∙ found_of log other given))
    ]
  where
    reached : (log : Log) (ts : List NodeState) → AreStatesOfLog log ts → (a : ℕ) (t : NodeState)
        → (slice_get ts a ≡ Some t)
        ↔ ((a ≤ length log.events) × LeadsTo log.nodes (first_state log.initiator) (take a log.events) t)
    reached log ts are a t = states_are_reached log.nodes (first_state log.initiator) log.events ts are a t

    met : (log : Log) (ts : List NodeState) → AreStatesOfLog log ts → (r : OwnReceipt) (given : ReceivesOwn log r)
        → slice_get (enumerate_from 0 ts) given.events ≡ Some (given.events, given.state)
    met log ts are r given =
        let within = slice_get_within log.events given.events _ given.event in
        element_at ts given.events given.state
        ((reached log ts are given.events given.state).1 (omega (arith, within), given.before))

    found_of : (log : Log) (r : OwnReceipt) (given : ReceivesOwn log r)
        → own_after log (given.events, given.state) ≡ Some r
    found_of log r given =
        is_own given.events (slice_get log.events given.events) given.state.phase r given.position given.event given.own
