-- Turn after turn: the nodes below the least one have nothing to do, and there is less and less room.
use Rattle.std.proofs.Common.{◌≡◌, ◌≢◌, ℕ, zero, suc, ◌+◌, ◌-◌, ◌*◌, ◌<◌, ◌≤◌, inl, inr, Option, Some, None, List, []}
use Rattle.std.proofs.Common.{◌∷◌, ◌++◌, length, refl, sym, ◌∙◌, subst, ap, length-append, arith}
use Rattle.std.specs.List.{sum_by}
use Rattle.std.proofs.Math.ListN.{set}
use Rattle.std.proofs.lemmas.List.{get_or-set_same, get_or-set_other, length-set}
use Rattle.std.proofs.lemmas.List.Sums.{sum_by-cons}
use Rattle.ira_event.specs.declared.event.Event.{Event}
use Rattle.ira_event.specs.declared.event.Event.TheVariants.{Draw, Sent, Got, Yield}
use Rattle.ira_event.specs.declared.load.Load.{Load}
use Rattle.ira_node.specs.declared.node_state.NodeState.{NodeState}
use Rattle.ira_order.specs.Ring.{next}
use Rattle.ira_event.specs.Messages.{drawn}
use Rattle.ira_ring_alone.specs.LoneNode.{LoneNode, IsNext, HasNoNext, SendsNothing, MakesOwn, MakesSending, GoesTo}
use Rattle.ira_ring_alone.specs.LoneNode.{after_event, after_put}
use Rattle.ira_ring_alone.specs.LoneRing.{idle, node_at, IsMoved, IsPut, IsTurn, IsLeastAfter, IsReached}
use Rattle.ira_ring_setup.specs.Setup.{Setup, KeepsRules}
use Rattle.std.proofs.lemmas.Bool.{cases_eq}
use Rattle.ira_order.proofs.Runs.{next_up}
use Rattle.ira_ring_alone.proofs.LoneSteps.{apart, own, turn_reaches}
use Rattle.ira_ring_alone.proofs.LoneTurns.{next_not}

-- ---- the nodes below

still_ended : (n most terms i : ℕ) (m : Load) (after : NodeState) (old new : List LoneNode)
    → IsMoved n i (Sent m) after old new → i + 1 < n → ((j : ℕ) → j < i → HasNoNext n most terms (node_at old j))
    → (j : ℕ) → j < i → HasNoNext n most terms (node_at new j)
still_ended n most terms i m after old new moved far ended j l =
    let P : LoneNode → Type 0 = HasNoNext n most terms in
    let above : next n i ≡ i + 1 = next_up n i far in
    subst P (sym (moved.2 j (omega arith) (omega arith))) (ended j l)

-- ---- the room

-- how many events the nodes may still make
abbrev pub room_in : ℕ → List LoneNode → ℕ
room_in most nodes = sum_by (λ node. most - length node.events) nodes

sum_at_most : (f : LoneNode → ℕ) (old new : List LoneNode) → length new ≡ length old
    → ((j : ℕ) → f (node_at new j) ≤ f (node_at old j)) → sum_by f new ≤ sum_by f old
sum_at_most f [] [] many each = omega arith
sum_at_most f [] (y ∷ new) many each = absurd (omega arith)
sum_at_most f (x ∷ old) [] many each = absurd (omega arith)
sum_at_most f (x ∷ old) (y ∷ new) many each =
    omega (
      arith,
      sum_by-cons f x old,
      sum_by-cons f y new,
      each 0,
      sum_at_most f old new (omega arith) (λ j. each (suc j)),
    )

sum_less : (f : LoneNode → ℕ) (old new : List LoneNode) (i : ℕ) → length new ≡ length old → i < length old
    → f (node_at new i) < f (node_at old i) → ((j : ℕ) → j ≢ i → f (node_at new j) ≤ f (node_at old j))
    → sum_by f new < sum_by f old
sum_less f [] new i many here less each = absurd (omega arith)
sum_less f (x ∷ old) [] i many here less each = absurd (omega arith)
sum_less f (x ∷ old) (y ∷ new) zero many here less each =
    omega (
      arith,
      sum_by-cons f x old,
      sum_by-cons f y new,
      less,
      sum_at_most f old new (omega arith) (λ j. each (suc j) (omega arith)),
    )
sum_less f (x ∷ old) (y ∷ new) (suc i) many here less each =
    omega (
      arith,
      sum_by-cons f x old,
      sum_by-cons f y new,
      each 0 (omega arith),
      sum_less f old new i (omega arith) (omega arith) less (λ j ne. each (suc j) (omega arith)),
    )

pub less_room : (n most terms i : ℕ) (e : Event) (after : NodeState) (old new : List LoneNode) → i < length old
    → length new ≡ length old → IsNext n most terms (node_at old i) e after → IsMoved n i e after old new
    → room_in most new < room_in most old
less_room n most terms i e after old new here many is_next moved =
    let node_is = own n i after old new e moved in
    let longer : length (node_at new i).events ≡ length (node_at old i).events + 1 =
    ap (λ (x : LoneNode). length x.events) node_is ∙ length-append (node_at old i).events (e ∷ []) in
    sum_less (λ node. most - length node.events) old new i many here (omega (arith, is_next.below_cap, longer))
    (λ j ne. omega (arith, ap length (apart n i after old new e moved j ne).events))

-- ---- the measure

abbrev pub measure : ℕ → ℕ → List LoneNode → ℕ → ℕ
measure n most nodes least = room_in most nodes * (n + 1) + (n - least)

with_more : (n b d x y : ℕ) → x ≤ n → b * (n + 1) + x < (b + 1 + d) * (n + 1) + y
with_more n b d x y l = omega arith

less_measure : (n most : ℕ) (old new : List LoneNode) (least next_least : ℕ) → room_in most new < room_in most old
    → measure n most new next_least < measure n most old least
less_measure n most old new least next_least less =
    let is : room_in most new + 1 + (room_in most old - (room_in most new + 1)) ≡ room_in most old = omega arith in
    let P : ℕ → Type 0 = λ a. room_in most new * (n + 1) + (n - next_least) < a * (n + 1) + (n - least) in
    subst P is (with_more n (room_in most new) (room_in most old - (room_in most new + 1)) (n - next_least) (n - least)
    (omega arith))

-- ---- a turn of the least node

pub record IsOn (s : Setup) (old new : List LoneNode) (least after : ℕ) : Type 0 where
  pub reached : IsReached s new
  pub within : after ≤ s.nodes
  pub ended : (j : ℕ) → j < after → HasNoNext s.nodes s.cap s.terms (node_at new j)
  pub less : measure s.nodes s.cap new after < measure s.nodes s.cap old least

module _ (s : Setup) (old new : List LoneNode) (least : ℕ)
    (rules : KeepsRules s)
    (reached : IsReached s old)
    (here : least < s.nodes)
    (ended : (j : ℕ) → j < least → HasNoNext s.nodes s.cap s.terms (node_at old j)) where
  -- the turn's sending
  sends_on : (m : Load) (state : NodeState) (after : ℕ)
      → IsNext s.nodes s.cap s.terms (node_at old least) (Sent m) state → IsMoved s.nodes least (Sent m) state old new
      → length new ≡ length old → IsLeastAfter s.nodes least (Some m) after → IsOn s old new least after
  sends_on m state after is_next moved many how = record {
    reached = turn_reaches s old new least (Sent m) state rules.size.0 here reached is_next moved many;
    within = elim how [ inl z ↦ omega (arith, z.1) | inr w ↦ omega (arith, w.1) ];
    ended = λ j l. elim how [
      | inl z ↦ absurd (omega (arith, z.1))
      | inr w ↦ still_ended s.nodes s.cap s.terms least m state old new moved w.0 ended j (omega (arith, w.1))
    ];
    less = less_measure s.nodes s.cap old new least after
        (less_room s.nodes s.cap s.terms least (Sent m) state old new (omega (arith, reached.many)) many is_next moved);
  }

-- ---- the events before it

-- node i is this one, all else is as it was, and a run leads to it
pub record IsWay (s : Setup) (old new : List LoneNode) (i : ℕ) (node : LoneNode) : Type 0 where
  pub reached : IsReached s new
  pub many : length new ≡ length old
  pub here : node_at new i ≡ node
  pub others : (j : ℕ) → j ≢ i → node_at new j ≡ node_at old j
  pub below_cap : room_in s.cap new ≤ room_in s.cap old

moved_own : (n i : ℕ) (e : Event) (after : NodeState) (old new : List LoneNode) → SendsNothing e
    → node_at new i ≡ after_event (node_at old i) e after → ((j : ℕ) → j ≢ i → node_at new j ≡ node_at old j)
    → IsMoved n i e after old new
moved_own n i (Draw id) after old new nothing here others = (here, others)
moved_own n i (Got m) after old new nothing here others = (here, others)
moved_own n i Yield after old new nothing here others = (here, others)
moved_own n i (Sent m) after old new nothing here others = absurd (nothing m refl)

way : (s : Setup) (old : List LoneNode) (i k : ℕ) (node : LoneNode) → KeepsRules s → IsReached s old → i < s.nodes
    → GoesTo s.nodes s.cap s.terms k (node_at old i) node → (new : List LoneNode) × IsWay s old new i node
way s old i zero node rules reached l goes =
    (old, record { reached = reached; many = refl; here = sym goes; others = λ j ne. refl; below_cap = omega arith })
way s old i (suc k) node rules reached l goes =
    let before = way s old i k goes.0 rules reached l goes.1 in
    let mid : List LoneNode = before.0 in
    let w : IsWay s old before.0 i goes.0 = before.1 in
    let made : MakesOwn s.nodes s.cap s.terms goes.0 node (Some goes.2.0) = goes.2.1 in
    let here : node_at (set before.0 i node) i ≡ node =
    get_or-set_same before.0 i node idle (omega (arith, w.many, reached.many)) in
    let others : (j : ℕ) → j ≢ i → node_at (set before.0 i node) j ≡ node_at before.0 j =
    λ j ne. get_or-set_other before.0 i j node idle ne in
    let many : length (set before.0 i node) ≡ length before.0 = length-set before.0 i node in
    let moved : IsMoved s.nodes i made.0 goes.2.0 before.0 (set before.0 i node) =
    moved_own s.nodes i made.0 goes.2.0 before.0 (set before.0 i node) made.1 (here ∙ made.3
    ∙ ap (λ (x : LoneNode). after_event x made.0 goes.2.0) (sym w.here)) others in
    let is_next : IsNext s.nodes s.cap s.terms (node_at before.0 i) made.0 goes.2.0 =
    subst (λ (x : LoneNode). IsNext s.nodes s.cap s.terms x made.0 goes.2.0) (sym w.here) made.2 in (
      set before.0 i node,
      record {
        reached = turn_reaches s before.0 (set before.0 i node) i made.0 goes.2.0 rules.size.0 l w.reached is_next moved
            many;
        many = many ∙ w.many;
        here = here;
        others = λ j ne. others j ne ∙ w.others j ne;
        below_cap = omega (
          arith,
          w.below_cap,
          less_room s.nodes s.cap s.terms i made.0 goes.2.0 before.0 (set before.0 i node)
              (omega (arith, w.many, reached.many)) many is_next moved,
        );
      },
    )

-- ---- a whole turn

-- the same nodes are reached
reached_same : (s : Setup) (old new : List LoneNode) → IsReached s old → length new ≡ length old
    → ((j : ℕ) → node_at new j ≡ node_at old j) → IsReached s new
reached_same s old new reached many same = record {
  many = many ∙ reached.many;
  run = reached.run;
  point = reached.point;
  walk = reached.walk;
  states = λ i l. reached.states i l ∙ sym (ap (λ (x : LoneNode). x.state) (same i));
  links = λ i l. reached.links i l ∙ sym (ap (λ (x : LoneNode). x.input) (same i));
  events = λ i l. reached.events i l ∙ sym (ap (λ (x : LoneNode). x.events) (same i));
  draws = λ i l. reached.draws i l ∙ sym (ap (λ (x : LoneNode). drawn x.events ++ x.ids) (same i));
}

room_same : (most : ℕ) (old new : List LoneNode) → length new ≡ length old → ((j : ℕ) → node_at new j ≡ node_at old j)
    → room_in most new ≤ room_in most old
room_same most old new many same =
    sum_at_most (λ node. most - length node.events) old new many (λ j.
    omega (arith, ap (λ (x : LoneNode). length x.events) (same j)))

less_past : (n most : ℕ) (old new : List LoneNode) (least : ℕ) → room_in most new ≤ room_in most old → least < n
    → measure n most new (least + 1) < measure n most old least
less_past n most old new least below_cap l = elim (cases_eq (room_in most new) (room_in most old)) [
  | inl e ↦ (let P : ℕ → Type 0 = λ a. room_in most new * (n + 1) + (n - (least + 1)) < a * (n + 1) + (n - least) in
      subst P e (omega arith))
  | inr ne ↦ less_measure n most old new least (least + 1) (omega arith)
]

le_measure : (n most : ℕ) (old new : List LoneNode) (least : ℕ) → room_in most new ≤ room_in most old
    → measure n most new least ≤ measure n most old least
le_measure n most old new least below_cap = elim (cases_eq (room_in most new) (room_in most old)) [
  | inl e ↦ (let P : ℕ → Type 0 = λ a. room_in most new * (n + 1) + (n - least) ≤ a * (n + 1) + (n - least) in
      subst P e (omega arith))
  | inr ne ↦ (let less = less_measure n most old new least least (omega arith) in omega (arith, less))
]

module _ (s : Setup) (old new : List LoneNode) (least : ℕ)
    (rules : KeepsRules s)
    (reached : IsReached s old)
    (here : least < s.nodes)
    (ended : (j : ℕ) → j < least → HasNoNext s.nodes s.cap s.terms (node_at old j)) where
  ends_on : (node : LoneNode) (k after : ℕ) → GoesTo s.nodes s.cap s.terms k (node_at old least) node
      → HasNoNext s.nodes s.cap s.terms node → IsPut s.nodes least None node old new → length new ≡ length old
      → after ≡ least + 1 → IsOn s old new least after
  ends_on node k after goes now put many is =
      let before = way s old least k node rules reached here goes in
      let w : IsWay s old before.0 least node = before.1 in
      let same : (j : ℕ) → node_at new j ≡ node_at before.0 j = λ j. elim (cases_eq j least) [
        | inl e ↦ (let P : ℕ → Type 0 = λ x. node_at new x ≡ node_at before.0 x in subst P (sym e) (put.0 ∙ sym w.here))
        | inr ne ↦ put.1 j ne ∙ sym (w.others j ne)
      ] in
      let P : ℕ → Type 0 = λ x. IsOn s old new least x in
      subst P (sym is) record {
        reached = reached_same s before.0 new w.reached (many ∙ sym w.many) same;
        within = omega arith;
        ended = λ j l. elim (cases_eq j least) [
          | inl e ↦ (let Q : ℕ → Type 0 = λ x. HasNoNext s.nodes s.cap s.terms (node_at new x) in
              subst Q (sym e) (subst (HasNoNext s.nodes s.cap s.terms) (sym put.0) now))
          | inr ne ↦ subst (HasNoNext s.nodes s.cap s.terms) (sym (put.1 j ne)) (ended j (omega arith))
        ];
        less = less_past s.nodes s.cap old new least
            (omega (arith, w.below_cap, room_same s.cap before.0 new (many ∙ sym w.many) same)) here;
      }

  moves_on : (node mid : LoneNode) (m : Load) (k after : ℕ) → GoesTo s.nodes s.cap s.terms k (node_at old least) mid
      → MakesSending s.nodes s.cap s.terms mid node m → IsPut s.nodes least (Some m) node old new
      → length new ≡ length old → IsLeastAfter s.nodes least (Some m) after → IsOn s old new least after
  moves_on node mid m k after goes sending put many how =
      let before = way s old least k mid rules reached here goes in
      let w : IsWay s old before.0 least mid = before.1 in
      let apart : next s.nodes least ≢ least = λ e. next_not s.nodes least rules.size.0 here e in
      let moved : IsMoved s.nodes least (Sent m) sending.0 before.0 new = (
        put.0 ∙ sending.2 ∙ ap (λ (x : LoneNode). after_event x (Sent m) sending.0) (sym w.here),
        put.1 ∙ ap (λ (x : LoneNode). after_put x m) (sym (w.others (next s.nodes least) apart)),
        λ j ne other. put.2 j ne other ∙ sym (w.others j ne),
      ) in
      let is_next : IsNext s.nodes s.cap s.terms (node_at before.0 least) (Sent m) sending.0 =
      subst (λ (x : LoneNode). IsNext s.nodes s.cap s.terms x (Sent m) sending.0) (sym w.here) sending.1 in
      let on : IsOn s before.0 new least after =
      sends_on s before.0 new least rules w.reached here (λ j l.
      subst (HasNoNext s.nodes s.cap s.terms) (sym (w.others j (omega arith))) (ended j l)) m sending.0 after
      is_next moved (many ∙ sym w.many) how in
      record {
        reached = on.reached;
        within = on.within;
        ended = on.ended;
        less = omega (arith, on.less, le_measure s.nodes s.cap old before.0 least w.below_cap);
      }

  pub turns_on : (sent : Option Load) (after : ℕ) → IsTurn s.nodes s.cap s.terms least old new sent
      → IsLeastAfter s.nodes least sent after → IsOn s old new least after
  turns_on None after turn is = ends_on turn.node turn.goes.0.0 after turn.goes.0.1 turn.goes.1 turn.put turn.many is
  turns_on (Some m) after turn is =
      moves_on turn.node turn.goes.0 m turn.goes.1.0 after turn.goes.1.1 turn.goes.2 turn.put turn.many is

-- the same where the setup is read at each turn
pub record IsOnward (first before rest : Setup) (old new : List LoneNode) (least after : ℕ) : Type 0 where
  pub setup : rest ≡ first
  pub reached : IsReached rest new
  pub within : after ≤ rest.nodes
  pub ended : (j : ℕ) → j < after → HasNoNext rest.nodes rest.cap rest.terms (node_at new j)
  pub less : measure rest.nodes rest.cap new after < measure before.nodes before.cap old least

pub onward : (first before rest : Setup) (n : ℕ) (old new : List LoneNode) (least after : ℕ) (sent : Option Load)
    → KeepsRules first → before ≡ first → rest ≡ before → n ≡ first.nodes → IsReached before old
    → least < n → ((j : ℕ) → j < least → HasNoNext before.nodes before.cap before.terms (node_at old j))
    → IsTurn before.nodes before.cap before.terms least old new sent → IsLeastAfter n least sent after
    → IsOnward first before rest old new least after
onward first before rest n old new least after sent rules same still size reached here ended turn is =
    let n_is : n ≡ before.nodes = size ∙ ap (λ (s : Setup). s.nodes) (sym same) in
    let P : ℕ → Type 0 = λ x. IsLeastAfter x least sent after in
    let on : IsOn before old new least after =
    turns_on before old new least (subst KeepsRules (sym same) rules) reached (omega arith) ended sent after turn
    (subst P n_is is) in
    let Q : Setup → Type 0 = λ s. IsOnward first before s old new least after in
    subst Q (sym still) record {
      setup = same;
      reached = on.reached;
      within = on.within;
      ended = on.ended;
      less = on.less;
    }
