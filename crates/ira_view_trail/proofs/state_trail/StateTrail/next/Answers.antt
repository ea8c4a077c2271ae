use Rattle.std.proofs.Common.{◌≡◌, ◌+◌, ◌-◌, ◌∙◌, ℕ, List, Some, ap, arith, get_or, length}
use Rattle.std.proofs.Common.{add-one, refl, subst, sym, take}
use Rattle.std.specs.Prelude.{slice_get}
use Rattle.std.proofs.lemmas.Bool.{le-leb, leb-true}
use Rattle.std.proofs.lemmas.Option.{same_Some, slice_get_read}
use Rattle.ira_event.specs.Log.{Log}
use Rattle.ira_order.specs.Order.{occurrences}
use Rattle.ira_order.specs.Ring.{events_of, numbered}
use Rattle.ira_replay.specs.LocalRun.{IsLocalRun}
use Rattle.ira_view_trail.specs.StateTrail.{HasWalked, Reaches, StateTrail}
use Rattle.ira_view_trail.specs.Trail.{IsTrail}
use Rattle.ira_view_trail.proofs.Few.{few_events}
use Rattle.ira_view_trail.proofs.Played.{number_read}
use Rattle.ira_view_trail.proofs.Reached.{next_reached}
use Rattle.ira_view_trail.proofs.Walked.{few_given, next_event, next_place, next_stands, walked_all, walked_push}
use Rattle.ira_view_trail.proofs.state_trail.StateTrail.next.Goals as goal

pub returns-then-self-len-clause-none : goal.returns-then-self-len-clause-none
returns-then-self-len-clause-none g c given h =
    let v : StateTrail = record {
      logs = c.self.inside.logs.now;
      cut = c.self.inside.cut.items;
      columns = c.self.inside.columns;
      order = c.self.inside.order.items;
      given = c.self.inside.given;
      done = c.self.inside.done.items;
      states = c.self.inside.states.items;
    } in
    let has : HasWalked v given = subst (λ (w : StateTrail). HasWalked w given) (sym c.self.view_is) h in (
      subst (λ (w : StateTrail). IsTrail w.logs w.cut given) c.self.view_is
          (walked_all v given has (omega (arith, c.if-self-len.true, c.len.ensures))),
      h,
    )

pub overflow_add-number : goal.overflow_add-number
overflow_add-number g c =
    let v : StateTrail = record {
      logs = c.self.inside.logs.now;
      cut = c.self.inside.cut.items;
      columns = c.self.inside.columns;
      order = c.self.inside.order.items;
      given = c.self.inside.given;
      done = c.self.inside.done.items;
      states = c.self.inside.states.items;
    } in
    let has : HasWalked v c.requires.0 = subst (λ (w : StateTrail). HasWalked w c.requires.0) (sym c.self.view_is) c.requires.1 in
    let place = c.index-place.result.now in
    let at : slice_get c.self.inside.order.items c.self.inside.given ≡ Some c.index-place.result.now =
    slice_get_read c.self.inside.order.items (length c.self.inside.order.items) c.self.inside.given place refl
    (omega (arith, c.if-self-len.false, c.len.ensures)) c.index-place.ensures in
    let here = next_place v c.requires.0 has place at in
    let read : c.index.result.now ≡ get_or c.self.inside.done.items c.index-place.result.now 0 =
    number_read c.self.inside.done.items c.from-node.result place c.index.result.now c.from-node.ensures
    (omega (arith, here, has.nodes)) c.index.ensures in
    let stands = next_stands v c.requires.0 has place (c.index.result.now + 1) at (ap (λ (n : ℕ). n + 1) read) in
    let event = next_event v c.requires.0 has place (c.index.result.now + 1) stands in
    omega (arith, event.within, few_events c.self.inside.logs.now place has.logs_are)

pub event-event-requires : goal.event-event-requires
event-event-requires g c =
    let v : StateTrail = record {
      logs = c.self.inside.logs.now;
      cut = c.self.inside.cut.items;
      columns = c.self.inside.columns;
      order = c.self.inside.order.items;
      given = c.self.inside.given;
      done = c.self.inside.done.items;
      states = c.self.inside.states.items;
    } in
    let has : HasWalked v c.requires.0 = subst (λ (w : StateTrail). HasWalked w c.requires.0) (sym c.self.view_is) c.requires.1 in
    let place = c.index-place.result.now in
    let at : slice_get c.self.inside.order.items c.self.inside.given ≡ Some c.index-place.result.now =
    slice_get_read c.self.inside.order.items (length c.self.inside.order.items) c.self.inside.given place refl
    (omega (arith, c.if-self-len.false, c.len.ensures)) c.index-place.ensures in
    let here = next_place v c.requires.0 has place at in
    let read : c.index.result.now ≡ get_or c.self.inside.done.items c.index-place.result.now 0 =
    number_read c.self.inside.done.items c.from-node.result place c.index.result.now c.from-node.ensures
    (omega (arith, here, has.nodes)) c.index.ensures in
    let stands = next_stands v c.requires.0 has place (c.index.result.now + 1) at (ap (λ (n : ℕ). n + 1) read) in
    let event = next_event v c.requires.0 has place (c.index.result.now + 1) stands in
    let events = ap (λ o. length (events_of o)) c.log-log.ensures.value in
    (omega arith, omega (arith, event.within, events))

pub overflow_cast-self-inside : goal.overflow_cast-self-inside
overflow_cast-self-inside g c =
    let v : StateTrail = record {
      logs = c.self.inside.logs.now;
      cut = c.self.inside.cut.items;
      columns = c.self.inside.columns;
      order = c.self.inside.order.items;
      given = c.self.inside.given;
      done = c.self.inside.done.items;
      states = c.self.inside.states.items;
    } in
    let has : HasWalked v c.requires.0 =
    subst (λ (w : StateTrail). HasWalked w c.requires.0) (sym c.self.view_is) c.requires.1 in
    omega (arith, few_given v c.requires.0 has)

pub overflow_add-self-inside : goal.overflow_add-self-inside
overflow_add-self-inside g c =
    let v : StateTrail = record {
      logs = c.self.inside.logs.now;
      cut = c.self.inside.cut.items;
      columns = c.self.inside.columns;
      order = c.self.inside.order.items;
      given = c.self.inside.given;
      done = c.self.inside.done.items;
      states = c.self.inside.states.items;
    } in
    let has : HasWalked v c.requires.0 =
    subst (λ (w : StateTrail). HasWalked w c.requires.0) (sym c.self.view_is) c.requires.1 in
    omega (arith, few_given v c.requires.0 has)

pub sender-requires : goal.sender-requires
sender-requires g c =
    let v : StateTrail = record {
      logs = c.self.inside.logs.now;
      cut = c.self.inside.cut.items;
      columns = c.self.inside.columns;
      order = c.self.inside.order.items;
      given = c.self.inside.given;
      done = c.self.inside.done.items;
      states = c.self.inside.states.items;
    } in
    let has : HasWalked v c.requires.0 =
    subst (λ (w : StateTrail). HasWalked w c.requires.0) (sym c.self.view_is) c.requires.1 in
    let place = c.index-place.result.now in
    let at : slice_get c.self.inside.order.items c.self.inside.given ≡ Some c.index-place.result.now =
    slice_get_read c.self.inside.order.items (length c.self.inside.order.items) c.self.inside.given place refl
    (omega (arith, c.if-self-len.false, c.len.ensures)) c.index-place.ensures in
    omega (
      arith,
      next_place v c.requires.0 has place at,
      c.nodes-nodes.ensures,
      has.logs_are.sizes place c.log-log.result.now c.log-log.ensures.value,
    )

pub returns-clause-step : goal.returns-clause-step
returns-clause-step g c given h =
    let v : StateTrail = record {
      logs = c.self.inside.logs.now;
      cut = c.self.inside.cut.items;
      columns = c.self.inside.columns;
      order = c.self.inside.order.items;
      given = c.self.inside.given;
      done = c.self.inside.done.items;
      states = c.self.inside.states.items;
    } in
    let has : HasWalked v given = subst (λ (w : StateTrail). HasWalked w given) (sym c.self.view_is) h in
    let place = c.index-place.result.now in
    let at : slice_get c.self.inside.order.items c.self.inside.given ≡ Some c.index-place.result.now =
    slice_get_read c.self.inside.order.items (length c.self.inside.order.items) c.self.inside.given place refl
    (omega (arith, c.if-self-len.false, c.len.ensures)) c.index-place.ensures in
    let here = next_place v given has place at in
    let read : c.index.result.now ≡ get_or c.self.inside.done.items c.index-place.result.now 0 =
    number_read c.self.inside.done.items c.from-node.result place c.index.result.now c.from-node.ensures
    (omega (arith, here, has.nodes)) c.index.ensures in
    let stands = next_stands v given has place (c.index.result.now + 1) at (ap (λ (n : ℕ). n + 1) read) in
    let event = next_event v given has place (c.index.result.now + 1) stands in
    let log = c.log-log.result.now in
    let log_is : slice_get c.self.inside.logs.now c.index-place.result.now ≡ Some c.log-log.result.now =
    c.log-log.ensures.value in
    let back : c.index.result.now + 1 - 1 ≡ c.index.result.now = omega arith in
    let made : c.index.result.now
    ≡ occurrences (take c.self.inside.given c.self.inside.order.items) c.index-place.result.now =
    read ∙ has.done place here in
    let at_event : slice_get c.log-log.result.now.events c.index.result.now ≡ Some c.event-event.result =
    ap (slice_get c.log-log.result.now.events) (sym back) ∙ c.event-event.ensures in
    let state_is : slice_get c.self.inside.states.items c.index-place.result.now ≡ Some c.index-before.result.now =
    ap (slice_get c.self.inside.states.items) (sym c.from-node.ensures)
    ∙ slice_get_read c.self.inside.states.items (length c.self.inside.states.items) c.from-node.result
    c.index-before.result.now refl (omega (arith, here, has.places, c.from-node.ensures)) c.index-before.ensures in
    let before : IsLocalRun c.log-log.result.now
    → Reaches c.log-log.result.now c.index.result.now c.index-before.result.now =
    λ local. subst (λ (n : ℕ). Reaches log n c.index-before.result.now) (sym made)
    (has.states place log c.index-before.result.now log_is state_is local) in
    let steps = rw c.nodes-nodes.ensures at c.advance.ensures.steps in
    let after : IsLocalRun c.log-log.result.now
    → Reaches c.log-log.result.now (c.index.result.now + 1) c.advance.new.self =
    next_reached log c.index.result.now c.index-before.result.now c.advance.new.self c.event-event.result
    c.advance.result steps at_event before in
    let held : c.index-2.result.now ≡ get_or c.self.inside.cut.items c.index-place.result.now 0 =
    number_read c.self.inside.cut.items c.from-node.result place c.index-2.result.now c.from-node.ensures
    (omega (arith, here, has.cut_is)) c.index-2.ensures in
    let logs_then : c.self.inside.logs.now ≡ c.args.self.now.logs = ap (λ (w : StateTrail). w.logs) c.self.view_is in (
      walked_push v given has _ c.from-node.result c.advance.new.self c.from-node.ensures stands c.column.ensures (
        λ yes. omega (arith, leb-true _ _ yes, held),
        λ low. le-leb _ _ (omega (arith, low, held)),
      ) (λ l l_is local. (let same : log ≡ l = same_Some log l (sym log_is ∙ l_is) in
          subst (λ (x : Log). Reaches x (c.index.result.now + 1) c.advance.new.self) same
          (after (subst IsLocalRun (sym same) local)))),
      record {
        log = log;
        log_is = ap (λ (l : List Log). slice_get l c.index-place.result.now) (sym logs_then) ∙ log_is;
        event = ap (λ (n : ℕ). numbered c.log-log.result.now.events n) (add-one c.index.result.now) ∙ at_event;
        before = λ local. subst (λ (n : ℕ). Reaches log n c.index-before.result.now) (sym back) (before local);
        after = after;
      },
    )
