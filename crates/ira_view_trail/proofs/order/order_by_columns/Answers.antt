use Rattle.std.proofs.Common.{◌≡◌, ◌+◌, ◌<◌, ◌∙◌, ◌∷◌, ◌++◌, [], ℕ, List, suc, add-one, ap, arith, get_or, length, length-set, subst, sym}
use Rattle.ira_order.specs.Order.{occurrences}
use Rattle.ira_view_trail.specs.Columns.{IsEvent, column_of}
use Rattle.ira_view_trail.specs.Trail.{IsPlayedTo}
use Rattle.ira_view_trail.proofs.Few.{few_events}
use Rattle.ira_view_trail.proofs.Played.{all_played, columns_up_to, done_push, event_there, number_read}
use Rattle.ira_view_trail.proofs.Played.{played_over, played_push}
use Rattle.ira_view_trail.proofs.order.order_by_columns.Goals as goal

pub overflow_add-event : goal.overflow_add-event
overflow_add-event g c =
    let here : c.places.place < length c.args.logs.now =
    omega (arith, c.places-test.true, c.get-size.ensures.value, c.size.ensures.value) in
    let is : c.index.result.now ≡ occurrences c.places.order.items c.places.place =
    number_read c.places.done.items c.from-node.result c.places.place c.index.result.now c.from-node.ensures
    (omega (arith, here, c.places.invariant.count)) c.index.ensures
    ∙ c.places.invariant.done c.places.place here in
    omega (
      arith,
      is,
      c.places.invariant.to.within c.places.place here,
      few_events c.args.logs.now c.places.place c.size.ensures.valid,
    )

pub places-preserved-then-column : goal.places-preserved-then-column
places-preserved-then-column g c =
    let logs = c.args.logs.now in
    let columns = c.args.columns.now in
    let are = c.requires.1 in
    let here : c.places.place < length c.args.logs.now =
    omega (arith, c.places-test.true, c.get-size.ensures.value, c.size.ensures.value) in
    let is : c.index.result.now ≡ occurrences c.places.order.items c.places.place =
    number_read c.places.done.items c.from-node.result c.places.place c.index.result.now c.from-node.ensures
    (omega (arith, here, c.places.invariant.count)) c.index.ensures
    ∙ c.places.invariant.done c.places.place here in
    let next : c.index.result.now + 1 ≡ suc (occurrences c.places.order.items c.places.place) = omega (arith, is) in
    let at = c.column.ensures ∙ ap (column_of columns c.places.place) next in
    record {
      count = c.places.invariant.count;
      done = c.places.invariant.done;
      to = subst (λ (k : ℕ). IsPlayedTo logs (column_of columns) (suc c.columns.column) k c.places.order.items)
          (sym (add-one c.places.place))
          (played_over logs (column_of columns) are.each.own are.each.first (suc c.columns.column) c.places.place
          c.places.order.items here c.places.invariant.to (λ event q.
          omega (arith, q, at, c.if-column.true)));
    }

pub places-preserved : goal.places-preserved
places-preserved g c =
    let logs = c.args.logs.now in
    let columns = c.args.columns.now in
    let are = c.requires.1 in
    let order = c.places.order.items in
    let here : c.places.place < length c.args.logs.now =
    omega (arith, c.places-test.true, c.get-size.ensures.value, c.size.ensures.value) in
    let read : c.index.result.now ≡ get_or c.places.done.items c.places.place 0 =
    number_read c.places.done.items c.from-node.result c.places.place c.index.result.now c.from-node.ensures
    (omega (arith, here, c.places.invariant.count)) c.index.ensures in
    let is : c.index.result.now ≡ occurrences c.places.order.items c.places.place =
    read ∙ c.places.invariant.done c.places.place here in
    let next : c.index.result.now + 1 ≡ suc (occurrences c.places.order.items c.places.place) = omega (arith, is) in
    let at = c.column.ensures ∙ ap (column_of columns c.places.place) next in
    let now : column_of c.args.columns.now c.places.place (suc (occurrences c.places.order.items c.places.place))
    ≡ suc c.columns.column = omega (arith, at, c.if-column.false) in
    let event : IsEvent c.args.logs.now c.places.place (suc (occurrences c.places.order.items c.places.place)) =
    event_there logs c.requires.0 columns are c.places.place _ here (omega arith) (omega (arith, now)) in
    let pushed : c.push.new.self.items ≡ c.places.order.items ++ c.places.place ∷ [] = c.in_ok-push.ensures.items in
    record {
      count = length-set c.places.done.items c.from-node.result (c.index.result.now + 1) ∙ c.places.invariant.count;
      done = λ i l.
          done_push c.places.done.items order (length logs) c.places.place c.from-node.result c.index.result.now
          c.places.invariant.count here c.places.invariant.done c.from-node.ensures read i l
          ∙ ap (λ (xs : List ℕ). occurrences xs i) (sym pushed);
      to = subst (λ (k : ℕ). IsPlayedTo logs (column_of columns) (suc c.columns.column) k c.push.new.self.items)
          (sym (add-one c.places.place))
          (subst (λ (xs : List ℕ). IsPlayedTo logs (column_of columns) (suc c.columns.column) (suc c.places.place) xs)
          (sym pushed)
          (played_push logs (column_of columns) are.each.own are.each.first (suc c.columns.column) c.places.place order
          here c.places.invariant.to event now));
    }

pub returns : goal.returns
returns g c =
    let logs = c.args.logs.now in
    let columns = c.args.columns.now in
    let are = c.requires.1 in
    let end : c.columns.column ≡ c.last-last.result = omega (arith, c.columns-test.false, c.columns.auto.column-end) in
    all_played logs (column_of columns) are.each.own are.each.first c.last-last.result c.columns.order.items
    (columns_up_to logs c.requires.0 columns c.last-last.result are c.last-last.ensures)
    (subst (λ (k : ℕ). IsPlayedTo logs (column_of columns) (suc k) 0 c.columns.order.items) end c.columns.invariant.to)
