use Rattle.std.proofs.Common.{◌≡◌, ◌∙◌, ℕ, inl, inr, List, Vec, ap, arith, length, map, rules, subst, sym}
use Rattle.std.specs.Prelude.{slice_get, slice_index}
use Rattle.std.proofs.lemmas.Bool.{cases_eq}
use Rattle.std.proofs.lemmas.List.{length-map}
use Rattle.std.proofs.lemmas.Option.{same_Some, slice_get_within}
use Rattle.ira_order.specs.Ring.{events_of, log_of}
use Rattle.ira_view_trail.specs.Right.{IsRow}
use Rattle.ira_view_trail.proofs.Few.{few_in_all}
use Rattle.ira_view_trail.proofs.RightRows.{has_rows}
use Rattle.ira_view_trail.proofs.right.are_rows.Goals as goal

pub loop-place-preserved : goal.loop-place-preserved
loop-place-preserved g c = λ i row less at. elim (cases_eq i c.loop-place.place) [
  | inr ne ↦ c.loop-place.invariant i row (omega (arith, less, ne)) at
  | inl same ↦
      let logs = c.args.logs.now in
      let cut = c.args.cut.now in
      let line = c.args.columns.now.line in
      let row_is : c.row-row.result.now ≡ row =
      same_Some c.row-row.result.now row
      (sym c.row-row.ensures ∙ ap (slice_get c.args.columns.now.nodes) (sym same) ∙ at) in
      let events : c.len-events.result ≡ length (log_of c.args.logs.now i) =
      c.len-events.ensures.value ∙ sym (ap (λ o. length (events_of o)) c.log.ensures.value)
      ∙ ap (λ (k : ℕ). length (log_of logs k)) (sym same) in
      let line_is : c.columns.inside.line ≡ c.args.columns.now.line = search rules in
      let held = ap (slice_index cut) (c.from-in-loop-place.ensures ∙ sym same) in
      subst (λ (r : List ℕ). IsRow (length (log_of logs i)) (slice_index cut i) line r) row_is
      (subst (λ (h : ℕ). IsRow (length (log_of logs i)) h line c.row-row.result.now) held
      (subst (λ (e : ℕ). IsRow e (slice_index cut c.from-in-loop-place.result) line c.row-row.result.now) events
      (subst (λ (x : ℕ). IsRow c.len-events.result (slice_index cut c.from-in-loop-place.result) x c.row-row.result.now)
      line_is (c.is_row.ensures c.if-not-is_row.false))))
]

pub returns-clause-few : goal.returns-clause-few
returns-clause-few g c = λ yes.
    let items_of : Vec ℕ g.row.A.Denot → List ℕ = λ row. row.items in
    let rows : map items_of c.columns.inside.nodes.items ≡ c.args.columns.now.nodes = search rules in
    let places : length c.args.columns.now.nodes ≡ length c.args.logs.now =
    omega (arith, ap length rows, length-map c.columns.inside.nodes.items items_of) in
    few_in_all c.args.logs.now c.args.columns.now.nodes c.size.ensures.valid
    (has_rows c.args.logs.now c.args.cut.now c.args.columns.now.line c.args.columns.now.nodes (record {
      places = places;
      each = λ i row at. c.loop-place.invariant i row
          (omega (arith, slice_get_within c.args.columns.now.nodes i row at, places, c.loop-place-test.false)) at;
    }))

pub returns-clause-rows : goal.returns-clause-rows
returns-clause-rows g c = λ yes.
    let items_of : Vec ℕ g.row.A.Denot → List ℕ = λ row. row.items in
    let rows : map items_of c.columns.inside.nodes.items ≡ c.args.columns.now.nodes = search rules in
    let places : length c.args.columns.now.nodes ≡ length c.args.logs.now =
    omega (arith, ap length rows, length-map c.columns.inside.nodes.items items_of) in
    record {
      places = places;
      each = λ i row at. c.loop-place.invariant i row
          (omega (arith, slice_get_within c.args.columns.now.nodes i row at, places, c.loop-place-test.false)) at;
    }
