use Rattle.std.proofs.Common.{◌≡◌, ◌+◌, ◌∙◌, ℕ, List, [], Some, Vec, ap, arith, get_or, length, map, refl, subst, sym}
use Rattle.std.specs.Prelude.{slice_get}
use Rattle.std.specs.Option.{option_map}
use Rattle.std.proofs.lemmas.List.Sums.{get_or-le-sum_by, sum_by-take-le, sum_by_more}
use Rattle.std.proofs.lemmas.Option.{get_or_from_slice_get, slice_get-map, slice_get_read, slice_get_within}
use Rattle.ira_view_picture.specs.Window.{number_drawn}
use Rattle.ira_view_picture.proofs.Counts.{few_drawn}
use Rattle.ira_view_picture.proofs.picture.number_of_marks.Goals as goal

pub count_drawn-events-requires : goal.count_drawn-events-requires
count_drawn-events-requires g c =
    let items_of : Vec ℕ g.row.A.Denot → List ℕ = λ row. row.items in
    let table = c.args.columns.now.nodes in
    let rows = c.deref-node-items.result.now in
    let index : ℕ = c.loop-node.node-index in
    let row : List ℕ = c.node-item.result.items in
    let found : slice_get c.deref-node-items.result.now c.loop-node.node-index ≡ Some c.node-item.result =
    slice_get_read rows (length rows) index c.node-item.result refl c.loop-node-test.true c.node-item.is in
    let mapped : slice_get (map items_of c.deref-node-items.result.now) c.loop-node.node-index ≡ Some row =
    slice_get-map items_of rows index ∙ ap (option_map items_of) found in
    let there : slice_get c.args.columns.now.nodes c.loop-node.node-index ≡ Some row =
    subst (λ xs. slice_get xs index ≡ Some row) c.loop-node.invariant.rows mapped in
    let value : get_or c.args.columns.now.nodes c.loop-node.node-index [] ≡ row =
    get_or_from_slice_get table index row [] there in
    omega (
      arith,
      ap length (value ∙ sym c.deref.ensures.value),
      get_or-le-sum_by length table index [] (slice_get_within table index row there),
      c.requires,
    )

pub overflow_add-events : goal.overflow_add-events
overflow_add-events g c =
    let items_of : Vec ℕ g.row.A.Denot → List ℕ = λ row. row.items in
    let drawn : List ℕ → ℕ = number_drawn c.args.window in
    let table = c.args.columns.now.nodes in
    let rows = c.deref-node-items.result.now in
    let index : ℕ = c.loop-node.node-index in
    let row : List ℕ = c.node-item.result.items in
    let found : slice_get c.deref-node-items.result.now c.loop-node.node-index ≡ Some c.node-item.result =
    slice_get_read rows (length rows) index c.node-item.result refl c.loop-node-test.true c.node-item.is in
    let mapped : slice_get (map items_of c.deref-node-items.result.now) c.loop-node.node-index ≡ Some row =
    slice_get-map items_of rows index ∙ ap (option_map items_of) found in
    let there : slice_get c.args.columns.now.nodes c.loop-node.node-index ≡ Some row =
    subst (λ xs. slice_get xs index ≡ Some row) c.loop-node.invariant.rows mapped in
    let value : get_or c.args.columns.now.nodes c.loop-node.node-index [] ≡ row =
    get_or_from_slice_get table index row [] there in
    let same : drawn (get_or c.args.columns.now.nodes c.loop-node.node-index []) ≡ drawn c.deref.result.now =
    ap drawn (value ∙ sym c.deref.ensures.value) in
    omega (
      arith,
      same,
      sum_by_more drawn table index [] (slice_get_within table index row there),
      sum_by-take-le drawn table (index + 1),
      few_drawn c.args.window table,
      c.loop-node.invariant.number,
      c.count_drawn-events.ensures,
      c.requires,
    )

pub loop-node-preserved : goal.loop-node-preserved
loop-node-preserved g c =
    let items_of : Vec ℕ g.row.A.Denot → List ℕ = λ row. row.items in
    let drawn : List ℕ → ℕ = number_drawn c.args.window in
    let table = c.args.columns.now.nodes in
    let rows = c.deref-node-items.result.now in
    let index : ℕ = c.loop-node.node-index in
    let row : List ℕ = c.node-item.result.items in
    let found : slice_get c.deref-node-items.result.now c.loop-node.node-index ≡ Some c.node-item.result =
    slice_get_read rows (length rows) index c.node-item.result refl c.loop-node-test.true c.node-item.is in
    let mapped : slice_get (map items_of c.deref-node-items.result.now) c.loop-node.node-index ≡ Some row =
    slice_get-map items_of rows index ∙ ap (option_map items_of) found in
    let there : slice_get c.args.columns.now.nodes c.loop-node.node-index ≡ Some row =
    subst (λ xs. slice_get xs index ≡ Some row) c.loop-node.invariant.rows mapped in
    let value : get_or c.args.columns.now.nodes c.loop-node.node-index [] ≡ row =
    get_or_from_slice_get table index row [] there in
    let same : drawn (get_or c.args.columns.now.nodes c.loop-node.node-index []) ≡ drawn c.deref.result.now =
    ap drawn (value ∙ sym c.deref.ensures.value) in
    record {
      rows = c.loop-node.invariant.rows;
      number = omega (
        arith,
        same,
        sum_by_more drawn table index [] (slice_get_within table index row there),
        c.loop-node.invariant.number,
        c.count_drawn-events.ensures,
      );
    }
