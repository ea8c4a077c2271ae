-- The columns of a node's events rise.
use Rattle.std.proofs.Common.{◌≡◌, ℕ, suc, ◌-◌, ◌<◌, [], List, length, ◌∙◌, ap, arith}
use Rattle.std.specs.Prelude.{slice_index, slice_index_or}
use Rattle.std.proofs.lemmas.Option.{get_or_from_slice_get, slice_get_within}
use Rattle.ira_event.specs.Log.{Log}
use Rattle.ira_view_trail.specs.Columns.{AreColumnsOf, Columns, column_of}
use Rattle.ira_view_picture.specs.Rows.{AreRows}

back : (k : ℕ) → suc k - 1 ≡ k
back k = omega arith

pub rows_of : (logs : List Log) (cut : List ℕ) (columns : Columns) → AreColumnsOf logs cut columns
    → AreRows logs columns.nodes
rows_of logs cut columns are = record {
  places = are.places;
  each = λ i row at.
      let here : i < length logs = omega (arith, slice_get_within columns.nodes i row at, are.places) in
      let is : slice_index_or columns.nodes i [] ≡ row = get_or_from_slice_get columns.nodes i row [] at in
      let many = ap (λ (xs : List ℕ). length xs) is in
      record {
        count = omega (arith, many, are.events i here);
        rise = λ k h x y less at_k at_h.
            let x_is : column_of columns i (suc k) ≡ x =
            ap (slice_index (slice_index_or columns.nodes i [])) (back k)
            ∙ ap (λ (xs : List ℕ). slice_index xs k) is ∙ get_or_from_slice_get row k x 0 at_k in
            let y_is : column_of columns i (suc h) ≡ y =
            ap (slice_index (slice_index_or columns.nodes i [])) (back h)
            ∙ ap (λ (xs : List ℕ). slice_index xs h) is ∙ get_or_from_slice_get row h y 0 at_h in
            omega (
              arith,
              x_is,
              y_is,
              are.each.own i (suc k) (suc h) record {
                place = here;
                first = omega arith;
                within = omega (arith, slice_get_within row h y at_h, many, are.events i here);
              } (omega arith) (omega (arith, less)),
            );
      };
}
