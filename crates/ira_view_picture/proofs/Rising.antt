-- Columns that rise.
use Rattle.std.proofs.Common.{ℕ, ◌<◌, List, length, arith}
use Rattle.std.specs.Prelude.{slice_index}
use Rattle.std.proofs.lemmas.Option.{slice_get-get_or}
use Rattle.ira_order.specs.FaultyEvent.{Rises}

-- columns by their places
pub rises_at : (columns : List ℕ) → Rises (λ x. x) columns → (a b : ℕ) → a < b → b < length columns
    → slice_index columns a < slice_index columns b
rises_at columns rise a b less within =
    rise a b (slice_index columns a) (slice_index columns b) less
    (slice_get-get_or columns a 0 (omega (arith, less, within))) (slice_get-get_or columns b 0 within)
