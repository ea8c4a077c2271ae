use Rattle.std.proofs.Common.{◌≡◌, ◌++◌, List, ℕ, map, string_bytes, take}
use Rattle.std.specs.List.{zip}
use Rattle.ira_view.specs.Html.{AreLogLines}
use Rattle.ira_view.proofs.html.add_logs.Given as goal

abbrev pub invariant-loop-place : goal.invariant-loop-place
invariant-loop-place g l =
    (added : List ℕ) × AreLogLines (take l.place (zip (map g.N.HasName.name l.files) l.logs)) added
    × (string_bytes l.told ≡ string_bytes l.initial.told ++ added)
