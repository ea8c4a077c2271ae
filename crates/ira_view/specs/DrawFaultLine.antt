-- The line of a picture that would have too many events, on standard error.
use Rattle.std.specs.Prelude.{ℕ, List, ◌++◌, codes, decimal}

-- so many
abbrev pub too_many_text : ℕ → List ℕ
too_many_text events =
    codes "ira: " ++ decimal events
    ++ codes " events are too many for one picture, which holds 20000: give --from and --to\n"
