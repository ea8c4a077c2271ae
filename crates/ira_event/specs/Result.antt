-- What is said of a result unless it is one error.
use Rattle.std.specs.Prelude.{◌≡◌, ◌⊎◌, Result, Err}

-- the result is this error, or the fact holds
abbrev pub UnlessErr : {T E : Type 0} → Result T E → E → Type 0 → Type 0
UnlessErr r e P = (r ≡ Err e) ⊎ P
