-- Room in units of 16 bytes.
use Rattle.std.specs.Prelude.{ℕ, ◌/◌}
use mir.Syntax.{w128, ty_int, ty_array}
use base.Fml.{Fml}
use denote.RawPtr.{Ptr, room_for}

-- as many units as are in n bytes, from p on, which is aligned to 16: nothing lies in them, and they are nobody else's
abbrev pub lies_free : ℕ → Ptr → Fml
lies_free n p = room_for (ty_array (ty_int w128) (n / 16)) p
