use Rattle.std.proofs.Common.{◌≡◌, ◌-◌, ◌^◌, length, min, take}
use Rattle.ira_view_page.specs.Printable.{shown}
use Rattle.ira_view_page.proofs.width.shown_width.Given as goal

abbrev pub invariant-loop-byte : goal.invariant-loop-byte
invariant-loop-byte l = l.width ≡ min (length (shown (take l.byte-index l.bytes))) (2 ^ 64 - 1)
