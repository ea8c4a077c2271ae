use Rattle.std.proofs.Common.{◌≡◌, ◌≤◌, drop}
use Rattle.ira_event.specs.Scan.{digits_from, kept}
use Rattle.ira_event.proofs.scan.scan_digits.Given as goal

abbrev pub invariant-loop-i : goal.invariant-loop-i
invariant-loop-i l = record {
  value : kept (digits_from l.value (drop l.i l.text)).0 ≡ kept (digits_from l.first l.text).0;
  after : (digits_from l.value (drop l.i l.text)).1 ≡ (digits_from l.first l.text).1;
  fits : l.value ≤ 4294967295;
}
