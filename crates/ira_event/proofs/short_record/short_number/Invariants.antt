use Rattle.std.proofs.Common.{◌≡◌, ◌+◌, ◌-◌, ◌^◌, ◌<◌, ◌≤◌, drop}
use Rattle.ira_event.specs.Scan.{digits_from}
use Rattle.ira_event.proofs.short_record.short_number.Given as goal

abbrev pub invariant-loop-i : goal.invariant-loop-i
invariant-loop-i l = record {
  digits : digits_from l.value (drop (l.start + l.i) l.text) ≡ digits_from (l.first - 48) (drop (l.start + 1) l.text);
  small : l.value < 10 ^ l.i;
  positive : 1 ≤ l.value;
}
