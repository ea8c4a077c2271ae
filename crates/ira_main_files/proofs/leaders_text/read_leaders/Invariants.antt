use Rattle.std.proofs.Common.{◌≡◌, ◌+◌, length}
use Rattle.ira_main_files.specs.LeadersText.{BeginsWithPlaces}
use Rattle.ira_main_files.proofs.leaders_text.read_leaders.Given as goal

abbrev pub invariant-loop-line : goal.invariant-loop-line
invariant-loop-line g l = record {
  before : BeginsWithPlaces l.text l.leaders.items l.rest;
  number : l.line ≡ length l.leaders.items + 1;
}
