use Rattle.std.proofs.Common.{◌≡◌, [], true, ◌++◌, length}
use Rattle.std.specs.List.{list_all}
use Rattle.ira_event.specs.Event.{is_event}
use Rattle.ira_event.specs.Messages.{sending, sent, PassesNo}
use Rattle.ira_event.proofs.events.Events.next_sending.Given as goal

abbrev pub invariant-loop-first : goal.invariant-loop-first
invariant-loop-first l = record {
  plain : list_all is_event l.self-inside.plain.now ≡ true;
  messages : sent (l.self-inside.packed.now ++ l.self-inside.plain.now) ≡ sent l.fn.self;
  passed : PassesNo sending l.fn.self (l.self-inside.packed.now ++ l.self-inside.plain.now);
}

abbrev pub decreases-loop-first : goal.decreases-loop-first
decreases-loop-first l = length l.self-inside.packed.now

abbrev pub invariant-loop-first-2 : goal.invariant-loop-first-2
invariant-loop-first-2 l = record {
  packed : l.self-inside.packed.now ≡ [];
  plain : list_all is_event l.self-inside.plain.now ≡ true;
  messages : sent l.self-inside.plain.now ≡ sent l.fn.self;
  passed : PassesNo sending l.fn.self l.self-inside.plain.now;
}

abbrev pub decreases-loop-first-2 : goal.decreases-loop-first-2
decreases-loop-first-2 l = length l.self-inside.plain.now
