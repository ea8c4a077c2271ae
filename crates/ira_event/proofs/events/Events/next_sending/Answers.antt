use Rattle.std.proofs.Common.{rules}
use Rattle.ira_event.specs.Messages.{sending}
use Rattle.ira_event.proofs.Passing.{passes_one}
use Rattle.ira_event.proofs.events.Events.next_sending.Goals as goal

pub loop-first-preserved : goal.loop-first-preserved
loop-first-preserved c = record {
  plain = search rules;
  messages = search rules;
  passed = passes_one sending _ _ _ c.in-Some.first.now c.loop-first.invariant.passed (search rules) (search rules);
}

pub loop-first-2-preserved : goal.loop-first-2-preserved
loop-first-2-preserved c = record {
  packed = search rules;
  plain = search rules;
  messages = search rules;
  passed = passes_one sending _ _ _ c.in-Some-split_first.first.now c.loop-first-2.invariant.passed (search rules)
      (search rules);
}
