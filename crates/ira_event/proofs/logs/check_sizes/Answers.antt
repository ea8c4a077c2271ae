use Rattle.std.proofs.Common.{◌≡◌, refl, arith, length}
use Rattle.std.proofs.lemmas.Option.{slice_get_read, slice_get_within}
use Rattle.std.proofs.lemmas.Bool.Decides.{nat_tests}
use Rattle.ira_event.proofs.Gathering.{below-more}
use Rattle.ira_event.proofs.logs.check_sizes.Goals as goal

pub returns-then-ne-clause-err : goal.returns-then-ne-clause-err
returns-then-ne-clause-err g c =
    let log = c.index-logs-from.result in
    let at = slice_get_read c.args.logs.now (length c.args.logs.now) c.loop-i.i log refl (omega arith) cc in (
      c.loop-i.i,
      refl,
      record {
        log = log;
        at = at;
        other = λ e. absurd (grind (arith, nat_tests));
        least = c.loop-i.invariant;
      },
    )

pub loop-i-preserved : goal.loop-i-preserved
loop-i-preserved g c =
    let log = c.index-logs-from.result in
    let at = slice_get_read c.args.logs.now (length c.args.logs.now) c.loop-i.i log refl (omega arith) cc in
    below-more c.args.logs.now (λ _ x. x.nodes ≡ c.args.size) c.loop-i.i log at (grind (arith, nat_tests))
    c.loop-i.invariant

pub returns-clause-ok : goal.returns-clause-ok
returns-clause-ok g c = λ i log at.
    let within = slice_get_within c.args.logs.now i log at in
    c.loop-i.invariant i log (omega arith) at
