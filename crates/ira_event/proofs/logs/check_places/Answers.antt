use Rattle.std.proofs.Common.{◌≡◌, refl, arith, length}
use Rattle.std.proofs.lemmas.Option.{slice_get_read, slice_get_within}
use Rattle.ira_event.proofs.Gathering.{below-more}
use Rattle.ira_event.specs.Log.{IsLog}
use Rattle.ira_event.proofs.logs.check_places.Goals as goal

pub returns-then-place-i-clause-err : goal.returns-then-place-i-clause-err
returns-then-place-i-clause-err g c =
    let log = c.index-logs-from.result in
    let at = slice_get_read c.args.logs.now (length c.args.logs.now) c.loop-i.i log refl (omega arith) cc in (
      c.loop-i.i,
      refl,
      record {
        log = log;
        at = at;
        other = λ e. c.if-place-i.true (cc);
        least = c.loop-i.invariant.places;
      },
    )

pub loop-i-preserved : goal.loop-i-preserved
loop-i-preserved g c =
    let log = c.index-logs-from.result in
    let at = slice_get_read c.args.logs.now (length c.args.logs.now) c.loop-i.i log refl (omega arith) cc in
    record {
      places = below-more c.args.logs.now (λ j x. x.place ≡ j) c.loop-i.i log at (cc) c.loop-i.invariant.places;
      valid = below-more c.args.logs.now (λ _ x. IsLog x) c.loop-i.i log at c.place.ensures.valid
          c.loop-i.invariant.valid;
    }

pub returns-clause-ok : goal.returns-clause-ok
returns-clause-ok g c = λ i log at.
    let within = slice_get_within c.args.logs.now i log at in
    c.loop-i.invariant.places i log (omega arith) at

pub returns-clause-valid : goal.returns-clause-valid
returns-clause-valid g c = λ i log at.
    let within = slice_get_within c.args.logs.now i log at in
    c.loop-i.invariant.valid i log (omega arith) at
