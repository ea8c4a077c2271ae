use Rattle.std.proofs.Common.{◌≡◌, ◌<◌, refl, sym, arith, length}
use Rattle.std.proofs.lemmas.Option.{slice_get_read, slice_get_within}
use Rattle.ira_event.proofs.Gathering.{below-more}
use Rattle.ira_event.proofs.logs.check_versions.Goals as goal

pub returns-then-version-clause-err : goal.returns-then-version-clause-err
returns-then-version-clause-err g c =
    let first = c.index-logs-0.result in
    let some : 0 < length c.args.logs.now = omega (arith, c.requires, c.get-i-end.ensures.valid.0) in
    let begins = slice_get_read c.args.logs.now (length c.args.logs.now) 0 first refl some cc in
    let log = c.index-logs-from.result in
    let at = slice_get_read c.args.logs.now (length c.args.logs.now) c.loop-i.i log refl (omega arith) cc in (
      c.version-version.result,
      c.loop-i.i,
      refl,
      record { first = first; is_first = begins; names = sym c.version-version.ensures.value },
      record { log = log; at = at; other = λ e. c.if-version.true (cc); least = c.loop-i.invariant },
    )

pub loop-i-preserved : goal.loop-i-preserved
loop-i-preserved g c =
    let log = c.index-logs-from.result in
    let at = slice_get_read c.args.logs.now (length c.args.logs.now) c.loop-i.i log refl (omega arith) cc in
    below-more c.args.logs.now (λ _ x. x.version ≡ c.version-version.result) c.loop-i.i log at (cc) c.loop-i.invariant

pub returns-clause-ok : goal.returns-clause-ok
returns-clause-ok g c =
    let first = c.index-logs-0.result in
    let some : 0 < length c.args.logs.now = omega (arith, c.requires, c.get-i-end.ensures.valid.0) in
    let begins = slice_get_read c.args.logs.now (length c.args.logs.now) 0 first refl some cc in (
      c.version-version.result,
      record { first = first; is_first = begins; names = sym c.version-version.ensures.value },
      λ i log at. (let within = slice_get_within c.args.logs.now i log at in c.loop-i.invariant i log (omega arith) at),
    )
