use Rattle.std.proofs.Common.{◌≡◌, arith, inl, inr, rules, subst, sym}
use Rattle.std.proofs.lemmas.Bool.{cases_eq}
use Rattle.ira_main_files.specs.FileName.{log_name}
use Rattle.ira_main.specs.Overwriting.{ReplacesNone}
use Rattle.ira_main.proofs.overwriting.overwritten.Goals as goal

pub returns-in-Some : goal.returns-in-Some
returns-in-Some g c =
    let log : c.as_str.result.now ≡ log_name c.args.folder.now c.loop-place.place = search rules in
    record {
      place = c.loop-place.place;
      few = omega (arith, c.loop-place-test.true, c.min-places.ensures);
      in_ring = omega (arith, c.loop-place-test.true, c.min-places.ensures);
      replaced = rw (c.in-Some.is, log) at c.replaced.ensures;
    }

pub loop-place-preserved : goal.loop-place-preserved
loop-place-preserved g c = λ place lt.
    let log : c.as_str.result.now ≡ log_name c.args.folder.now c.loop-place.place = search rules in
    elim (cases_eq place c.loop-place.place) [
      | inl e ↦
          subst (λ p. ReplacesNone g.F.TextSource.reads c.args.shelf.now (log_name c.args.folder.now p)
          c.args.names.now) (sym e) (rw (c.in_default.is, log) at c.replaced.ensures)
      | inr other ↦ c.loop-place.invariant place (omega (arith, lt, other))
    ]

pub returns : goal.returns
returns g c = λ place few in_ring.
    c.loop-place.invariant place (omega (arith, few, in_ring, c.min-places.ensures, c.loop-place-test.false))
