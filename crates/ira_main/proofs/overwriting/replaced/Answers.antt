use Rattle.std.proofs.Common.{All, arith, refl, subst}
use Rattle.std.proofs.lemmas.List.{take_all}
use Rattle.std.proofs.lemmas.List.Elements.{All-more}
use Rattle.std.proofs.lemmas.Option.{slice_get_read}
use Rattle.ira_main.specs.Overwriting.{IsOtherFile}
use Rattle.ira_main.proofs.overwriting.replaced.Goals as goal

pub returns-then-is_same_file : goal.returns-then-is_same_file
returns-then-is_same_file g c =
    let same = c.is_same_file.ensures.0 c.if-is_same_file.true in
    record {
      index = c.loop-name.name-index;
      named = rw c.as_str-path.ensures (slice_get_read c.args.names.now _ c.loop-name.name-index c.name-item.result refl
          c.loop-name-test.true c.name-item.is);
      same = (same.0, rw same.1 at c.look_up-file.ensures, rw same.2 at c.look_up.ensures);
    }

pub loop-name-preserved : goal.loop-name-preserved
loop-name-preserved g c = record {
  within = omega arith;
  none = All-more (IsOtherFile g.F.TextSource.reads c.args.shelf.now c.args.written.now) c.args.names.now
      c.loop-name.name-index c.name-item.result c.loop-name-test.true c.loop-name.invariant.none
      (subst (IsOtherFile g.F.TextSource.reads c.args.shelf.now c.args.written.now) c.name-item.is (
        c.look_up-file.result,
        c.look_up-file.ensures,
        λ file leads. (
          c.look_up.result,
          rw c.as_str-path.ensures at c.look_up.ensures,
          λ is.
              let yes = c.is_same_file.ensures.1 (file, leads, is) in
              let no = c.if-is_same_file.false in
              cc,
        ),
      ));
}

pub returns : goal.returns
returns g c =
    subst (All (IsOtherFile g.F.TextSource.reads c.args.shelf.now c.args.written.now))
    (take_all c.loop-name.name-index c.args.names.now (omega (arith, c.loop-name-test.false))) c.loop-name.invariant.none
