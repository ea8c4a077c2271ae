use Rattle.std.proofs.Common.{ℕ, List, [], ◌∷◌, ◌++◌, Ok, arith, inl, inr, rules, subst}
use Rattle.std.specs.Prelude.{option_map}
use Rattle.ira_mend.specs.RecordedLogs.{HasRecorded}
use Rattle.ira_main.proofs.LeftLogs.{leave_all, leaves_next, leaves_to, left_as, unleft_as}
use Rattle.ira_main.specs.LeftFiles.{MayBeLost}
use Rattle.ira_main.proofs.left_files.read_left.Goals as goal

pub loop-place-init : goal.loop-place-init
loop-place-init g c = record { within = omega arith; taken = ([], c.new-recorded.ensures, tt) }

pub returns-then-not-branch : goal.returns-then-not-branch
returns-then-not-branch g c =
    let Lost = MayBeLost (option_map (λ places. places.items) c.args.lost.now) c.args.left.now.in_folder in
    let taken = c.loop-place.invariant.taken in
    let none = unleft_as g.F.TextSource.reads c.args.shelf.now _ _ (Lost c.loop-place.place) c.may_be_lost-is_lost.ensures
    (rw (c.if-not-branch.true, c.as_str.ensures) at c.in_ok-find_into.ensures) in
    inl (
      taken.0,
      _,
      leaves_to g.F.TextSource.reads Lost c.args.shelf.now c.args.left.now.names.items c.loop-place.place _ (rw c.deref-name-items.ensures.value at c.name-item.is) taken.0
          (omega arith) taken.2 none,
      search rules,
    )

pub loop-place-preserved : goal.loop-place-preserved
loop-place-preserved g c =
    let Lost = MayBeLost (option_map (λ places. places.items) c.args.lost.now) c.args.left.now.in_folder in
    let taken = c.loop-place.invariant.taken in
    let text = c.find_into.new.text in
    let takes = subst (λ text. (texts : List (List ℕ)) → HasRecorded c.loop-place.recorded texts
    → HasRecorded c.take.new.self (texts ++ text ∷ [])) c.bytes.ensures c.in_ok-take.ensures.ok in
    let found = left_as g.F.TextSource.reads c.args.shelf.now _ _ (Lost c.loop-place.place) c.may_be_lost-is_lost.ensures
    (Ok text) (rw (c.if-not-branch.false, c.as_str.ensures) at c.in_ok-find_into.ensures) in
    record {
      within = omega arith;
      taken = (
        taken.0 ++ text ∷ [],
        takes taken.0 taken.1,
        leaves_next g.F.TextSource.reads Lost c.args.shelf.now c.args.left.now.names.items c.loop-place.place _ (rw c.deref-name-items.ensures.value at c.name-item.is) taken.0
            (omega arith) taken.2 text found,
      );
    }

pub returns-then-not-are_short : goal.returns-then-not-are_short
returns-then-not-are_short g c =
    let taken = c.loop-place.invariant.taken in (
      taken.0,
      taken.1,
      leave_all g.F.TextSource.reads _ c.args.shelf.now c.args.left.now.names.items c.loop-place.place taken.0
          (omega (arith, c.loop-place-test.false)) taken.2,
    )

pub returns-in-Ok : goal.returns-in-Ok
returns-in-Ok g c =
    let taken = c.loop-place.invariant.taken in (
      taken.0,
      taken.1,
      leave_all g.F.TextSource.reads _ c.args.shelf.now c.args.left.now.names.items c.loop-place.place taken.0
          (omega (arith, c.loop-place-test.false)) taken.2,
    )

pub returns-in-Err : goal.returns-in-Err
returns-in-Err g c =
    let taken = c.loop-place.invariant.taken in
    inr (record {
      texts = taken.0;
      given = leave_all g.F.TextSource.reads _ c.args.shelf.now c.args.left.now.names.items c.loop-place.place taken.0
          (omega (arith, c.loop-place-test.false)) taken.2;
      short = (c.are_short.ensures taken.0 taken.1).0 c.if-not-are_short.false;
      why = rw (c.in-Err.is, c.deref.ensures.value) at c.in_ok-read_in_turn.ensures;
    })
