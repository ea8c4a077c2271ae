use Rattle.std.proofs.Common.{◌∙◌, ◌∷◌, ◌++◌, ℕ, List, Some, [], ap, arith, rules, subst, sym}
use Rattle.std.proofs.lemmas.Option.{slice_get-get_or}
use Rattle.ira_main.proofs.FilesRead.{reads_next, reads_to}
use Rattle.ira_main.specs.FilesRead.{HasFound}
use Rattle.ira_main.proofs.read_files.FilesShare.read_on.Goals as goal

pub returns-then-not-branch-clause-all : goal.returns-then-not-branch-clause-all
returns-then-not-branch-clause-all g c =
    let names = c.args.names.now in
    let i = c.loop-self.self.read in
    let before = c.loop-self.invariant.1 in
    let at = slice_get-get_or names i _ c.loop-self-test.true ∙ ap (λ (x : List ℕ). Some x) (sym c.index-names-self.is) in
    let fails = rw (c.if-not-branch.true, c.as_str-name.ensures) at c.in_ok-read_into.ensures in
    (before.0, _, reads_to g.F.TextSource.reads c.args.shelf.now names before.0 i _ at before.2 fails, search rules)

pub loop-self-preserved : goal.loop-self-preserved
loop-self-preserved g c =
    let names = c.args.names.now in
    let i = c.loop-self.self.read in
    let before = c.loop-self.invariant.1 in
    let text = c.read_into.new.text in
    let at = slice_get-get_or names i _ c.loop-self-test.true ∙ ap (λ (x : List ℕ). Some x) (sym c.index-names-self.is) in
    let gives = rw (c.if-not-branch.false, c.as_str-name.ensures) at c.in_ok-read_into.ensures in
    let takes = subst (λ (t : List ℕ). (texts : List (List ℕ)) → HasFound c.args.keep c.loop-self.self.logs texts
    → HasFound c.args.keep c.take.new.self (texts ++ t ∷ [])) c.bytes.ensures c.in_ok-take.ensures in (
      omega (arith, c.loop-self-test.true),
      (
        before.0 ++ text ∷ [],
        takes before.0 before.1,
        reads_next g.F.TextSource.reads c.args.shelf.now names before.0 i _ text at before.2 gives,
      ),
    )
