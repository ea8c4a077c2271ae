use Rattle.std.proofs.Common.{◌≡◌, ◌≤◌, ℕ, List, Ok, arith, inl, inr, refl, rules, subst, sym}
use Rattle.std.proofs.lemmas.Bool.{cases_eq}
use Rattle.std.specs.Prelude.{⊤}
use Rattle.ira_main_files.specs.FileName.{log_name}
use Rattle.ira_main.proofs.LeftLogs.{left_as, unleft_as}
use Rattle.ira_main.specs.LeftFiles.{LeavesNumber}
use Rattle.ira_main.specs.LeftFiles.SaysLeft.{said}
use Rattle.ira_main.specs.SourceNames.{SaysLogs}
use Rattle.ira_main.specs.SourceNames.SaysLogs.{alone, of_head}
use Rattle.ira_main.proofs.left_files.number_left.Goals as goal

-- a text that says one at most says one
says_one : (text : List ℕ) (number : ℕ) → SaysLogs text number → number ≤ 1 → SaysLogs text 1
says_one text number (of_head head rest few begins is) le = absurd (omega (arith, begins.size.0, is, le))
says_one text number (alone why is) le = alone why refl

pub returns-then-not-branch : goal.returns-then-not-branch
returns-then-not-branch g c =
    let named : c.as_str.result.now ≡ log_name c.args.folder.now c.loop-place.place = search rules in (
      c.loop-place.place,
      c.loop-place-test.true,
      unleft_as g.F.TextSource.reads c.args.shelf.now _ _ ⊤ (λ _. tt, λ _. refl) (rw (c.if-not-branch.true, named) at c.in_ok-find_into.ensures),
      search rules,
    )

pub returns-then-number-gt1 : goal.returns-then-number-gt1
returns-then-number-gt1 g c =
    let named : c.as_str.result.now ≡ log_name c.args.folder.now c.loop-place.place = search rules in
    let says = subst (λ t. SaysLogs t c.number_of_logs-number.result) c.bytes.ensures c.number_of_logs-number.ensures in
    let found = left_as g.F.TextSource.reads c.args.shelf.now _ _ ⊤ (λ _. tt, λ _. refl) (Ok c.find_into.new.text)
    (rw (c.if-not-branch.false, named) at c.in_ok-find_into.ensures) in
    said c.loop-place.place c.loop-place-test.true (c.find_into.new.text, found, says) c.if-number-gt1.true
    c.loop-place.invariant

pub loop-place-preserved : goal.loop-place-preserved
loop-place-preserved g c = λ i lt.
    let named : c.as_str.result.now ≡ log_name c.args.folder.now c.loop-place.place = search rules in
    let says = subst (λ t. SaysLogs t c.number_of_logs-number.result) c.bytes.ensures c.number_of_logs-number.ensures in
    let one = says_one c.find_into.new.text c.number_of_logs-number.result says (omega arith) in
    let found = left_as g.F.TextSource.reads c.args.shelf.now _ _ ⊤ (λ _. tt, λ _. refl) (Ok c.find_into.new.text)
    (rw (c.if-not-branch.false, named) at c.in_ok-find_into.ensures) in
    elim (cases_eq i c.loop-place.place) [
      | inl same ↦
          subst (λ k. LeavesNumber g.F.TextSource.reads c.args.shelf.now c.args.folder.now k 1) (sym same)
          (c.find_into.new.text, found, one)
      | inr other ↦ c.loop-place.invariant i (omega (arith, lt, other))
    ]
