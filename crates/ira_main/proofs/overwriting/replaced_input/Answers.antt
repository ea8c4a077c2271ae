use Rattle.std.proofs.Common.{ℕ, suc, List, ◌∷◌, MatchOption, None, Option, Some, refl}
use Rattle.std.proofs.lemmas.List.Elements.{All-cons}
use Rattle.std.specs.Borrow.{Bor}
use Rattle.ira_main_files.specs.Shelf.{Reading}
use Rattle.ira_main.specs.Overwriting.{IsOtherFile, Replaces, ReplacesNone}
use Rattle.ira_main.proofs.overwriting.replaced_input.Goals as goal

-- what is found among names after one that leads elsewhere
rest : {S : Type 0} (reads : Reading S) (shelf : S) (written first : List ℕ) (names : List (List ℕ))
    (found : Option (Bor (List ℕ))) → IsOtherFile reads shelf written first
    → MatchOption found (ReplacesNone reads shelf written names) (λ name. Replaces reads shelf written names name.now)
    → MatchOption found (ReplacesNone reads shelf written (first ∷ names))
    (λ name. Replaces reads shelf written (first ∷ names) name.now)
rest reads shelf written first names (Some name) other found =
    record { index = suc found.index; named = found.named; same = found.same }
rest reads shelf written first names None other none = All-cons (IsOtherFile reads shelf written) first names other none

pub returns-in_default : goal.returns-in_default
returns-in_default g c = rw c.in_default.is c.replaced.ensures

pub returns-then-is_same_file : goal.returns-then-is_same_file
returns-then-is_same_file g c =
    let same = c.is_same_file.ensures.0 c.if-is_same_file.true in
    rw c.in-Some.is (record {
      index = 0;
      named = refl;
      same = (same.0, rw same.1 at c.look_up.ensures, rw same.2 at c.look_up-2.ensures);
    })

pub returns : goal.returns
returns g c =
    rw c.in-Some.is (rest g.F.TextSource.reads c.args.shelf.now c.args.written.now c.in-Some.question.now c.args.logs.now
    c.replaced-2.result (
      c.look_up.result,
      c.look_up.ensures,
      λ file leads. (
        c.look_up-2.result,
        c.look_up-2.ensures,
        λ is.
            let yes = c.is_same_file.ensures.1 (file, leads, is) in
            let no = c.if-is_same_file.false in
            cc,
      ),
    ) c.replaced-2.ensures)
