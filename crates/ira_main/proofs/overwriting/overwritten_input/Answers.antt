use Rattle.std.proofs.Common.{◌≡◌, ◌∙◌, ℕ, List, MatchOption, None, Option, Some, ap, codes, subst, sym}
use Rattle.std.proofs.lemmas.Slice.Eq.{bytes_eq-Decides}
use Rattle.std.specs.Borrow.{Bor}
use Rattle.ira_main_files.specs.Shelf.{Reading}
use Rattle.ira_main.specs.Overwriting.{KeepsFiles, Replaces, ReplacesInput, ReplacesNone}
use Rattle.ira_main.proofs.overwriting.overwritten_input.Goals as goal

-- what is found where this file is made
of_one : {S : Type 0} (reads : Reading S) (shelf : S) (made : Option (Bor (List ℕ))) (file : Bor (List ℕ))
    (names : List (List ℕ)) (found : Option (Bor (List ℕ))) → made ≡ Some file
    → MatchOption found (ReplacesNone reads shelf file.now names) (λ name. Replaces reads shelf file.now names name.now)
    → MatchOption found (KeepsFiles reads shelf made names) (λ name. ReplacesInput reads shelf made names name.now)
of_one reads shelf made file names (Some name) is found = (file, is, found)
of_one reads shelf made file names None is none = λ other wanted dash.
    let same : file ≡ other = cc in
    subst (λ (f : Bor (List ℕ)). ReplacesNone reads shelf f.now names) same none

pub returns-in_default : goal.returns-in_default
returns-in_default g c = λ file is other. let none = c.in_default.is in cc

pub returns-then-eq : goal.returns-then-eq
returns-then-eq g c = λ file is other.
    let dash = (bytes_eq-Decides c.in-Some.made.now (codes "-")).0 (sym c.eq.ensures ∙ c.if-eq.true) in
    let same : c.in-Some.made ≡ file = let here = c.in-Some.is in cc in
    absurd (other (ap (λ (f : Bor (List ℕ)). f.now) (sym same) ∙ dash))

pub returns : goal.returns
returns g c = of_one g.F.TextSource.reads c.args.shelf.now c.args.made c.in-Some.made _ c.replaced_input.result
    c.in-Some.is c.replaced_input.ensures
