-- A page that began empty holds what was added.
use Rattle.std.proofs.Common.{◌≡◌, ◌∙◌, ℕ, List, [], ◌++◌, Option, Some, None, Result, Ok, Err, IfOk, ap, sym}
use Rattle.std.specs.Prelude.{MatchResult}
use Rattle.ira_view_page.specs.Page.{Added}

pub finished : {E : Type 0} {P : List ℕ → Type 0} (r : Result (List ℕ) E) {a b : Option (List ℕ)} {more : List ℕ}
    → ((text : List ℕ) → text ≡ more → P text) → a ≡ Some [] → Added a more b
    → MatchResult r (λ text. b ≡ Some text) (λ _. b ≡ None) → IfOk r P
finished (Ok text) {a} {b} {more} so empty added is =
    let p = added.ends text is in
    let e = sym empty ∙ p.1 in
    let none : [] ≡ p.0 = cc in
    so text (p.2 ∙ ap (λ before. before ++ more) (sym none))
finished (Err f) so empty added is = tt
