use Rattle.std.proofs.Common.{◌≡◌, ◌≢◌, ◌<◌, ◌∙◌, ℕ, List, [], ◌∷◌, All, ap, arith, get_or, length, map, nat_eq, refl, subst, sym, true}
use Rattle.std.specs.Borrow.{Bor}
use Rattle.std.specs.Cmp.Lexicographic.{pointwise}
use Rattle.std.specs.Option.{unwrap_or}
use Rattle.std.proofs.lemmas.List.{get_or-map, length-map}
use Rattle.clap.specs.Walk.{Text}
use Rattle.ira_main_cli.proofs.command_line.folders.Goals as goal

-- a name that is the same as the empty one is empty
no_letters : (name : Text) → pointwise nat_eq name [] ≡ true → name ≡ []
no_letters [] same = refl
no_letters (b ∷ bs) same = cc

-- where none of the names is empty, that of no folder is
none_empty : (folders : List (Bor Text)) (names : List Text) → names ≡ map (λ (f : Bor Text). f.now) folders
    → All (λ n. n ≢ []) names → (k : ℕ) (d : Bor Text) → k < length folders → (get_or folders k d).now ≢ []
none_empty folders names same named k d within =
    let now : Bor Text → Text = λ f. f.now in
    subst (λ n. n ≢ []) (get_or-map now folders k d [] within)
    (subst (All (λ n. n ≢ [])) same named k [] (subst (λ n. k < n) (sym (length-map folders now)) within))

-- so none is found
none_found : (folders : List (Bor Text)) (names : List Text) → names ≡ map (λ (f : Bor Text). f.now) folders
    → All (λ n. n ≢ []) names
    → (k : ℕ) × (k < length folders) × ((d : Bor Text) → pointwise nat_eq (get_or folders k d).now [] ≡ true) → ⊥
none_found [] names same named found = omega (arith, found.1)
none_found (f ∷ fs) names same named found =
    none_empty (f ∷ fs) names same named found.0 f found.1 (no_letters _ (found.2 f))

pub returns-in-Some-names-clause-refused : goal.returns-in-Some-names-clause-refused
returns-in-Some-names-clause-refused c = λ folders.
    let same = ap (λ names. unwrap_or names []) (sym folders.given ∙ c.in-Some-names.ensures) in
    absurd (none_found c.in-Some-names.names.now folders.names same folders.named c.if-contains.ensures.cases)
