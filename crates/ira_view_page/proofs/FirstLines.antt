-- The first line of a text.
use Rattle.std.proofs.Common.{◌≡◌, ℕ, List, ◌∷◌, ◌++◌, Some, sym, ap, ◌∙◌, take, drop, nat_eq, append_assoc}
use Rattle.std.specs.Prelude.{codes, position}
use Rattle.std.proofs.lemmas.List.{take-append-drop, append_cancel_left}
use Rattle.ira_event.proofs.LogReading.{line_end_at}

rest_is : (text : List ℕ) (i : ℕ) (more : List ℕ) → text ≡ take i text ++ codes "\n" ++ more → drop i text ≡ 10 ∷ more
rest_is text i more e =
    let same = take-append-drop i text ∙ e ∙ append_assoc (take i text) (codes "\n") more in
    append_cancel_left (take i text) (drop i text) (10 ∷ more) same

-- the first line feed is where `position` says
pub first_feed : (text : List ℕ) (i : ℕ) → position (λ c. nat_eq c 10) text ≡ Some i
    → text ≡ take i text ++ codes "\n" ++ drop 1 (drop i text)
first_feed text i e =
    let f = line_end_at text i e in
    let after : drop 1 (drop i text) ≡ f.more = ap (drop 1) (rest_is text i f.more f.parts) in
    f.parts ∙ ap (λ m. take i text ++ codes "\n" ++ m) (sym after)
