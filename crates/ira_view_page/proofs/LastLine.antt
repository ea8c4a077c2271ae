-- The last line of a text, found by its line feed.
use Rattle.std.proofs.Common.{◌≡◌, ◌≢◌, ◌∙◌, ℕ, ◌+◌, ◌<◌, ◌∷◌, ◌++◌, inl, inr, Bool, true, false, List, [], get_or}
use Rattle.std.proofs.Common.{length, nat_eq, take, drop, refl, sym, ap, arith}
use Rattle.std.specs.Prelude.{IfSome, slice_index}
use Rattle.std.proofs.lemmas.Bool.Decides.{nat_tests}
use Rattle.std.proofs.lemmas.List.{get_or-drop, get_or_default, length-drop, take-append-drop, take_more}
use Rattle.std.proofs.lemmas.List.Folds.{list_any_none}
use Rattle.ira_event.specs.NextLine.{HasNoLineFeed}
use Rattle.ira_view_page.specs.Lines.{IsLastLine}
use Rattle.ira_view_page.specs.Page.{kept}

no_feed : (line : List ℕ) → ((k : ℕ) → k < length line → slice_index line k ≢ 10) → HasNoLineFeed line
no_feed line none =
    list_any_none (λ c. nat_eq c 10) line (λ k d l.
    let other : get_or line k d ≢ 10 = λ e. none k l (get_or_default line k 0 d l ∙ e) in grind (arith, nat_tests))

-- a text without a line feed is its last line
pub only_line : (text : List ℕ) → ((k : ℕ) → k < length text → slice_index text k ≢ 10) → IsLastLine text text
only_line text none = record { before = []; ends = (refl, no_feed text none); begins = inl refl }

-- what stands after the last line feed is the last line
pub after_last : (text : List ℕ) (i : ℕ) → i < length text → slice_index text i ≡ 10
    → ((k : ℕ) → i < k → k < length text → slice_index text k ≢ 10) → IsLastLine text (drop (i + 1) text)
after_last text i l at none = record {
  before = take (i + 1) text;
  ends = (
    sym (take-append-drop (i + 1) text),
    no_feed (drop (i + 1) text) (λ k within e. none (i + 1 + k) (omega arith)
        (omega (arith, within, length-drop (i + 1) text)) (sym (get_or-drop (i + 1) text k 0) ∙ e)),
  );
  begins = inr (take i text, take_more text i 0 l ∙ ap (λ c. take i text ++ c ∷ []) at);
}

-- what holds of what is held holds of it where it is whole
pub where_whole : (is_whole : Bool) (held : List ℕ) (P : List ℕ → Type 0) → P held → IfSome (kept is_whole held) P
where_whole true held P p = p
where_whole false held P p = tt
