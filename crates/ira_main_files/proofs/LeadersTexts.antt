-- The line of a place is scanned as it, and as nothing else.
use Rattle.std.proofs.Common.{◌≡◌, ◌∙◌, ◌<◌, ◌≤◌, ◌^◌, ℕ, List, [], ◌∷◌, ◌++◌, Some, None, ap, append-nil, append_assoc, arith, length, refl}
use Rattle.std.proofs.Common.{subst, sym}
use Rattle.std.proofs.lemmas.Grind.{flat_map-append}
use Rattle.std.proofs.lemmas.List.{length_push}
use Rattle.std.proofs.lemmas.List.Elements.{All-push}
use Rattle.std.specs.List.{flat_map}
use Rattle.std.specs.Prelude.{codes, decimal}
use Rattle.std.proofs.lemmas.Option.{same_Some}
use Rattle.ira_event.proofs.RecordLines.{kept-again, kept-takes, word-again, word-takes}
use Rattle.ira_event.proofs.Spelled.{decimal_is_numeral, numeral_is_decimal}
use Rattle.ira_event.specs.Limits.{MAX_NODES}
use Rattle.ira_event.specs.Numeral.{IsNumeral}
use Rattle.ira_event.specs.Scan.{after_word, kept, kept_at}
use Rattle.ira_main_files.specs.LeadersText.{BeginsWithNoPlace, BeginsWithPlace, BeginsWithPlaces, place_line}

line_kept : (text : List ℕ) (place : ℕ) (rest : List ℕ) → BeginsWithPlace text place rest
    → kept_at text ≡ Some (place, codes "\n" ++ rest)
line_kept text place rest is =
    let below : place < 2 ^ 64 = omega (arith, is.1) in
    let small : kept place ≡ place = omega (arith, is.1) in
    ap kept_at (is.0 ∙ append_assoc (decimal place) (codes "\n") rest)
    ∙ kept-again (decimal place) place (codes "\n" ++ rest) (decimal_is_numeral place below) refl
    ∙ ap (λ (n : ℕ). Some (n, codes "\n" ++ rest)) small

-- where it is scanned, it is the line of that place
pub place_there : (text : List ℕ) (place : ℕ) (after rest : List ℕ) → kept_at text ≡ Some (place, after)
    → after_word (codes "\n") after ≡ Some rest → place < MAX_NODES → BeginsWithPlace text place rest
place_there text place after rest scanned fed few =
    let k = kept-takes text (place, after) scanned in
    let same : k.n ≡ place = omega (arith, k.kept_is, few) in
    let below : place < 2 ^ 64 = omega (arith, few) in
    let spelled = numeral_is_decimal k.text place (subst (IsNumeral k.text) same k.is) below in (
      k.parts ∙ ap (λ t. t ++ after) spelled ∙ ap (λ t. decimal place ++ t) (word-takes (codes "\n") after rest fed)
          ∙ sym (append_assoc (decimal place) (codes "\n") rest),
      few,
    )

-- where it isn't, it is that of none
pub no_number : (text : List ℕ) → kept_at text ≡ None → BeginsWithNoPlace text
no_number text none place rest is = let e = sym none ∙ line_kept text place rest is in absurd cc

module _ (text : List ℕ) (number : ℕ) (after : List ℕ) (scanned : kept_at text ≡ Some (number, after)) where
  pub no_line_feed : after_word (codes "\n") after ≡ None → BeginsWithNoPlace text
  no_line_feed none place rest is =
      let same = same_Some _ _ (sym scanned ∙ line_kept text place rest is) in
      let e : after_word (codes "\n") after ≡ Some rest =
      ap (λ (p : ℕ × List ℕ). after_word (codes "\n") p.1) same ∙ word-again (codes "\n") rest in
      absurd cc

  pub too_large : MAX_NODES ≤ number → BeginsWithNoPlace text
  too_large large place rest is =
      let same = same_Some _ _ (sym scanned ∙ line_kept text place rest is) in
      let e : number ≡ place = ap (λ (p : ℕ × List ℕ). p.0) same in
      absurd (omega (arith, e, is.1, large))

-- one line more
pub one_more : (text leaders rest : List ℕ) (place : ℕ) (after : List ℕ) → BeginsWithPlaces text leaders rest
    → BeginsWithPlace rest place after → length leaders < MAX_NODES → BeginsWithPlaces text (leaders ++ place ∷ []) after
one_more text leaders rest place after before is few = record {
  lines = before.lines ∙ ap (λ t. flat_map place_line leaders ++ t) is.0
      ∙ sym (append_assoc (flat_map place_line leaders) (place_line place) after)
      ∙ ap (λ t. t ++ after) (sym (flat_map-append place_line leaders (place ∷ []) ∙ ap (λ t. flat_map place_line leaders ++ t)
      (append-nil (place_line place))));
  each = All-push (λ p. p < MAX_NODES) leaders place before.each is.1;
  few = omega (arith, few, length_push leaders place);
}
