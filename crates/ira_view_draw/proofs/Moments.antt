-- Cuts of moments.
use Rattle.std.proofs.Common.{◌≡◌, ◌∙◌, ℕ, List, [], Option, Some, ap, length, refl, sym}
use Rattle.std.specs.Prelude.{option_map}
use Rattle.std.specs.Option.{ForSome}
use Rattle.std.proofs.lemmas.Option.{get_or_from_slice_get}
use Rattle.ira_event.specs.Log.{Log}
use Rattle.ira_pred.specs.Case.{Conjunct}
use Rattle.ira_view_draw.specs.MomentLine.{asked_of, cut_with_line}
use Rattle.ira_view_moment.specs.ChosenMoment.{IsMomentOf, case_of, cut_of, numbers_of}
use Rattle.ira_view_moment.specs.declared.chosen_moment.ChosenMoment.{ChosenMoment}
use Rattle.ira_view_moment.specs.declared.chosen_moment.ChosenMoment.TheVariants.{AtEnd, AtCut, OfCase, Unmet}
use Rattle.ira_view_moment.specs.Told.{told_of}

-- a moment of logs has a number for each of them, where it has numbers
pub has_numbers : {A C : Type 0} (see : C → List ℕ) (logs : List Log) (moment : ChosenMoment A) (found : Option C)
    → option_map see found ≡ numbers_of moment → IsMomentOf logs moment
    → ForSome found (λ c. length (see c) ≡ length logs)
has_numbers see logs AtEnd found is h = λ c at. (let e = sym (ap (option_map see) at) ∙ is in absurd cc)
has_numbers see logs (AtCut cut) found is h = λ c at.
    let e = sym (ap (option_map see) at) ∙ is in
    let same : see c ≡ cut.items = cc in
    rw same (h.0 cut.items refl).0.places
has_numbers see logs (OfCase question number cut) found is h = λ c at.
    let e = sym (ap (option_map see) at) ∙ is in
    let same : see c ≡ cut.items = cc in
    rw same (h.0 cut.items refl).0.places
has_numbers see logs (Unmet case) found is h = λ c at. (let e = sym (ap (option_map see) at) ∙ is in absurd cc)

-- the cut that has a line is the one that has numbers
pub numbers_have_line : {A : Type 0} (logs : List Log) (moment : ChosenMoment A)
    → numbers_of moment ≡ cut_with_line (told_of moment) (cut_of logs moment)
numbers_have_line logs AtEnd = refl
numbers_have_line logs (AtCut cut) = refl
numbers_have_line logs (OfCase question number cut) = refl
numbers_have_line logs (Unmet number) = refl

pub asked_case : {A : Type 0} (moment : ChosenMoment A) (case : List Conjunct) → case_of moment ≡ Some case
    → asked_of (told_of moment) ≡ case
asked_case AtEnd case at = absurd cc
asked_case (AtCut cut) case at = absurd cc
asked_case (OfCase question number cut) case at = get_or_from_slice_get question.cases number case [] at
asked_case (Unmet number) case at = absurd cc
