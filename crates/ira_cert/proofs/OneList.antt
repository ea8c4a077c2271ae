-- A case with different places has one list of candidates for each node that it asks.
use Rattle.std.proofs.Common.{◌≡◌, ◌≢◌, ℕ, ◌<◌, inl, inr, List, Contains, get_or, length, refl, sym, ◌∙◌, ap, subst}
use Rattle.std.proofs.lemmas.Bool.{cases_order}
use Rattle.std.proofs.lemmas.List.{get_or_default}
use Rattle.std.proofs.lemmas.Option.{same_Some}
use Rattle.ira_event.specs.Log.{Log}
use Rattle.ira_pred.specs.Case.{Conjunct}
use Rattle.ira_pred.specs.Formula.{Formula}
use Rattle.ira_cand.specs.Candidates.{AreCandidates}
use Rattle.ira_cand.proofs.Passing.{one_list_of_candidates}
use Rattle.ira_cert.specs.Conjuncts.{CandidatesOf, HasDifferentPlaces}

-- conjuncts at two indices of the case are at two places
apart : (case : List Conjunct) (i j : ℕ) (c d : Conjunct) → HasDifferentPlaces case → i < j → j < length case
    → get_or case i c ≡ c → get_or case j d ≡ d → c.place ≢ d.place
apart case i j c d differ l within first second same =
    differ i j c l within (ap (λ (x : Conjunct). x.place) first ∙ same
    ∙ sym (ap (λ (x : Conjunct). x.place) (get_or_default case j c d within ∙ second)))

pub one_formula : (case : List Conjunct) (i : ℕ) (f g : Formula) → HasDifferentPlaces case
    → Contains case (record { place = i; formula = f }) → Contains case (record { place = i; formula = g }) → f ≡ g
one_formula case i f g differ a b =
    let c : Conjunct = record { place = i; formula = f } in
    let d : Conjunct = record { place = i; formula = g } in
    elim (cases_order a.0 b.0) [
      | inl same ↦ ap (λ (x : Conjunct). x.formula) (sym a.2 ∙ ap (λ (k : ℕ). get_or case k c) same
          ∙ get_or_default case b.0 c d b.1 ∙ b.2)
      | inr other ↦ elim other [
        | inl l ↦ absurd (apart case a.0 b.0 c d differ l b.1 a.2 b.2 refl)
        | inr l ↦ absurd (apart case b.0 a.0 d c differ l a.1 b.2 a.2 refl)
      ]
    ]

pub one_list : (logs : List Log) (case : List Conjunct) (i : ℕ) (xs ys : List ℕ) → HasDifferentPlaces case
    → CandidatesOf logs case i xs → CandidatesOf logs case i ys → xs ≡ ys
one_list logs case i xs ys differ a b =
    let formula : a.formula ≡ b.formula = one_formula case i a.formula b.formula differ a.asked b.asked in
    let log : a.log ≡ b.log = same_Some a.log b.log (sym a.log_is ∙ b.log_is) in
    one_list_of_candidates b.log b.formula xs ys
    (subst (λ (l : Log). AreCandidates l b.formula xs) log
    (subst (λ (f : Formula). AreCandidates a.log f xs) formula a.candidates_are))
    b.candidates_are
