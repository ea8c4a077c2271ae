-- Logs are those of one ring, or have a head fault.
use Rattle.std.proofs.Common.{◌≡◌, ◌≢◌, ℕ, zero, suc, ◌<◌, ◌⊎◌, inl, inr, List, [], ◌∷◌, Some, length, refl, sym, ◌∙◌}
use Rattle.std.proofs.Common.{ap, subst, arith}
use Rattle.std.specs.Prelude.{slice_get}
use Rattle.std.proofs.lemmas.Bool.{cases_eq}
use Rattle.ira_event.specs.declared.head_fault.HeadFault.{HeadFault}
use Rattle.ira_event.specs.declared.head_fault.HeadFault.TheVariants.{Number, Size, Place, Version}
use Rattle.ira_event.specs.Log.{Log, IsLog}
use Rattle.ira_event.specs.Logs.{EachLog, AreLogs, HasNumber, HasVersion, IsFirstOther, HeadFaultOf, wrong_number}
use Rattle.ira_event.specs.Logs.{wrong_size, wrong_place, wrong_version}
use Rattle.ira_event.proofs.Gathering.{logs-built}
use Rattle.ira_event.proofs.TextsAnswered.{Decided}

-- the fact holds of each log, or one is the first of which it doesn't
pub each_or_first : (logs : List Log) (P : ℕ → Log → Type 0) → ((i : ℕ) (log : Log) → Decided (P i log))
    → EachLog logs P ⊎ ((i : ℕ) × IsFirstOther logs P i)
each_or_first [] P decided = inl (λ i log at. absurd cc)
each_or_first (l ∷ logs) P decided = elim (decided 0 l) [
  | inr other ↦ inr (
    0,
    record {
      log = l;
      at = refl;
      other = other;
      least = λ j before lt at. absurd (omega (arith, lt));
    },
  )
  | inl here ↦ elim (each_or_first logs (λ i. P (suc i)) (λ i. decided (suc i))) [
    | inl all ↦ inl (below all here)
    | inr o ↦ inr (suc o.0, record { log = o.1.log; at = o.1.at; other = o.1.other; least = least o.0 o.1.least here })
  ]
]
  where
    below : EachLog logs (λ i. P (suc i)) → P 0 l → EachLog (l ∷ logs) P
    below all here zero log at = (let same : l ≡ log = cc in subst (P 0) same here)
    below all here (suc i) log at = all i log at

    least : (i : ℕ) → ((j : ℕ) (before : Log) → j < i → slice_get logs j ≡ Some before → P (suc j) before) → P 0 l
        → (j : ℕ) (before : Log) → j < suc i → slice_get (l ∷ logs) j ≡ Some before → P j before
    least i all here zero before lt at = (let same : l ≡ before = cc in subst (P 0) same here)
    least i all here (suc j) before lt at = all j before (omega (arith, lt)) at

no_logs : (n : ℕ) → ¬ (HasNumber [] n)
no_logs n h = let none = h.is_first in absurd cc

other_number : (l : Log) (logs : List Log) → length (l ∷ logs) ≢ l.nodes → (n : ℕ) → ¬ (HasNumber (l ∷ logs) n)
other_number l logs other n h =
    let is = h.is_first in
    let same : l ≡ h.first = cc in
    other (h.number ∙ sym h.names ∙ ap (λ (x : Log). x.nodes) (sym same))

pub ring_or_fault : (logs : List Log) → EachLog logs (λ i log. IsLog log) → AreLogs logs
    ⊎ ((f : HeadFault) × HeadFaultOf logs f)
ring_or_fault [] valid = inr (Number, wrong_number no_logs refl)
ring_or_fault (l ∷ logs) valid = elim (cases_eq (length (l ∷ logs)) l.nodes) [
  | inr other ↦ inr (Number, wrong_number (other_number l logs other) refl)
  | inl many ↦
      let number : HasNumber (l ∷ logs) l.nodes = record { first = l; is_first = refl; names = refl; number = many } in
      elim (each_or_first (l ∷ logs) (λ i log. log.nodes ≡ l.nodes) (λ i log. cases_eq log.nodes l.nodes)) [
        | inr o ↦ inr (Size o.0, wrong_size l.nodes o.0 number o.1 refl)
        | inl sizes ↦ elim (each_or_first (l ∷ logs) (λ i log. log.place ≡ i) (λ i log. cases_eq log.place i)) [
          | inr o ↦ inr (Place o.0, wrong_place l.nodes o.0 number sizes o.1 refl)
          | inl places ↦
              let version : HasVersion (l ∷ logs) l.version = record { first = l; is_first = refl; names = refl } in
              elim (each_or_first (l ∷ logs) (λ i log. log.version ≡ l.version) (λ i log.
              cases_eq log.version l.version)) [
                | inr o ↦ inr (Version o.0, wrong_version l.nodes l.version o.0 number sizes places version o.1 refl)
                | inl versions ↦ inl (logs-built (l ∷ logs) l.nodes l.version (valid 0 l refl).size number sizes places
                    valid versions)
              ]
        ]
      ]
]
