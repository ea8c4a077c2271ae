-- How many states of each node the first steps of a section eliminate.
use Rattle.std.proofs.Common.{◌≡◌, ◌≢◌, ℕ, ◌+◌, ◌<◌, ◌==◌, inl, inr, List, Some, length, slice_get, take, refl, ◌∙◌, ap}
use Rattle.std.proofs.Common.{arith}
use Rattle.std.proofs.lemmas.Bool.{ne_eqb, eq-eqb}
use Rattle.std.proofs.lemmas.List.Sums.{count_by_more_yes, count_by_more_no}
use Rattle.std.proofs.lemmas.Option.{get_or_from_slice_get, slice_get_cases, slice_get_within}
use Rattle.ira_cert_text.specs.declared.cert_step.CertStep.{CertStep}
use Rattle.ira_cert.specs.Front.{made}

pub step_at : (steps : List CertStep) (k : ℕ) → k < length steps → (s : CertStep) × (slice_get steps k ≡ Some s)
step_at steps k l = elim (slice_get_cases steps k).1 [ inl h ↦ (h.0, h.2) | inr h ↦ absurd (omega arith) ]

-- one more of its node
pub made_own : (steps : List CertStep) (k : ℕ) (s : CertStep) → slice_get steps k ≡ Some s
    → made (take (k + 1) steps) s.node ≡ made (take k steps) s.node + 1
made_own steps k s at =
    count_by_more_yes (λ (t : CertStep). t.node == s.node) steps k s (slice_get_within steps k s at)
    (ap (λ (t : CertStep). t.node == s.node) (get_or_from_slice_get steps k s s at) ∙ eq-eqb s.node s.node refl)

-- and none of others
pub made_other : (steps : List CertStep) (k : ℕ) (s : CertStep) (i : ℕ) → slice_get steps k ≡ Some s → s.node ≢ i
    → made (take (k + 1) steps) i ≡ made (take k steps) i
made_other steps k s i at other =
    count_by_more_no (λ (t : CertStep). t.node == i) steps k s (slice_get_within steps k s at)
    (ap (λ (t : CertStep). t.node == i) (get_or_from_slice_get steps k s s at) ∙ ne_eqb s.node i other)
