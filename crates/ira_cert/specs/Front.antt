-- The candidates left after eliminations: each takes away its node's first one (Garg and Waldecker 1994).
use Rattle.std.specs.Prelude.{◌≡◌, ℕ, ◌==◌, List, Some, count_by, length, slice_get}
use Rattle.ira_event.specs.Log.{Log}
use Rattle.ira_pred.specs.Case.{Conjunct}
use Rattle.ira_cert_text.specs.declared.cert_step.CertStep.{CertStep}
use Rattle.ira_cert.specs.Conjuncts.{CandidatesOf}

-- how many of the steps eliminate a state of node i
abbrev pub made : List CertStep → ℕ → ℕ
made steps i = count_by (λ s. s.node == i) steps

-- after these steps p is node i's first candidate left: one comes before it for each of its
-- eliminations
abbrev pub IsFront : List Log → List Conjunct → List CertStep → ℕ → ℕ → Type 0
IsFront logs case before i p = (positions : List ℕ) × CandidatesOf logs case i positions
    × (slice_get positions (made before i) ≡ Some p)

-- after these steps node i is asked and has no candidate left: they eliminate as many as it has
abbrev pub IsSpent : List Log → List Conjunct → List CertStep → ℕ → Type 0
IsSpent logs case steps i = (positions : List ℕ) × CandidatesOf logs case i positions
    × (made steps i ≡ length positions)
