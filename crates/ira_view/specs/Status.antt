-- The statuses that the program ends with, and their numbers.
use Rattle.std.specs.Prelude.{◌≡◌, ◌≢◌, ◌⊎◌, ℕ, List, []}
use Rattle.ira_audit.specs.Findings.{MakeNoCertificate}
use Rattle.ira_audit.specs.declared.answer.Answer.{Answer}
use Rattle.ira_audit.specs.declared.answer.Answer.TheVariants as answer
use Rattle.ira_audit.specs.declared.findings.Findings.{Findings}
use Rattle.ira_ring_setup.specs.declared.node_end.NodeEnd.{NodeEnd}
use Rattle.ira_ring.specs.SeededRing.{HasLeader}
use Rattle.ira_view.specs.declared.status.Status.{Status}
use Rattle.ira_view.specs.declared.status.Status.TheVariants.{Yes, No, Refused, OutOfMemory}

-- the number that the program ends with
abbrev pub status_number : Status → ℕ
status_number Yes = 0
status_number No = 1
status_number Refused = 2
status_number OutOfMemory = 3

-- the status of an answer
abbrev pub answer_status : Answer → Status
answer_status answer.Yes = Yes
answer_status (answer.No reason) = No

-- the status of findings: no where they make no certificate, else yes
abbrev pub IsFindingsStatus : {A : Type 0} → Findings A → Status → Type 0
IsFindingsStatus findings status =
    (MakeNoCertificate findings × (status ≡ No)) ⊎ (¬ (MakeNoCertificate findings) × (status ≡ Yes))

-- the status of a run: yes where a node leads, else no
abbrev pub IsElectionStatus : List NodeEnd → Status → Type 0
IsElectionStatus ends status = (HasLeader ends × (status ≡ Yes)) ⊎ (¬ (HasLeader ends) × (status ≡ No))

-- the status of a ring where some nodes are to lead: yes where nothing differs, else no
abbrev pub IsLeadsStatus : List ℕ → Status → Type 0
IsLeadsStatus differences status = ((differences ≡ []) × (status ≡ Yes)) ⊎ ((differences ≢ []) × (status ≡ No))
