-- What a certificate says.
use Rattle.std.specs.Prelude.{ℕ, ◌<◌, ◌≤◌, List, All, length}
use Rattle.ira_event.specs.Limits.{MAX_RECORDS}
use Rattle.ira_event.specs.RingSize.{IsRingSize}
use Rattle.ira_cert_text.specs.declared.cert_step.CertStep.{CertStep}
use Rattle.ira_cert_text.specs.Limits.{MAX_SECTIONS, MAX_STEPS}

-- eliminations in their order, and the node that is spent after them
pub record Section : Type 0 where
  pub steps : List CertStep
  pub spent : ℕ

-- a ring's size, and a section for each case of a question
pub record Certificate : Type 0 where
  pub nodes : ℕ
  pub sections : List Section

-- both nodes are on the ring, and a log can have both states
pub record IsStep (nodes : ℕ) (s : CertStep) : Type 0 where
  pub node : s.node < nodes
  pub pos : s.pos ≤ MAX_RECORDS
  pub other : s.other < nodes
  pub other_pos : s.other_pos ≤ MAX_RECORDS

-- a section within the limits
pub record IsSection (nodes : ℕ) (s : Section) : Type 0 where
  pub count : length s.steps ≤ MAX_STEPS
  pub spent : s.spent < nodes
  pub steps : All (IsStep nodes) s.steps

-- a certificate within the limits
pub record IsCertificate (c : Certificate) : Type 0 where
  pub size : IsRingSize c.nodes
  pub count : length c.sections ≤ MAX_SECTIONS
  pub sections : All (IsSection c.nodes) c.sections
