-- Why a section isn't sound: its first unsound step, or else the node that isn't spent.
use Rattle.std.specs.Prelude.{◌≡◌, ◌≢◌, ℕ, ◌+◌, ◌⊎◌, List, Some, slice_get, take}
use Rattle.ira_event.specs.Log.{Log}
use Rattle.ira_pred.specs.Case.{Conjunct}
use Rattle.ira_order.specs.Before.{Before}
use Rattle.ira_cert_text.specs.declared.cert_step.CertStep.{CertStep}
use Rattle.ira_cert_text.specs.Certificate.{Section}
use Rattle.ira_cert.specs.declared.unsound.Unsound.{Unsound}
use Rattle.ira_cert.specs.declared.unsound.Unsound.TheVariants.{NotAsked, SameNode, NodeSpent, NotFront, NotBefore}
use Rattle.ira_cert.specs.declared.section_fault.SectionFault.{SectionFault}
use Rattle.ira_cert.specs.declared.section_fault.SectionFault.TheVariants.{Step, NotSpent}
use Rattle.ira_cert.specs.Conjuncts.{IsAsked}
use Rattle.ira_cert.specs.Front.{IsFront, IsSpent}
use Rattle.ira_cert.specs.SoundSection.{AreSoundSteps}

-- after these steps node i has a first candidate left
abbrev pub HasFront : List Log → List Conjunct → List CertStep → ℕ → Type 0
HasFront logs case before i = (p : ℕ) × IsFront logs case before i p

-- why the step isn't sound after these steps, all of which are sound
pub data WhyUnsound (logs : List Log) (case : List Conjunct) (before : List CertStep) (s : CertStep) (why : Unsound)
    : Type 0 where
  -- one of its nodes isn't asked
  not_asked :
      ¬ (IsAsked case s.node) ⊎ ¬ (IsAsked case s.other)
      → why ≡ NotAsked → WhyUnsound logs case before s why
  -- both are asked, and are one
  same_node :
      IsAsked case s.node → s.node ≡ s.other
      → why ≡ SameNode → WhyUnsound logs case before s why
  -- they are two, and one of them is spent
  node_spent :
      IsAsked case s.node → IsAsked case s.other → s.node ≢ s.other
      → IsSpent logs case before s.node ⊎ IsSpent logs case before s.other
      → why ≡ NodeSpent → WhyUnsound logs case before s why
  -- both have a candidate left, and one position isn't its node's first
  not_front :
      s.node ≢ s.other → HasFront logs case before s.node → HasFront logs case before s.other
      → ¬ (IsFront logs case before s.node s.pos) ⊎ ¬ (IsFront logs case before s.other s.other_pos)
      → why ≡ NotFront → WhyUnsound logs case before s why
  -- both positions are, and the one event didn't happen before the other, or one doesn't exist
  not_before :
      s.node ≢ s.other → IsFront logs case before s.node s.pos → IsFront logs case before s.other s.other_pos
      → ¬ (Before logs s.node (s.pos + 1) s.other s.other_pos)
      → why ≡ NotBefore → WhyUnsound logs case before s why

-- step k, counted from 0, is the first that isn't sound, and this is why
pub record IsFirstUnsoundStep (logs : List Log) (case : List Conjunct) (steps : List CertStep) (k : ℕ) (why : Unsound)
    : Type 0 where
  pub before : AreSoundSteps logs case (take k steps)
  pub step : CertStep
  pub at : slice_get steps k ≡ Some step
  pub reason : WhyUnsound logs case (take k steps) step why

-- the section's fault
pub data IsSectionFault (logs : List Log) (case : List Conjunct) (section : Section) (fault : SectionFault)
    : Type 0 where
  -- a step isn't sound: the first one
  unsound :
      (k : ℕ) (why : Unsound) → IsFirstUnsoundStep logs case section.steps k why
      → fault ≡ Step k why → IsSectionFault logs case section fault
  -- all steps are sound, and the node isn't spent
  not_spent :
      AreSoundSteps logs case section.steps → ¬ (IsSpent logs case section.steps section.spent)
      → fault ≡ NotSpent section.spent → IsSectionFault logs case section fault
