-- Sound sections: eliminations, each of a state that can stand in no consistent cut together with the
-- candidates left of another node, until a node has none (Garg and Waldecker 1994).
use Rattle.std.specs.Prelude.{◌≡◌, ◌≢◌, ℕ, ◌+◌, List, Some, slice_get, take}
use Rattle.ira_event.specs.Log.{Log}
use Rattle.ira_pred.specs.Case.{Conjunct}
use Rattle.ira_order.specs.Before.{Before}
use Rattle.ira_cert_text.specs.declared.cert_step.CertStep.{CertStep}
use Rattle.ira_cert_text.specs.Certificate.{Section}
use Rattle.ira_cert.specs.Front.{IsFront, IsSpent}

-- after these steps the step is sound: it names the first candidates left of two different nodes, and
-- the event that leads on from the one state happened before the event that led to the other
pub record IsSoundStep (logs : List Log) (case : List Conjunct) (before : List CertStep) (s : CertStep) : Type 0 where
  pub differ : s.node ≢ s.other
  pub front : IsFront logs case before s.node s.pos
  pub other_front : IsFront logs case before s.other s.other_pos
  pub happened_before : Before logs s.node (s.pos + 1) s.other s.other_pos

-- each step is sound after those before it
abbrev pub AreSoundSteps : List Log → List Conjunct → List CertStep → Type 0
AreSoundSteps logs case steps = (k : ℕ) (s : CertStep) → slice_get steps k ≡ Some s
    → IsSoundStep logs case (take k steps) s

-- the section is sound for the case: its steps are, and after them its node is spent
pub record IsSoundSection (logs : List Log) (case : List Conjunct) (section : Section) : Type 0 where
  pub steps : AreSoundSteps logs case section.steps
  pub spent : IsSpent logs case section.steps section.spent
