-- Why the section of a certificate isn't sound, and what is told of it.
use Rattle.std.specs.Prelude.{◌≡◌, ◌≢◌, ◌⊎◌, ℕ, ◌+◌, ◌-◌, ◌^◌, List, [], ◌∷◌, ◌++◌, Option, None, Some, String, codes}
use Rattle.std.specs.Prelude.{decimal, length, min, slice_get, string_bytes, take}
use Rattle.ira_event.specs.Log.{Log}
use Rattle.ira_pred.specs.Case.{Conjunct}
use Rattle.ira_cert_text.specs.declared.cert_step.CertStep.{CertStep}
use Rattle.ira_cert_text.specs.Certificate.{Section}
use Rattle.ira_cert_text.specs.CertTextFault.{lines_of}
use Rattle.ira_cert.specs.declared.section_fault.SectionFault.{SectionFault}
use Rattle.ira_cert.specs.declared.section_fault.SectionFault.TheVariants as fault
use Rattle.ira_cert.specs.SectionFault.{IsSectionFault}
use Rattle.ira_view_page.specs.declared.evidence.Evidence.{Evidence}
use Rattle.ira_view_page.specs.declared.evidence.Evidence.TheVariants as evidence
use Rattle.ira_view_page.specs.declared.front.Front.{Front}
use Rattle.ira_view_page.specs.Places.{place_text}
use Rattle.ira_view_explain_question.specs.declared.section_finding.SectionFinding.{SectionFinding}
use Rattle.ira_view_explain_question.specs.declared.section_finding.SectionStop.{SectionStop}
use Rattle.ira_view_explain_question.specs.declared.section_finding.SectionStop.TheVariants.{Spent, Step}
use Rattle.ira_view_explain_question.specs.FrontLeft.{IsLeftOf, front_text}

-- the line of a certificate after so many steps of the section of a number: two lines of the head, the sections before,
-- and the line that begins the section stand before them; the last usize stands for all above too
abbrev pub section_line : List Section → ℕ → ℕ → ℕ
section_line sections number steps = min (2 + lines_of (take number sections) + 1 + steps + 1) (2 ^ 64 - 1)

-- how many sound steps stand in front of the line that a fault is of
abbrev pub steps_before : Section → SectionFault → ℕ
steps_before section (fault.Step number why) = number
steps_before section (fault.NotSpent node) = length section.steps

-- that line: the step that the fault names, or the node that isn't spent
abbrev pub IsStop : Section → SectionFault → SectionStop → Type 0
IsStop section (fault.Step number why) (Step step) = slice_get section.steps number ≡ Some step
IsStop section (fault.NotSpent node) (Spent n) = n ≡ node
IsStop section _ _ = ⊥

-- the node that it rules a state out of, or says to be spent
abbrev pub own_node : SectionStop → ℕ
own_node (Step s) = s.node
own_node (Spent node) = node

-- what these steps left of the other node of a step, where that is another one
abbrev pub IsOtherLeft : List Log → List Conjunct → List CertStep → SectionStop → Option Front → Type 0
IsOtherLeft logs case steps (Step s) left =
    ((s.node ≡ s.other) × (left ≡ None)) ⊎ ((s.node ≢ s.other) × IsLeftOf logs case steps s.other left)
IsOtherLeft logs case steps (Spent node) left = left ≡ None

-- why the section of the case of a number isn't sound, by this fault
pub record IsSectionFinding (logs : List Log) (case : List Conjunct) (sections : List Section) (number : ℕ)
    (f : SectionFault) (finding : SectionFinding) : Type 0 where
  pub section : Section
  pub section_at : slice_get sections number ≡ Some section
  pub fault : IsSectionFault logs case section f
  pub stop : IsStop section f finding.stop
  pub line : finding.line ≡ section_line sections number (steps_before section f)
  pub own : IsLeftOf logs case (take (steps_before section f) section.steps) (own_node finding.stop) finding.own
  pub other : IsOtherLeft logs case (take (steps_before section f) section.steps) finding.stop finding.other

-- the line of the certificate, as evidence
abbrev pub line_told : {A : Type 0} → String A → ℕ → SectionStop → Evidence A
line_told file line (Step step) = evidence.Step file line step
line_told file line (Spent node) = evidence.Spent file line node

-- what is left of a node, as evidence: nothing where it isn't asked
abbrev pub front_told : {A : Type 0} → Option Front → List (Evidence A)
front_told None = []
front_told (Some front) = evidence.Front front ∷ []

-- what is told of a finding in a certificate's file of this name: the line, and what is left of the nodes that it names
pub record IsSectionTold {A : Type 0} (file : List ℕ) (finding : SectionFinding) (told : List (Evidence A))
    : Type 0 where
  pub name : String A
  pub name_is : string_bytes name ≡ file
  pub told_is : told
      ≡ line_told name finding.line finding.stop ∷ (front_told finding.own ++ front_told finding.other)

-- what the line says
abbrev pub stop_text : SectionStop → List ℕ
stop_text (Step s) =
    codes "drop " ++ decimal s.node ++ (codes " " ++ decimal s.pos) ++ (codes " by " ++ decimal s.other)
    ++ (codes " " ++ decimal s.other_pos)
stop_text (Spent node) = codes "spent " ++ decimal node

-- the lines on a finding in a certificate's file of this name: its line, and the nodes that it names
abbrev pub section_text : List ℕ → SectionFinding → List ℕ
section_text file finding =
    codes "> " ++ place_text file finding.line ++ codes ": " ++ stop_text finding.stop ++ codes "\n"
    ++ front_text finding.own
    ++ front_text finding.other
