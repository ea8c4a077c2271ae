-- The fault of a text that is no certificate's: the first one, line by line.
use Rattle.std.specs.Prelude.{◌≡◌, ◌≢◌, ℕ, ◌+◌, ◌<◌, ◌≤◌, ◌⊎◌, List, [], ◌++◌, length, codes, All, sum_by}
use Rattle.ira_event.specs.Limits.{MAX_TEXT}
use Rattle.ira_event.specs.NextLine.{NextLineFault}
use Rattle.ira_event.specs.RingSize.{IsRingSize}
use Rattle.ira_cert_text.specs.declared.cert_fault.CertFault.{CertFault}
use Rattle.ira_cert_text.specs.declared.cert_fault.CertFault.TheVariants.{TooLong, Head, Line, Range, TooMany, Cut}
use Rattle.ira_cert_text.specs.declared.cert_fault.CertFault.TheVariants.{Trailing}
use Rattle.ira_cert_text.specs.declared.cert_step.CertStep.{CertStep}
use Rattle.ira_cert_text.specs.Limits.{MAX_SECTIONS, MAX_STEPS}
use Rattle.ira_cert_text.specs.Certificate.{Section, IsStep, IsSection}
use Rattle.ira_cert_text.specs.CertText.{IsStepLine, AreStepLines, IsSpentLine, AreSectionTexts, IsCertHead}

-- the line begins as a step does
abbrev pub BeginsAsStep : List ℕ → Type 0
BeginsAsStep line = (rest : List ℕ) × (line ≡ codes "drop " ++ rest)

-- the fault of a complete line, number k of the text, that stands outside a section after so many
-- sections, with `more` after its line feed
pub data OutsideFault (k sections : ℕ) (line more : List ℕ) (f : CertFault) : Type 0 where
  -- it begins a section after the last one allowed
  too_many_sections : line ≡ codes "section" → sections ≡ MAX_SECTIONS → f ≡ TooMany
      → OutsideFault k sections line more f
  -- it is neither of the two that are allowed there
  no_section_or_end : line ≢ codes "section" → line ≢ codes "end" → f ≡ Line k → OutsideFault k sections line more f
  -- it is the end line, and something follows it
  trailing : line ≡ codes "end" → more ≢ [] → f ≡ Trailing → OutsideFault k sections line more f

-- the fault of a complete line, number k of the text, that stands in a section after so many of its steps
pub data InsideFault (nodes k steps : ℕ) (line : List ℕ) (f : CertFault) : Type 0 where
  -- it begins as a step does, after the last step allowed
  too_many_steps : BeginsAsStep line → steps ≡ MAX_STEPS → f ≡ TooMany → InsideFault nodes k steps line f
  -- it is neither a step nor the spent node
  no_step_or_spent :
      (steps ≡ MAX_STEPS → ¬ (BeginsAsStep line)) → ((s : CertStep) → ¬ (IsStepLine line s))
      → ((n : ℕ) → ¬ (IsSpentLine line n))
      → f ≡ Line k → InsideFault nodes k steps line f
  -- it is a step with a number out of range
  step_range : (s : CertStep) → IsStepLine line s → steps ≢ MAX_STEPS → ¬ (IsStep nodes s) → f ≡ Range k
      → InsideFault nodes k steps line f
  -- the spent node isn't in the ring
  spent_range : (n : ℕ) → IsSpentLine line n → nodes ≤ n → f ≡ Range k → InsideFault nodes k steps line f

-- the fault of what stands outside a section, from line k of the text on, after so many sections
abbrev pub RestOutsideFault : ℕ → ℕ → List ℕ → CertFault → Type 0
RestOutsideFault k sections rest f = NextLineFault Cut (OutsideFault k sections) rest f

-- the fault of what stands in a section, from line k of the text on, after so many of its steps
abbrev pub RestInsideFault : ℕ → ℕ → ℕ → List ℕ → CertFault → Type 0
RestInsideFault nodes k steps rest f = NextLineFault Cut (λ line more g. InsideFault nodes k steps line g) rest f

-- the text begins with a head of the grammar whose ring size is in range, and goes on with the rest
pub record BeginsWithCertHead (text : List ℕ) (nodes : ℕ) (rest : List ℕ) : Type 0 where
  pub head : List ℕ
  pub head_is : IsCertHead head nodes
  pub size : IsRingSize nodes
  pub parts : text ≡ head ++ rest

-- the text begins with these sections, all within the limits, and goes on with the rest
pub record BeginsWithSections (nodes : ℕ) (text : List ℕ) (sections : List Section) (rest : List ℕ) : Type 0 where
  pub front : List ℕ
  pub sections_are : AreSectionTexts front sections
  pub count : length sections ≤ MAX_SECTIONS
  pub valid : All (IsSection nodes) sections
  pub parts : text ≡ front ++ rest

-- the text begins with the lines of these steps, all within the limits, and goes on with the rest
pub record BeginsWithSteps (nodes : ℕ) (text : List ℕ) (steps : List CertStep) (rest : List ℕ) : Type 0 where
  pub lines : List ℕ
  pub steps_are : AreStepLines lines steps
  pub count : length steps ≤ MAX_STEPS
  pub valid : All (IsStep nodes) steps
  pub parts : text ≡ lines ++ rest

-- how many lines these sections have: each its first line, its steps, and the spent node
abbrev pub lines_of : List Section → ℕ
lines_of sections = sum_by (λ s. 1 + length s.steps + 1) sections

-- the fault of what stands after the head, whose lines are two
pub data SectionsFault (nodes : ℕ) (text : List ℕ) (f : CertFault) : Type 0 where
  -- after whole sections
  outside :
      (sections : List Section) (rest : List ℕ) → BeginsWithSections nodes text sections rest
      → RestOutsideFault (2 + lines_of sections + 1) (length sections) rest f → SectionsFault nodes text f
  -- after whole sections, the first line of one more, and some of its steps
  inside :
      (sections : List Section) (steps : List CertStep) (body rest : List ℕ)
      → BeginsWithSections nodes text sections (codes "section\n" ++ body)
      → length sections < MAX_SECTIONS → BeginsWithSteps nodes body steps rest
      → RestInsideFault nodes (2 + lines_of sections + 1 + length steps + 1) (length steps) rest f
      → SectionsFault nodes text f

-- the fault of a text that isn't too long
pub data CertLinesFault (text : List ℕ) (f : CertFault) : Type 0 where
  -- it begins with no head
  no_head : ((nodes : ℕ) (rest : List ℕ) → ¬ (BeginsWithCertHead text nodes rest)) → f ≡ Head → CertLinesFault text f
  -- what stands after its head has a fault
  past_head : (nodes : ℕ) (rest : List ℕ) → BeginsWithCertHead text nodes rest → SectionsFault nodes rest f
      → CertLinesFault text f

-- the fault of a text
abbrev pub CertTextFault : List ℕ → CertFault → Type 0
CertTextFault text f =
    ((MAX_TEXT < length text) × (f ≡ TooLong)) ⊎ ((length text ≤ MAX_TEXT) × CertLinesFault text f)
