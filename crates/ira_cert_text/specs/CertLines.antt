-- Helpers, no definitions: what stands after the head of a certificate's text, read line by line.
use Rattle.std.specs.Prelude.{◌≡◌, ◌≢◌, ℕ, ◌+◌, ◌<◌, ◌⊎◌, Bool, true, false, List, ◌++◌, length, codes, Result, Ok, Err}
use Rattle.ira_cert_text.specs.declared.cert_fault.CertFault.{CertFault}
use Rattle.ira_cert_text.specs.declared.cert_fault.CertFault.TheVariants.{OutOfMemory}
use Rattle.ira_cert_text.specs.declared.cert_step.CertStep.{CertStep}
use Rattle.ira_cert_text.specs.declared.cert_lines.SectionLine.{SectionLine}
use Rattle.ira_cert_text.specs.declared.cert_lines.SectionLine.TheVariants.{Step, Spent}
use Rattle.ira_cert_text.specs.Limits.{MAX_SECTIONS, MAX_STEPS}
use Rattle.ira_cert_text.specs.Certificate.{Section, IsStep}
use Rattle.ira_cert_text.specs.CertText.{IsStepLine, IsSpentLine}
use Rattle.ira_cert_text.specs.CertTextFault.{RestOutsideFault, RestInsideFault, BeginsWithSections, BeginsWithSteps}
use Rattle.ira_cert_text.specs.CertTextFault.{SectionsFault}

-- what was not read yet, and the number of the line that it begins with
pub record LinesLeft : Type 0 where
  pub rest : List ℕ
  pub number : ℕ

-- this line was read
pub record ReadsLine (old new : LinesLeft) (line : List ℕ) : Type 0 where
  pub rest : old.rest ≡ line ++ codes "\n" ++ new.rest
  pub number : new.number ≡ old.number + 1

-- outside a section: the first line of one more was read, the end line ends the text, or a fault
abbrev pub ReadsOutside : ℕ → LinesLeft → LinesLeft → Result Bool CertFault → Type 0
ReadsOutside sections old new (Ok true) = ReadsLine old new (codes "section") × (sections ≢ MAX_SECTIONS)
ReadsOutside sections old new (Ok false) = old.rest ≡ codes "end\n"
ReadsOutside sections old new (Err f) = RestOutsideFault old.number sections old.rest f

-- in a section: a step or the spent node was read, or a fault
abbrev pub ReadsInside : ℕ → ℕ → LinesLeft → LinesLeft → Result SectionLine CertFault → Type 0
ReadsInside nodes steps old new (Ok (Step s)) =
    (line : List ℕ) × ReadsLine old new line × IsStepLine line s × (steps ≢ MAX_STEPS) × IsStep nodes s
ReadsInside nodes steps old new (Ok (Spent n)) = (line : List ℕ) × ReadsLine old new line × IsSpentLine line n
    × (n < nodes)
ReadsInside nodes steps old new (Err f) = RestInsideFault nodes old.number steps old.rest f

-- these steps were read
abbrev pub HasSteps : ℕ → LinesLeft → List CertStep → LinesLeft → Type 0
HasSteps nodes old steps new = BeginsWithSteps nodes old.rest steps new.rest × (new.number ≡ old.number + length steps)

-- the lines of a section after its first one were read, or there is a fault after some steps
abbrev pub ReadsSection : ℕ → LinesLeft → LinesLeft → Result Section CertFault → Type 0
ReadsSection nodes old new (Ok s) =
    (before : LinesLeft) × (line : List ℕ) × HasSteps nodes old s.steps before × ReadsLine before new line
    × IsSpentLine line s.spent × (s.spent < nodes)
ReadsSection nodes old new (Err f) =
    (f ≡ OutOfMemory)
    ⊎ ((steps : List CertStep) × (before : LinesLeft) × HasSteps nodes old steps before
    × RestInsideFault nodes before.number (length steps) before.rest f)

-- a reader of what stands after a head answered its sections, its fault, or that memory ran out
abbrev pub SectionsRead : {X : Type 0} → ℕ → (X → List Section) → Result X CertFault → List ℕ → Type 0
SectionsRead nodes view (Ok v) text = BeginsWithSections nodes text (view v) (codes "end\n")
SectionsRead nodes view (Err f) text = (f ≡ OutOfMemory) ⊎ SectionsFault nodes text f
