-- The text of a certificate, as relations between a value and its spelling.
use Rattle.std.specs.Prelude.{◌≡◌, ℕ, ◌≤◌, List, [], ◌∷◌, ◌++◌, length, codes, decimal}
use Rattle.std.specs.List.{flat_map}
use Rattle.ira_event.specs.Limits.{MAX_TEXT}
use Rattle.ira_event.specs.Numeral.{IsNumeral}
use Rattle.ira_cert_text.specs.declared.cert_step.CertStep.{CertStep}
use Rattle.ira_cert_text.specs.Certificate.{Section, Certificate, IsCertificate}

-- the spelling of a step, without its line feed
pub record IsStepLine (line : List ℕ) (s : CertStep) : Type 0 where
  pub node : List ℕ
  pub pos : List ℕ
  pub other : List ℕ
  pub other_pos : List ℕ
  pub node_is : IsNumeral node s.node
  pub pos_is : IsNumeral pos s.pos
  pub other_is : IsNumeral other s.other
  pub other_pos_is : IsNumeral other_pos s.other_pos
  pub parts : line ≡ codes "drop " ++ node ++ codes " " ++ pos ++ codes " by " ++ other ++ codes " " ++ other_pos

-- the lines of these steps, each with its line feed
abbrev pub AreStepLines : List ℕ → List CertStep → Type 0
AreStepLines text [] = text ≡ []
AreStepLines text (s ∷ ss) =
    (line : List ℕ) × (rest : List ℕ) × (text ≡ line ++ codes "\n" ++ rest) × IsStepLine line s × AreStepLines rest ss

-- the spelling of the line that names the spent node, without its line feed
abbrev pub IsSpentLine : List ℕ → ℕ → Type 0
IsSpentLine line n = (number : List ℕ) × (line ≡ codes "spent " ++ number) × IsNumeral number n

-- the text of a section: its first line, its steps, and the spent node
pub record IsSectionText (text : List ℕ) (s : Section) : Type 0 where
  pub steps : List ℕ
  pub spent : List ℕ
  pub steps_are : AreStepLines steps s.steps
  pub spent_is : IsSpentLine spent s.spent
  pub parts : text ≡ codes "section\n" ++ steps ++ spent ++ codes "\n"

-- the texts of these sections, one after the other
abbrev pub AreSectionTexts : List ℕ → List Section → Type 0
AreSectionTexts text [] = text ≡ []
AreSectionTexts text (s ∷ ss) =
    (first : List ℕ) × (rest : List ℕ) × (text ≡ first ++ rest) × IsSectionText first s × AreSectionTexts rest ss

-- the first two lines: version and ring size
abbrev pub IsCertHead : List ℕ → ℕ → Type 0
IsCertHead text nodes =
    (number : List ℕ) × (text ≡ codes "ircert 1\n" ++ codes "nodes " ++ number ++ codes "\n") × IsNumeral number nodes

-- the text of a certificate: its head, its sections and the end line, all within the limits
pub record IsCertText (text : List ℕ) (c : Certificate) : Type 0 where
  pub head : List ℕ
  pub sections : List ℕ
  pub head_is : IsCertHead head c.nodes
  pub sections_are : AreSectionTexts sections c.sections
  pub parts : text ≡ head ++ sections ++ codes "end\n"
  pub short : length text ≤ MAX_TEXT
  pub valid : IsCertificate c

-- The same written out: numbers are plain decimal.

-- a step's line
abbrev pub step_text : CertStep → List ℕ
step_text s =
    codes "drop " ++ decimal s.node ++ codes " " ++ decimal s.pos ++ codes " by " ++ decimal s.other ++ codes " "
    ++ decimal s.other_pos ++ codes "\n"

-- a section
abbrev pub section_text : Section → List ℕ
section_text s = codes "section\n" ++ flat_map step_text s.steps ++ (codes "spent " ++ decimal s.spent ++ codes "\n")

-- a certificate
abbrev pub cert_text : Certificate → List ℕ
cert_text c =
    codes "ircert 1\n" ++ codes "nodes " ++ decimal c.nodes ++ codes "\n" ++ flat_map section_text c.sections
    ++ codes "end\n"
