-- What is said of a section.
use Rattle.std.specs.Prelude.{List}
use Rattle.ira_event.specs.Log.{Log}
use Rattle.ira_pred.specs.Case.{Conjunct}
use Rattle.ira_cert_text.specs.Certificate.{Section}
use Rattle.ira_cert.specs.declared.verdict.Verdict.{Verdict}
use Rattle.ira_cert.specs.declared.verdict.Verdict.TheVariants.{Yes, No}
use Rattle.ira_cert.specs.SoundSection.{IsSoundSection}
use Rattle.ira_cert.specs.SectionFault.{IsSectionFault}

-- yes for a section that is sound for the case, else its fault
abbrev pub IsVerdict : List Log → List Conjunct → Section → Verdict → Type 0
IsVerdict logs case section Yes = IsSoundSection logs case section
IsVerdict logs case section (No fault) = IsSectionFault logs case section fault
