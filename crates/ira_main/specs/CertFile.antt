-- How a certificate is kept in a file.
use Rattle.std.specs.Prelude.{◌≡◌, ℕ, List, Ok, Err}
use Rattle.std.specs.Borrow.{Bor}
use Rattle.ira_cert_text.specs.Certificate.{Certificate}
use Rattle.ira_cert_text.specs.CertText.{IsCertText, cert_text}
use Rattle.ira_main_files.specs.Shelf.{MakesFile, Writing}
use Rattle.ira_main_files.specs.declared.shelf_fault.ShelfFault.{ShelfFault}
use Rattle.ira_main.specs.Outcome.{Outcome}
use Rattle.ira_main.specs.ProgramFault.{write_fault}
use Rattle.ira_commands.specs.declared.command_fault.CommandFault.TheVariants.{CertificatePastLimits}
use Rattle.ira_main.specs.declared.program_fault.ProgramFault.TheVariants.{Command}
use Rattle.ira_view.specs.declared.status.Status.TheVariants.{Yes}

-- what comes of keeping a certificate on a shelf, in a new file of this name: nothing is done where its text is past
-- the limits; else its text is written, and a fault of that is the outcome
pub data KeepsCertificate {A S : Type 0} (writes : Writing S) (c : Certificate) (name : Bor (List ℕ)) (old new : S)
    (outcome : Outcome A) : Type 0 where
  past_limits : ¬ (IsCertText (cert_text c) c) → new ≡ old → outcome ≡ Err (Command CertificatePastLimits)
      → KeepsCertificate writes c name old new outcome
  kept : IsCertText (cert_text c) c → MakesFile writes name.now (cert_text c) old new (Ok tt) → outcome ≡ Ok Yes
      → KeepsCertificate writes c name old new outcome
  unwritten : (fault : ShelfFault) → IsCertText (cert_text c) c
      → MakesFile writes name.now (cert_text c) old new (Err fault) → outcome ≡ Err (write_fault name fault)
      → KeepsCertificate writes c name old new outcome
