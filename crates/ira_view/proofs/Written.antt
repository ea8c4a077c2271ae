-- Texts that are written.
use Rattle.std.proofs.Common.{◌≡◌, List, ℕ, Err, Ok, Result, subst, sym}
use Rattle.ira_event.specs.Sink.{SinkState}
use Rattle.ira_view_page.specs.declared.show_fault.ShowFault.{ShowFault}
use Rattle.ira_view_page.specs.declared.show_fault.ShowFault.TheVariants.{OutOfMemory, WrongColumns, Write}
use Rattle.ira_view.specs.ViewText.{WroteText}

-- a text of which this holds was written
pub text_written : {T : Type 0} (IsText : List ℕ → Type 0) (text : List ℕ) (r : Result T ShowFault) (s t : SinkState)
    → IsText text → WroteText (λ written. written ≡ text) r s t → WroteText IsText r s t
text_written IsText text (Ok v) s t is h = (h.0, subst IsText (sym h.1) is, h.2)
text_written IsText text (Err Write) s t is h = (h.0, subst IsText (sym h.1) is, h.2)
text_written IsText text (Err OutOfMemory) s t is h = h
text_written IsText text (Err WrongColumns) s t is h = absurd h
