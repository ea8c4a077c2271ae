-- What a sink takes of lines that are written block by block.
use Rattle.std.specs.Prelude.{◌≡◌, ◌⊎◌, ℕ, List, [], Option, Some, Result, Ok, Err, ⊤}
use Rattle.ira_event.specs.Sink.{SinkState, StopsIn, Takes}
use Rattle.ira_view_page.specs.Printable.{IsPrintable}
use Rattle.ira_view_page.specs.declared.show_fault.ShowFault.{ShowFault}
use Rattle.ira_view_page.specs.declared.show_fault.ShowFault.TheVariants.{OutOfMemory, WrongColumns, Write}

-- this holds of some printable text
abbrev pub OfPrintable : (List ℕ → Type 0) → Type 0
OfPrintable P = (text : List ℕ) × IsPrintable text × P text

-- the sink took a printable text; or, where it failed, a first part of one
abbrev pub Showed : {T : Type 0} → Result T ShowFault → SinkState → SinkState → Type 0
Showed (Ok v) old new = OfPrintable (λ text. Takes text old new)
Showed (Err OutOfMemory) old new = OfPrintable (λ text. Takes text old new)
Showed (Err WrongColumns) old new = OfPrintable (λ text. Takes text old new)
Showed (Err Write) old new = OfPrintable (λ text. StopsIn text old new)

-- the sink took what is on the page, which is printable
abbrev pub TookPage : Option (List ℕ) → SinkState → SinkState → Type 0
TookPage page old new = (text : List ℕ) × (page ≡ Some text) × IsPrintable text × Takes text old new

-- where all went well the page goes on as it was, or the sink took what was on it, and it goes on empty
abbrev pub GoesOn : Option (List ℕ) → Result (Option (List ℕ)) ShowFault → SinkState → SinkState → Type 0
GoesOn page (Ok next) old new = ((next ≡ page) × (new ≡ old)) ⊎ ((next ≡ Some []) × TookPage page old new)
GoesOn page (Err fault) old new = ⊤
