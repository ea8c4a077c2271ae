-- Printable texts that are written one after the other.
use Rattle.std.proofs.Common.{◌≡◌, ℕ, List, [], ◌++◌, Result, Ok, Err, refl}
use Rattle.ira_event.specs.Sink.{SinkState, StopsIn, Takes}
use Rattle.ira_event.proofs.Writing.{Appends-nothing, Takes-append, Takes-StopsIn}
use Rattle.ira_view_page.specs.Printable.{IsPrintable}
use Rattle.ira_view_page.specs.declared.show_fault.ShowFault.{ShowFault}
use Rattle.ira_view_page.specs.declared.show_fault.ShowFault.TheVariants.{OutOfMemory, WrongColumns, Write}
use Rattle.ira_view_page.proofs.Printables.{printable_append}
use Rattle.ira_view_show.specs.Showed.{OfPrintable, Showed}

-- nothing was taken yet
pub none_taken : (s : SinkState) → OfPrintable (λ text. Takes text s s)
none_taken s = ([], refl, record { took = Appends-nothing s.taken; same = refl })

-- a further text was taken
pub more_taken : (s t u : SinkState) (b : List ℕ) → OfPrintable (λ text. Takes text s t) → IsPrintable b → Takes b t u
    → OfPrintable (λ text. Takes text s u)
more_taken s t u b so_far is more =
    (so_far.0 ++ b, printable_append so_far.0 b so_far.1 is, Takes-append s t u so_far.0 b so_far.2 more)

-- and where the sink failed a first part of one
pub part_taken : (s t u : SinkState) (b : List ℕ) → OfPrintable (λ text. Takes text s t) → IsPrintable b → StopsIn b t u
    → OfPrintable (λ text. StopsIn text s u)
part_taken s t u b so_far is more =
    (so_far.0 ++ b, printable_append so_far.0 b so_far.1 is, Takes-StopsIn s t u so_far.0 b so_far.2 more)

-- after a printable text, whatever came of the next one
pub showed_then : {T : Type 0} (r : Result T ShowFault) (s t u : SinkState) → OfPrintable (λ text. Takes text s t)
    → Showed r t u → Showed r s u
showed_then (Ok v) s t u so_far more = more_taken s t u more.0 so_far more.1 more.2
showed_then (Err OutOfMemory) s t u so_far more = more_taken s t u more.0 so_far more.1 more.2
showed_then (Err WrongColumns) s t u so_far more = more_taken s t u more.0 so_far more.1 more.2
showed_then (Err Write) s t u so_far more = part_taken s t u more.0 so_far more.1 more.2

pub failed_then : {T : Type 0} (r : Result T ShowFault) (f : ShowFault) (s t u : SinkState) → r ≡ Err f
    → OfPrintable (λ text. Takes text s t) → Showed {T = T} (Err f) t u → Showed r s u
failed_then {T} r f s t u is so_far more = rw is (showed_then {T = T} (Err f) s t u so_far more)
