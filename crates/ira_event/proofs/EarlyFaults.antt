-- A text that begins with a head has no fault that is found before its records are read.
use Rattle.std.proofs.Common.{◌≡◌, ◌≤◌, ◌↔◌, ℕ, List, ◌⊎◌, Result, Ok, Err, length, sym, ap, subst, arith, inl, inr}
use Rattle.ira_event.specs.declared.log_fault.LogFault.{LogFault}
use Rattle.ira_event.specs.declared.log_fault.LogFault.TheVariants as fault
use Rattle.ira_event.specs.declared.log_head.LogHead.{LogHead}
use Rattle.ira_event.specs.Limits.{MAX_TEXT}
use Rattle.ira_event.specs.Log.{Log}
use Rattle.ira_event.specs.LogLaws.{NoTextIsOutOfMemory}
use Rattle.ira_event.specs.LogTextFault.{BeginsWithHead, LineFault, too_many, no_line, out_of_range, other_count}
use Rattle.ira_event.specs.LogTextFault.{trailing, RecordsFault, LinesFault, no_head, past_head, LogTextFault}
use Rattle.ira_event.proofs.LogAnswers.{LogRead, log_or_fault, one_fault, err_is}
use Rattle.ira_event.proofs.NextLines.{next_fault_is}

-- a fault of what stands after a head
abbrev IsLate : LogFault → Type 0
IsLate fault.TooLong = ⊥
IsLate fault.Head = ⊥
IsLate fault.OutOfMemory = ⊥
IsLate f = Unit {0}

line_fault_late : (v k : ℕ) (line more : List ℕ) (f : LogFault) → LineFault v k line more f → IsLate f
line_fault_late v k line more f (too_many a b e) = subst IsLate (sym e) tt
line_fault_late v k line more f (no_line a b c e) = subst IsLate (sym e) tt
line_fault_late v k line more f (out_of_range x a w b c e) = subst IsLate (sym e) tt
line_fault_late v k line more f (other_count n a b e) = subst IsLate (sym e) tt
line_fault_late v k line more f (trailing a b e) = subst IsLate (sym e) tt

records_fault_late : (v : ℕ) (text : List ℕ) (f : LogFault) → RecordsFault v text f → IsLate f
records_fault_late v text f h =
    next_fault_is fault.Cut (LineFault v (length h.events)) IsLate tt (line_fault_late v (length h.events)) h.rest f
    h.fault

-- ---- no text is out of memory

lines_memory : (text : List ℕ) → LinesFault text fault.OutOfMemory → ⊥
lines_memory text (no_head a e) = absurd cc
lines_memory text (past_head head rest b h) = records_fault_late head.version rest fault.OutOfMemory h

pub not_out_of_memory : NoTextIsOutOfMemory
not_out_of_memory text (inl a) = absurd cc
not_out_of_memory text (inr a) = lines_memory text a.1

-- ---- a text with a head

abbrev pub HasHead : List ℕ → Type 0
HasHead text = (length text ≤ MAX_TEXT) × (head : LogHead) × (rest : List ℕ) × BeginsWithHead text head rest

lines_late : (text : List ℕ) (f : LogFault) → HasHead text → LinesFault text f → IsLate f
lines_late text f has (no_head none e) = absurd (none has.1 has.2 has.3)
lines_late text f has (past_head head rest b h) = records_fault_late head.version rest f h

fault_late : (text : List ℕ) (f : LogFault) → HasHead text → LogTextFault text f → IsLate f
fault_late text f has (inl long) = absurd (omega (arith, long.0, has.0))
fault_late text f has (inr lines) = lines_late text f has lines.1

-- a fault that is found before anything of a text is kept
abbrev pub IsEarly : LogFault → Type 0
IsEarly f = (f ≡ fault.TooLong) ⊎ (f ≡ fault.Head)

early_is_late : (f : LogFault) → IsEarly f → IsLate f → ⊥
early_is_late f (inl e) h = subst IsLate e h
early_is_late f (inr e) h = subst IsLate e h

early_no_memory : (f : LogFault) → IsEarly f → f ≡ fault.OutOfMemory → ⊥
early_no_memory f (inl e) q = absurd cc
early_no_memory f (inr e) q = absurd cc

-- ---- what a reader answers of early faults, whatever memory does

-- where the text's fault was answered
pub fault_exactly : (text : List ℕ) (g f : LogFault) → LogTextFault text g
    → ◌≡◌ {A = Result Log LogFault} (Err g) (Err f) ↔ LogTextFault text f
fault_exactly text g f h = (λ e. subst (LogTextFault text) (err_is g f e) h, λ k. ap Err (one_fault text g f h k))

-- where what stands after the head was looked at
pub early_exactly : (r : Result Log LogFault) (text : List ℕ) (f : LogFault) → LogRead r text → HasHead text → IsEarly f
    → (r ≡ Err f) ↔ LogTextFault text f
early_exactly (Ok log) text f h has early = (λ e. absurd cc, λ k. absurd (log_or_fault text log f h k))
early_exactly (Err g) text f (inl e) has early = (
  λ q. absurd (early_no_memory f early (let same = err_is g f q in cc)),
  λ k. absurd (early_is_late f early (fault_late text f has k)),
)
early_exactly (Err g) text f (inr h) has early = fault_exactly text g f h
