-- A text that begins with a head has no fault that is found before its lines are read.
use Rattle.std.proofs.Common.{◌≡◌, ◌≤◌, ◌↔◌, ℕ, List, ◌⊎◌, Result, Ok, Err, length, sym, ap, subst, arith, inl, inr}
use Rattle.ira_event.specs.Limits.{MAX_TEXT}
use Rattle.ira_event.proofs.NextLines.{next_fault_is}
use Rattle.ira_cert_text.specs.declared.cert_fault.CertFault.{CertFault}
use Rattle.ira_cert_text.specs.declared.cert_fault.CertFault.TheVariants as fault
use Rattle.ira_cert_text.specs.Certificate.{Certificate}
use Rattle.ira_cert_text.specs.CertLaws.{NoTextIsOutOfMemory}
use Rattle.ira_cert_text.specs.CertTextFault.{OutsideFault, too_many_sections, no_section_or_end, trailing, InsideFault}
use Rattle.ira_cert_text.specs.CertTextFault.{too_many_steps, no_step_or_spent, step_range, spent_range}
use Rattle.ira_cert_text.specs.CertTextFault.{BeginsWithCertHead, SectionsFault, outside, inside, CertLinesFault}
use Rattle.ira_cert_text.specs.CertTextFault.{no_head, past_head, CertTextFault}
use Rattle.ira_cert_text.proofs.CertAnswers.{CertificateRead, certificate_or_fault, one_fault, err_is}

-- a fault of what stands after a head
abbrev IsLate : CertFault → Type 0
IsLate fault.TooLong = ⊥
IsLate fault.Head = ⊥
IsLate fault.OutOfMemory = ⊥
IsLate f = Unit {0}

outside_fault_late : (k n : ℕ) (line more : List ℕ) (f : CertFault) → OutsideFault k n line more f → IsLate f
outside_fault_late k n line more f (too_many_sections a b e) = subst IsLate (sym e) tt
outside_fault_late k n line more f (no_section_or_end a b e) = subst IsLate (sym e) tt
outside_fault_late k n line more f (trailing a b e) = subst IsLate (sym e) tt

inside_fault_late : (nodes k n : ℕ) (line : List ℕ) (f : CertFault) → InsideFault nodes k n line f → IsLate f
inside_fault_late nodes k n line f (too_many_steps a b e) = subst IsLate (sym e) tt
inside_fault_late nodes k n line f (no_step_or_spent a b c e) = subst IsLate (sym e) tt
inside_fault_late nodes k n line f (step_range s a b c e) = subst IsLate (sym e) tt
inside_fault_late nodes k n line f (spent_range m a b e) = subst IsLate (sym e) tt

sections_fault_late : (nodes : ℕ) (text : List ℕ) (f : CertFault) → SectionsFault nodes text f → IsLate f
sections_fault_late nodes text f (outside ss rest b d) =
    next_fault_is fault.Cut _ IsLate tt (outside_fault_late _ (length ss)) rest f d
sections_fault_late nodes text f (inside ss steps body rest b few c d) =
    next_fault_is fault.Cut _ IsLate tt (λ line more. inside_fault_late nodes _ (length steps) line) rest f d

-- ---- no text is out of memory

lines_memory : (text : List ℕ) → CertLinesFault text fault.OutOfMemory → ⊥
lines_memory text (no_head a e) = absurd cc
lines_memory text (past_head n rest b h) = sections_fault_late n rest fault.OutOfMemory h

pub not_out_of_memory : NoTextIsOutOfMemory
not_out_of_memory text (inl a) = absurd cc
not_out_of_memory text (inr a) = lines_memory text a.1

-- ---- a text with a head

abbrev pub HasHead : List ℕ → Type 0
HasHead text = (length text ≤ MAX_TEXT) × (nodes : ℕ) × (rest : List ℕ) × BeginsWithCertHead text nodes rest

lines_late : (text : List ℕ) (f : CertFault) → HasHead text → CertLinesFault text f → IsLate f
lines_late text f has (no_head none e) = absurd (none has.1 has.2 has.3)
lines_late text f has (past_head n rest b h) = sections_fault_late n rest f h

fault_late : (text : List ℕ) (f : CertFault) → HasHead text → CertTextFault text f → IsLate f
fault_late text f has (inl long) = absurd (omega (arith, long.0, has.0))
fault_late text f has (inr lines) = lines_late text f has lines.1

-- a fault that is found before anything of a text is kept
abbrev pub IsEarly : CertFault → Type 0
IsEarly f = (f ≡ fault.TooLong) ⊎ (f ≡ fault.Head)

early_is_late : (f : CertFault) → IsEarly f → IsLate f → ⊥
early_is_late f (inl e) h = subst IsLate e h
early_is_late f (inr e) h = subst IsLate e h

early_no_memory : (f : CertFault) → IsEarly f → f ≡ fault.OutOfMemory → ⊥
early_no_memory f (inl e) q = absurd cc
early_no_memory f (inr e) q = absurd cc

-- ---- what a reader answers of early faults, whatever memory does

-- where the text's fault was answered
pub fault_exactly : (text : List ℕ) (g f : CertFault) → CertTextFault text g
    → ◌≡◌ {A = Result Certificate CertFault} (Err g) (Err f) ↔ CertTextFault text f
fault_exactly text g f h = (λ e. subst (CertTextFault text) (err_is g f e) h, λ k. ap Err (one_fault text g f h k))

-- where what stands after the head was looked at
pub early_exactly : (r : Result Certificate CertFault) (text : List ℕ) (f : CertFault) → CertificateRead r text
    → HasHead text → IsEarly f → (r ≡ Err f) ↔ CertTextFault text f
early_exactly (Ok c) text f h has early = (λ e. absurd cc, λ k. absurd (certificate_or_fault text c f h k))
early_exactly (Err g) text f (inl e) has early = (
  λ q. absurd (early_no_memory f early (let same = err_is g f q in cc)),
  λ k. absurd (early_is_late f early (fault_late text f has k)),
)
early_exactly (Err g) text f (inr h) has early = fault_exactly text g f h
