-- What a text is answered, for whole texts.
use Rattle.std.proofs.Common.{◌≡◌, ◌≤◌, ◌↔◌, ℕ, List, ◌++◌, ◌⊎◌, Result, Ok, Err, length, refl, sym, ap, subst, ◌∙◌}
use Rattle.std.proofs.Common.{arith, inl, inr, append_assoc}
use Rattle.std.specs.Prelude.{codes}
use Rattle.std.proofs.lemmas.Option.{same_Some}
use Rattle.ira_event.specs.Limits.{MAX_TEXT}
use Rattle.ira_event.specs.declared.event.Event.{Event}
use Rattle.ira_event.specs.declared.log_fault.LogFault.{LogFault}
use Rattle.ira_event.specs.declared.log_fault.LogFault.TheVariants.{OutOfMemory}
use Rattle.ira_event.specs.declared.log_head.HeadLines.{HeadLines}
use Rattle.ira_event.specs.Log.{Log, IsLog}
use Rattle.ira_event.specs.declared.log_head.LogHead.{LogHead}
use Rattle.ira_event.specs.LogText.{IsLogText, head_of, log_text}
use Rattle.ira_event.specs.LogTextFault.{BeginsWithHead, OpeningFault, RecordsFault, LinesFault, no_head, past_head}
use Rattle.ira_event.specs.LogTextFault.{LogTextFault, AreAllRecords}
use Rattle.ira_event.specs.Result.{UnlessErr}
use Rattle.ira_event.proofs.Heads.{begins-again, head_says}
use Rattle.ira_event.proofs.LogTexts.{records_faults_same, records_fault_not_all, all_records_same}
use Rattle.ira_event.proofs.Spelled.{log_text_short, log_text_spelled, log_text_is}

-- a text begins with one head
pub heads_same : (text : List ℕ) (a b : LogHead) (r s : List ℕ) → BeginsWithHead text a r → BeginsWithHead text b s
    → (a ≡ b) × (r ≡ s)
heads_same text a b r s h k =
    let e = same_Some _ _ (sym (begins-again text a r h) ∙ begins-again text b s k) in
    (ap (λ (x : HeadLines × List ℕ). head_says x.0) e, ap (λ (x : HeadLines × List ℕ). x.1) e)

-- the text of a log is a head and all its records
pub head_begins : (text : List ℕ) (log : Log) (h : IsLogText text log)
    → BeginsWithHead text (head_of log) (h.records ++ (h.end ++ codes "\n"))
head_begins text log h = record {
  lines = h.head;
  lines_are = h.head_is;
  version = h.valid.version;
  size = h.valid.size;
  fits = h.valid.fits;
  in_ring = h.valid.place;
  parts = h.parts ∙ simp append_assoc;
}

records_of : (text : List ℕ) (log : Log) (h : IsLogText text log)
    → AreAllRecords log.version (h.records ++ (h.end ++ codes "\n")) log.events
records_of text log h = record {
  end = h.end;
  end_is = h.end_is;
  begins = record {
    records = h.records;
    records_are = h.records_are;
    count = h.valid.count;
    numbers = h.valid.numbers;
    held = h.valid.held;
    parts = refl;
  };
}

abbrev pub log_of : LogHead → List Event → Log
log_of head events = record {
  version = head.version;
  nodes = head.nodes;
  place = head.place;
  initiator = head.initiator;
  events = events;
}

pub log_read : (text : List ℕ) (head : LogHead) (rest : List ℕ) (events : List Event) → BeginsWithHead text head rest
    → AreAllRecords head.version rest events → IsLogText text (log_of head events)
log_read text head rest events a b = record {
  head = a.lines;
  records = b.begins.records;
  end = b.end;
  head_is = a.lines_are;
  records_are = b.begins.records_are;
  end_is = b.end_is;
  parts = a.parts ∙ ap (λ w. a.lines ++ w) b.begins.parts ∙ simp append_assoc;
  valid = record {
    version = a.version;
    size = a.size;
    fits = a.fits;
    place = a.in_ring;
    count = b.begins.count;
    numbers = b.begins.numbers;
    held = b.begins.held;
  };
}

log_parts_same : (a b : LogHead) (es fs : List Event) → a ≡ b → es ≡ fs → log_of a es ≡ log_of b fs
log_parts_same a b es fs p q = cc

-- ---- the laws

pub one_log : (text : List ℕ) (a b : Log) → IsLogText text a → IsLogText text b → a ≡ b
one_log text a b h k =
    let s = heads_same text (head_of a) (head_of b) _ _ (head_begins text a h) (head_begins text b k) in
    let version : a.version ≡ b.version = ap (λ (x : LogHead). x.version) s.0 in
    let first : AreAllRecords b.version (k.records ++ (k.end ++ codes "\n")) a.events =
    subst (λ (v : ℕ). AreAllRecords v (k.records ++ (k.end ++ codes "\n")) a.events) version
    (subst (λ t. AreAllRecords a.version t a.events) s.1 (records_of text a h)) in
    let es = all_records_same b.version _ a.events b.events first (records_of text b k) in
    log_parts_same (head_of a) (head_of b) a.events b.events s.0 es

pub log_or_fault : (text : List ℕ) (log : Log) (f : LogFault) → IsLogText text log → LogTextFault text f → ⊥
log_or_fault text log f h (inl long) = omega (arith, log_text_short text log h, long.0)
log_or_fault text log f h (inr lines) =
    elim lines.1 [
      | no_head none_there is ↦ none_there _ _ (head_begins text log h)
      | past_head head rest b rf ↦
          let s = heads_same text head (head_of log) rest _ b (head_begins text log h) in
          let P : LogHead → Type 0 = λ x. RecordsFault x.version rest f in
          records_fault_not_all log.version _ log.events f
          (subst (λ t. RecordsFault log.version t f) s.1 (subst P s.0 rf)) (records_of text log h)
    ]

lines_faults_same : (text : List ℕ) (f g : LogFault) → LinesFault text f → LinesFault text g → f ≡ g
lines_faults_same text f g (no_head a p) (no_head b q) = p ∙ sym q
lines_faults_same text f g (no_head a p) (past_head head rest b rf) = absurd (a head rest b)
lines_faults_same text f g (past_head head rest b rf) (no_head a p) = absurd (a head rest b)
lines_faults_same text f g (past_head head rest b rf) (past_head head' rest' b' rf') =
    let s = heads_same text head head' rest rest' b b' in
    let P : LogHead → Type 0 = λ x. RecordsFault x.version rest f in
    records_faults_same head'.version rest' f g (subst (λ t. RecordsFault head'.version t f) s.1 (subst P s.0 rf)) rf'

pub one_fault : (text : List ℕ) (f g : LogFault) → LogTextFault text f → LogTextFault text g → f ≡ g
one_fault text f g (inl a) (inl b) = a.1 ∙ sym b.1
one_fault text f g (inl a) (inr b) = absurd (omega (arith, a.0, b.0))
one_fault text f g (inr a) (inl b) = absurd (omega (arith, a.0, b.0))
one_fault text f g (inr a) (inr b) = lines_faults_same text f g a.1 b.1

pub one_text : (text : List ℕ) (log : Log) → IsLogText text log ↔ (IsLog log × (text ≡ log_text log))
one_text text log = (
  λ h. (h.valid, log_text_spelled text log h),
  λ h. subst (λ t. IsLogText t log) (sym h.1) (log_text_is log h.0),
)

-- ---- a reader that answers by the grammar answers exactly

abbrev pub LogRead : Result Log LogFault → List ℕ → Type 0
LogRead (Ok log) text = IsLogText text log
LogRead (Err f) text = (f ≡ OutOfMemory) ⊎ LogTextFault text f

pub lines_refused : (text : List ℕ) (head : LogHead) (rest : List ℕ) (v : ℕ) (f : LogFault) → length text ≤ MAX_TEXT
    → BeginsWithHead text head rest → v ≡ head.version → (f ≡ OutOfMemory) ⊎ RecordsFault v rest f
    → LogRead (Err f) text
lines_refused text head rest v f short b is (inl e) = inl e
lines_refused text head rest v f short b is (inr h) =
    inr (inr (short, past_head head rest b (subst (λ (x : ℕ). RecordsFault x rest f) is h)))

ok_is : (a b : Log) → ◌≡◌ {A = Result Log LogFault} (Ok a) (Ok b) → a ≡ b
ok_is a b e = cc

pub err_is : (f g : LogFault) → ◌≡◌ {A = Result Log LogFault} (Err f) (Err g) → f ≡ g
err_is f g e = cc

pub opening_fault : (text : List ℕ) (f : LogFault) → OpeningFault text f → LogTextFault text f
opening_fault text f (inl long) = inl long
opening_fault text f (inr h) = inr (h.0, no_head h.1 h.2)

pub exactly_ok : (r : Result Log LogFault) (text : List ℕ) → LogRead r text → (log : Log)
    → UnlessErr r OutOfMemory ((r ≡ Ok log) ↔ IsLogText text log)
exactly_ok (Ok l) text h log = inr (λ e. subst (IsLogText text) (ok_is l log e) h, λ k. ap Ok (one_log text l log h k))
exactly_ok (Err f) text (inl e) log = inl (ap Err e)
exactly_ok (Err f) text (inr h) log = inr (λ e. absurd cc, λ k. absurd (log_or_fault text log f k h))

pub exactly_err : (r : Result Log LogFault) (text : List ℕ) → LogRead r text → (f : LogFault)
    → UnlessErr r OutOfMemory ((r ≡ Err f) ↔ LogTextFault text f)
exactly_err (Ok l) text h f = inr (λ e. absurd cc, λ k. absurd (log_or_fault text l f h k))
exactly_err (Err g) text (inl e) f = inl (ap Err e)
exactly_err (Err g) text (inr h) f =
    inr (λ e. subst (LogTextFault text) (err_is g f e) h, λ k. ap Err (one_fault text g f h k))
