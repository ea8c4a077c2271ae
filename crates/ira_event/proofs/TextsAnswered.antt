-- Each text is a log's or has a fault.
use Rattle.std.proofs.Common.{◌≡◌, ◌≤◌, ◌<◌, ℕ, ◌+◌, zero, suc, Bool, true, false, List, [], ◌∷◌, ◌++◌, ◌⊎◌, length}
use Rattle.std.proofs.Common.{take, Option, Some, None, Result, Ok, Err, refl, sym, ap, ◌∙◌, arith, inl, inr, nat_eq}
use Rattle.std.proofs.Common.{subst}
use Rattle.std.specs.Cmp.Lexicographic.{pointwise, bytes_decides}
use Rattle.std.specs.Prelude.{codes, position}
use Rattle.std.proofs.lemmas.Bool.{cases_lt, cases_eq}
use Rattle.ira_event.specs.Limits.{MAX_NODES, MAX_RECORDS, MAX_TEXT, MAX_VERSION, MAX_VERSION_1_NODES}
use Rattle.ira_event.specs.declared.event.Event.{Event}
use Rattle.ira_event.specs.declared.log_fault.LogFault.{LogFault}
use Rattle.ira_event.specs.declared.log_fault.LogFault.TheVariants as fault
use Rattle.ira_event.specs.declared.log_head.HeadLines.{HeadLines}
use Rattle.ira_event.specs.declared.log_head.LogHead.{LogHead}
use Rattle.ira_event.specs.declared.log_line.LogLine.{LogLine}
use Rattle.ira_event.specs.declared.log_line.LogLine.TheVariants.{Record, End}
use Rattle.ira_event.specs.Event.{is_event, is_of_version}
use Rattle.ira_event.specs.Log.{Log}
use Rattle.ira_event.specs.LogScan.{line_at, head_at}
use Rattle.ira_event.specs.LogLaws.{EachTextHasAnAnswer}
use Rattle.ira_event.specs.LogText.{IsLogText}
use Rattle.ira_event.specs.LogTextFault.{BeginsAsRecord, BeginsWithHead, RestFault, RecordsFault, no_head, past_head}
use Rattle.ira_event.specs.LogTextFault.{LogTextFault, AreAllRecords}
use Rattle.ira_event.specs.NextLine.{cut}
use Rattle.ira_event.specs.RingSize.{FitsVersion}
use Rattle.ira_event.specs.Records.{RecordsLeft, ReadsOn, HasRead, IsUnread}
use Rattle.ira_event.specs.LogHead.{AreInRange}
use Rattle.ira_event.specs.Scan.{after_word}
use Rattle.ira_event.proofs.Heads as heads
use Rattle.ira_event.proofs.LogAnswers.{log_of, log_read}
use Rattle.ira_event.proofs.LogReading.{reads_record, at_end, fault_too_many, fault_range, fault_count, fault_trailing}
use Rattle.ira_event.proofs.LogReading.{after_nothing, after_more, after_all, after_fault, record_shorter}
use Rattle.ira_event.proofs.LogReading.{no_line_end, line_end_at, fault_unread_too_many, fault_line}
use Rattle.ira_event.proofs.RecordLines.{word-takes, word-again}

-- the fact holds, or it doesn't
abbrev pub Decided : Type 0 → Type 0
Decided P = P ⊎ (¬ P)

-- ---- a line

word_found : (word text : List ℕ) (found : Option (List ℕ)) → after_word word text ≡ found
    → Decided ((rest : List ℕ) × (text ≡ word ++ rest))
word_found word text (Some rest) e = inl (rest, word-takes word text rest e)
word_found word text None e = inr (λ p. let read = sym e ∙ ap (after_word word) p.1 ∙ word-again word p.0 in absurd cc)

-- a text begins with the word, or it doesn't
pub begins_decided : (word text : List ℕ) → Decided ((rest : List ℕ) × (text ≡ word ++ rest))
begins_decided word text = word_found word text (after_word word text) refl

both_decided : {P Q : Type 0} → Decided P → Decided Q → Decided (P ⊎ Q)
both_decided (inl p) q = inl (inl p)
both_decided (inr n) (inl q) = inl (inr q)
both_decided (inr n) (inr m) = inr (λ h. elim h [ inl p ↦ n p | inr q ↦ m q ])

same_or_not : (a b : List ℕ) (same : Bool) → pointwise nat_eq a b ≡ same → Decided (a ≡ b)
same_or_not a b true e = inl ((bytes_decides a b).0 e)
same_or_not a b false e = inr (λ is. let yes = (bytes_decides a b).1 is in absurd cc)

yield_decided : (v : ℕ) (line : List ℕ) → Decided ((1 < v) × (line ≡ codes "yield"))
yield_decided v line = elim (cases_lt 1 v) [
  | inr first ↦ inr (λ h. omega (arith, h.0, first))
  | inl later ↦ elim (same_or_not line (codes "yield") (pointwise nat_eq line (codes "yield")) refl) [
    | inl is ↦
        inl (later, is)
    | inr other ↦ inr (λ h. other h.1)
  ]
]

record_decided : (v : ℕ) (line : List ℕ) → Decided (BeginsAsRecord v line)
record_decided v line =
    both_decided (both_decided (begins_decided (codes "draw ") line)
    (both_decided (begins_decided (codes "send ") line) (begins_decided (codes "recv ") line)))
    (yield_decided v line)

-- ---- what stands after some records

module _ (v : ℕ) where
  abbrev left_of : List ℕ → ℕ → RecordsLeft
  left_of rest k = record { version = v; rest = rest; count = k }

  -- reading on gives something
  abbrev ReadsNextRecord : List ℕ → ℕ → Type 0
  ReadsNextRecord rest k = (new : RecordsLeft) × (r : Result (Option Event) LogFault) × ReadsOn (left_of rest k) new r

  refused : (rest : List ℕ) (k : ℕ) (f : LogFault) → RestFault v k rest f → ReadsNextRecord rest k
  refused rest k f h = (left_of rest k, Err f, (h, refl))

  at_record : (rest after : List ℕ) (k : ℕ) (e : Event) (good : Bool) → k ≤ MAX_RECORDS
      → line_at rest ≡ Some (Record e, after) → is_of_version v e ≡ true → is_event e ≡ good → ReadsNextRecord rest k
  at_record rest after k e good within read held is = elim (cases_lt k MAX_RECORDS) [
    | inr full ↦ refused rest k fault.TooMany (fault_too_many v rest after k e read held (omega (arith, within, full)))
    | inl room ↦ elim good as (λ b. is_event e ≡ b → ReadsNextRecord rest k) [
      | true ↦ λ t. (
        left_of after (k + 1),
        Ok (Some e),
        reads_record v rest after k e read held (λ q. omega (arith, q, room)) t,
      )
      | false ↦ λ t. refused rest k (fault.Range (k + 5))
          (fault_range v rest after k e read held (λ q. omega (arith, q, room)) t)
    ] is
  ]

  at_end_line : (rest after : List ℕ) (k n : ℕ) → k ≤ MAX_RECORDS → line_at rest ≡ Some (End n, after)
      → ReadsNextRecord rest k
  at_end_line rest after k n within read = elim (cases_eq n k) [
    | inr other ↦ refused rest k fault.Count (fault_count v rest after k n read within other)
    | inl same ↦ elim after as (λ xs. line_at rest ≡ Some (End n, xs) → ReadsNextRecord rest k) [
      | [] ↦ λ q. (left_of rest k, Ok None, (at_end v rest [] k n q within same refl, refl))
      | x ∷ xs ↦ λ q. refused rest k fault.Trailing
          (fault_trailing v rest (x ∷ xs) k n q within same (λ none. absurd cc))
    ] read
  ]

  -- no record of the version and no end line was read, but a line there is
  at_other_line : (rest : List ℕ) (k i : ℕ) → IsUnread v rest → position (λ c. nat_eq c 10) rest ≡ Some i
      → ReadsNextRecord rest k
  at_other_line rest k i unread e =
      let feed = line_end_at rest i e in
      elim (cases_eq k MAX_RECORDS) [
        | inr few ↦ refused rest k (fault.Line (k + 5))
            (fault_line v k rest unread (take i rest) feed (λ many begins. few many))
        | inl many ↦ elim (record_decided v (take i rest)) [
          | inl begins ↦ refused rest k fault.TooMany
              (fault_unread_too_many v k rest unread (take i rest) feed many begins)
          | inr other ↦ refused rest k (fault.Line (k + 5))
              (fault_line v k rest unread (take i rest) feed (λ _ begins. other begins))
        ]
      ]

  at_no_line : (rest : List ℕ) (k : ℕ) (end : Option ℕ) → IsUnread v rest → position (λ c. nat_eq c 10) rest ≡ end
      → ReadsNextRecord rest k
  at_no_line rest k (Some i) unread e = at_other_line rest k i unread e
  at_no_line rest k None unread e = refused rest k fault.Cut (cut (no_line_end rest e) refl)

  at_any_record : (rest after : List ℕ) (k : ℕ) (e : Event) (held : Bool) → k ≤ MAX_RECORDS
      → line_at rest ≡ Some (Record e, after) → is_of_version v e ≡ held → ReadsNextRecord rest k
  at_any_record rest after k e true within read held = at_record rest after k e (is_event e) within read held refl
  at_any_record rest after k e false within read held =
      at_no_line rest k (position (λ c. nat_eq c 10) rest) (inr (e, after, read, held)) refl

  at_any : (rest : List ℕ) (k : ℕ) (line : Option (LogLine × List ℕ)) → k ≤ MAX_RECORDS → line_at rest ≡ line
      → ReadsNextRecord rest k
  at_any rest k (Some (Record e, after)) within read = at_any_record rest after k e (is_of_version v e) within read refl
  at_any rest k (Some (End n, after)) within read = at_end_line rest after k n within read
  at_any rest k None within read = at_no_line rest k (position (λ c. nat_eq c 10) rest) (inl read) refl

-- ---- what stands after a head

abbrev RecordsAnswered : ℕ → List ℕ → Type 0
RecordsAnswered v text = ((events : List Event) × AreAllRecords v text events)
    ⊎ ((f : LogFault) × RecordsFault v text f)

-- from record to record, for so many bytes at most
from_record : (bytes v : ℕ) (text : List ℕ) (es : List Event) (rest : List ℕ) (k : ℕ) → length rest < bytes
    → HasRead text es (left_of v rest k) → RecordsAnswered v text
from_record zero v text es rest k short h = absurd (omega arith)
from_record (suc bytes) v text es rest k short h =
    let left : RecordsLeft = left_of v rest k in
    let next = at_any v rest k (line_at rest) (omega (arith, h.0.count, h.1)) refl in
    elim next.1 as (λ r. ReadsOn left next.0 r → RecordsAnswered v text) [
      | Ok (Some e) ↦ λ r.
          let on : HasRead text (es ++ e ∷ []) (left_of v next.0.rest next.0.count) =
          let P : ℕ → Type 0 = λ w.
          HasRead text (es ++ e ∷ []) (record { version = w; rest = next.0.rest; count = next.0.count }) in
          subst P r.version (after_more text es left next.0 e h r) in
          from_record bytes v text (es ++ e ∷ []) next.0.rest next.0.count
          (omega (arith, record_shorter left next.0 e r, short)) on
      | Ok None ↦ λ r. inl (es, after_all text es left h r.0)
      | Err f ↦ λ r. inr (f, after_fault text es left f h r.0)
    ] next.2

records_answered : (v : ℕ) (text : List ℕ) → RecordsAnswered v text
records_answered v text =
    from_record (suc (length text)) v text [] text 0 (omega arith) (after_nothing text (left_of v text 0) refl refl)

-- ---- whole texts

range_decided : (least most n : ℕ) → Decided ((least ≤ n) × (n ≤ most))
range_decided least most n = elim (cases_lt n least) [
  | inl few ↦ inr (λ h. omega (arith, h.0, few))
  | inr enough ↦ elim (cases_lt most n) [
    | inl many ↦ inr (λ h. omega (arith, h.1, many))
    | inr small ↦ inl (enough, small)
  ]
]

fits_decided : (version n : ℕ) → Decided (FitsVersion version n)
fits_decided version n = elim (cases_lt MAX_VERSION_1_NODES n) [
  | inl many ↦ elim (cases_eq version 1) [
    | inl first ↦ inr (λ h. omega (arith, h first, many))
    | inr other ↦ inl (λ first. absurd (other first))
  ]
  | inr few ↦ inl (λ _. few)
]

head_decided : (lines : HeadLines) → Decided (AreInRange lines)
head_decided lines = elim (range_decided 1 MAX_VERSION lines.version) [
  | inr other ↦ inr (λ h. other h.0)
  | inl version ↦ elim (range_decided 2 MAX_NODES lines.nodes) [
    | inr other ↦ inr (λ h. other h.1)
    | inl size ↦ elim (fits_decided lines.version lines.nodes) [
      | inr other ↦ inr (λ h. other h.2)
      | inl fits ↦ elim (cases_lt lines.place lines.nodes) [
        | inl lt ↦ inl (version, size, fits, lt)
        | inr past ↦ inr (λ h. omega (arith, h.3, past))
      ]
    ]
  ]
]

abbrev Answered : List ℕ → Type 0
Answered text = ((log : Log) × IsLogText text log) ⊎ ((f : LogFault) × LogTextFault text f)

no_head_there : (text : List ℕ) → length text ≤ MAX_TEXT
    → ((head : LogHead) (rest : List ℕ) → ¬ (BeginsWithHead text head rest)) → Answered text
no_head_there text short none = inr (fault.Head, inr (short, no_head none refl))

head_there : (text : List ℕ) (head : LogHead) (rest : List ℕ) → length text ≤ MAX_TEXT → BeginsWithHead text head rest
    → RecordsAnswered head.version rest → Answered text
head_there text head rest short b (inl r) = inl (log_of head r.0, log_read text head rest r.0 b r.1)
head_there text head rest short b (inr r) = inr (r.0, inr (short, past_head head rest b r.1))

by_head : (text : List ℕ) (head : Option (HeadLines × List ℕ)) → length text ≤ MAX_TEXT → head_at text ≡ head
    → Answered text
by_head text None short e = no_head_there text short (heads.no_head text e)
by_head text (Some (lines, rest)) short e = elim (head_decided lines) [
  | inl good ↦ head_there text (heads.head_says lines) rest short (heads.head_found text lines rest e good)
      (records_answered lines.version rest)
  | inr bad ↦ no_head_there text short (heads.head_out_of_range text lines rest e bad)
]

pub each_answered : EachTextHasAnAnswer
each_answered text = elim (cases_lt MAX_TEXT (length text)) [
  | inl long ↦ inr (fault.TooLong, inl (long, refl))
  | inr short ↦ by_head text (head_at text) short refl
]
