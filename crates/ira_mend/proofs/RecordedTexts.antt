-- Texts that may have been cut off, and the logs that they record.
use Rattle.std.proofs.Common.{◌≡◌, ◌≢◌, ◌↔◌, ◌<◌, ◌≤◌, ◌⊎◌, ◌+◌, ℕ, List, [], ◌∷◌, ◌++◌, zero, suc, Bool, Option, Some, None}
use Rattle.std.proofs.Common.{Ok, Err, true, false, inl, inr, length, map, refl, sym, ap, ap₂, subst, ◌∙◌, arith, take}
use Rattle.std.proofs.Common.{length-append}
use Rattle.std.proofs.lemmas.List.{take-append-le, take_all}
use Rattle.std.specs.Prelude.{codes, decimal, slice_get}
use Rattle.std.specs.List.{All, AllZip, flat_map, list_all}
use Rattle.ira_event.specs.Limits.{MAX_TEXT}
use Rattle.ira_event.specs.declared.event.Event.{Event}
use Rattle.ira_event.specs.declared.head_fault.HeadFault.TheVariants.{Number}
use Rattle.ira_event.specs.declared.log_fault.LogFault.{LogFault}
use Rattle.ira_event.specs.declared.log_fault.LogFault.TheVariants as fault
use Rattle.ira_event.specs.declared.log_head.LogHead.{LogHead}
use Rattle.ira_event.specs.Log.{Log, IsLog}
use Rattle.ira_event.specs.LogText.{head_of, log_text, record_text, start_word}
use Rattle.ira_event.specs.LogTextFault.{BeginsWithHead, BeginsWithNoHead, BeginsWithRecords, LineFault}
use Rattle.ira_event.specs.LogTextFault.{LogTextFault, OpeningFault, RecordsFault, RestFault, no_head, past_head, no_line}
use Rattle.ira_event.specs.LogTextFault.{other_count, out_of_range, too_many, trailing}
use Rattle.ira_event.specs.NextLine.{at_line, cut}
use Rattle.ira_event.specs.Records.{HasRead, IsAtEnd, ReadsOn, ReadsRecord, RecordsLeft}
use Rattle.ira_event.proofs.LogAnswers.{log_of, log_or_fault, log_read, one_fault, opening_fault}
use Rattle.ira_event.proofs.LogReading.{after_all}
use Rattle.ira_event.proofs.Numerals.{and_parts}
use Rattle.std.proofs.lemmas.Fmt.{length-decimal-le}
use Rattle.std.proofs.lemmas.Option.{same_Some}
use Rattle.ira_mend.specs.RecordedLogs.{AreLeftTexts, BreaksOff, BreaksOffAfter, HasHeadOfLog, HasNoLog, HasReadLines, HasRecorded, IsCutText}
use Rattle.ira_mend.specs.RecordedLogs.{IsFirstFault, IsLeftText, IsLost, IsNotLeft, IsRecordOf, IsRecordedReason}
use Rattle.ira_mend.specs.RecordedLogs.{IsRecordedText, LeftTextsFrom, ReadsWholeLine, RecordsLog, SaysLost, empty_log}
use Rattle.ira_mend.specs.RecordedLogs.{IsShort, faulty, is_lost, is_short, no_log, nothing, short}
use Rattle.ira_audit.specs.Refusal.{MatchRefusal}
use Rattle.ira_audit.specs.Report.{IsReportableReason}
use Rattle.ira_audit.specs.declared.reason.Reason.{Reason}
use Rattle.ira_audit.specs.declared.reason.Reason.TheVariants as reason
use Rattle.ira_audit.specs.declared.refusal.Refusal.{Refusal}
use Rattle.ira_audit.specs.declared.refusal.Refusal.TheVariants.{No, OutOfMemory}
use Rattle.ira_audit.proofs.Replaying.{text_fault_other}
use Rattle.ira_mend.specs.declared.recorded_log.RecordedLog.{RecordedLog}
use Rattle.ira_mend.specs.declared.recorded_log.RecordedLog.TheVariants as taken

-- ---- reading on

-- the text breaks off
pub reads_to_end : (old new : RecordsLeft) (f : LogFault) → BreaksOff f → ReadsOn old new (Err f)
    → ReadsWholeLine old new (Ok None)
reads_to_end old new f off read = (inr (f, off, read.0), read.1)

pub reads_on : (old new : RecordsLeft) (r : Option Event) → ReadsOn old new (Ok r) → ReadsWholeLine old new (Ok r)
reads_on old new (Some e) read = read
reads_on old new None read = (inl read.0, read.1)

pub read_whole : (old new : RecordsLeft) (r : Option Event) (e : Event) → ReadsWholeLine old new (Ok r) → r ≡ Some e
    → ReadsRecord old new e
read_whole old new (Some x) e h is = (let same : x ≡ e = cc in subst (ReadsRecord old new) same h)
read_whole old new None e h is = absurd cc

read_last : (old new : RecordsLeft) (r : Option Event) → ReadsWholeLine old new (Ok r) → r ≡ None → IsAtEnd old
    ⊎ BreaksOffAfter old.version old.count old.rest
read_last old new (Some x) h is = absurd cc
read_last old new None h is = h.0

-- an end line follows, or the text breaks off
pub lines_read : (text : List ℕ) (events : List Event) (old new : RecordsLeft) (r : Option Event)
    → HasRead text events old → ReadsWholeLine old new (Ok r) → r ≡ None → HasReadLines old.version text events
lines_read text events old new r read h is = elim (read_last old new r h is) [
  | inl end ↦
      let all = after_all text events old read end in
      record { tail = all.end ++ codes "\n"; begins = all.begins; ends = inl (all.end, all.end_is, refl) }
  | inr off ↦
      let after = subst (λ (k : ℕ). BreaksOffAfter old.version k old.rest) (sym read.1) off in
      record { tail = old.rest; begins = read.0; ends = inr after }
]

-- any other fault
pub goes_on : (f : LogFault) → f ≢ fault.Cut → f ≢ fault.TooMany → ¬ (BreaksOff f)
goes_on f no_piece not_many (inl e) = no_piece e
goes_on f no_piece not_many (inr e) = not_many e

-- ---- the log of a text

pub lines_are_log : (text : List ℕ) (head : LogHead) (rest : List ℕ) (events : List Event)
    → BeginsWithHead text head rest → HasReadLines head.version rest events → IsLog (log_of head events)
lines_are_log text head rest events a b = record {
  version = a.version;
  size = a.size;
  fits = a.fits;
  place = a.in_ring;
  count = b.begins.count;
  numbers = b.begins.numbers;
  held = b.begins.held;
}

pub lines_recorded : (text : List ℕ) (head : LogHead) (rest : List ℕ) (events : List Event) → length text ≤ MAX_TEXT
    → BeginsWithHead text head rest → HasReadLines head.version rest events → IsRecordedText text (log_of head events)
lines_recorded text head rest events few a b = elim b.ends [
  | inl end ↦ inl (log_read text head rest events a
      (record {
        end = end.0;
        end_is = end.1;
        begins = subst (λ t. BeginsWithRecords head.version rest events t) end.2 b.begins;
      }))
  | inr piece ↦ inr (record { few = few; lines = rest; head = a; piece = b.tail; records = b.begins; cut = piece })
]

pub opening_recorded : (text : List ℕ) (f : LogFault) → OpeningFault text f → LogTextFault text f × ¬ (BreaksOff f)
opening_recorded text f bad = (opening_fault text f bad, other bad)
  where
    other : OpeningFault text f → ¬ (BreaksOff f)
    other (inl long) off = goes_on fault.TooLong (λ e. cc) (λ e. cc) (subst BreaksOff long.1 off)
    other (inr none) off = goes_on fault.Head (λ e. cc) (λ e. cc) (subst BreaksOff none.2 off)

pub lines_not_recorded : (text : List ℕ) (head : LogHead) (rest : List ℕ) (v : ℕ) (f : LogFault)
    → length text ≤ MAX_TEXT → BeginsWithHead text head rest → v ≡ head.version → (f ≡ fault.OutOfMemory)
    ⊎ (RecordsFault v rest f × ¬ (BreaksOff f)) → (f ≡ fault.OutOfMemory) ⊎ (LogTextFault text f × ¬ (BreaksOff f))
lines_not_recorded text head rest v f few a same (inl full) = inl full
lines_not_recorded text head rest v f few a same (inr bad) =
    inr (inr (few, past_head head rest a (subst (λ (w : ℕ). RecordsFault w rest f) same bad.0)), bad.1)

-- ---- texts that are taken one by one

-- a text that breaks off has that fault
pub cut_fault : (text : List ℕ) (log : Log) (is : IsCutText text log) → LogTextFault text is.cut.0
cut_fault text log is = inr (
  is.few,
  past_head (head_of log) is.lines is.head (record {
    events = log.events;
    rest = is.piece;
    begins = is.records;
    fault = is.cut.2;
  }),
)

-- what has another fault records no log
pub not_recorded : (text : List ℕ) (log : Log) (f : LogFault) → LogTextFault text f → ¬ (BreaksOff f)
    → IsRecordedText text log → ⊥
not_recorded text log f bad other (inl whole) = log_or_fault text log f whole bad
not_recorded text log f bad other (inr is) =
    other (subst BreaksOff (sym (one_fault text f is.cut.0 bad (cut_fault text log is))) is.cut.1)

pub head_goes_on : ¬ (BreaksOff fault.Head)
head_goes_on = goes_on fault.Head (λ e. cc) (λ e. cc)

no_head_line : (v k : ℕ) (line more : List ℕ) → LineFault v k line more fault.Head → ⊥
no_head_line v k line more (too_many many begins is) = absurd cc
no_head_line v k line more (no_line few no_record no_end is) = absurd cc
no_head_line v k line more (out_of_range e few held is_record bad is) = absurd cc
no_head_line v k line more (other_count n is_end other is) = absurd cc
no_head_line v k line more (trailing is_end some is) = absurd cc

-- a text of which that is said begins with no head
pub begins_with_none : (text : List ℕ) → LogTextFault text fault.Head → BeginsWithNoHead text
begins_with_none text (inl long) = absurd cc
begins_with_none text (inr (few, no_head none is)) = none
begins_with_none text (inr (few, past_head head rest begins bad)) = absurd (go bad.fault)
  where
    go : RestFault head.version (length bad.events) bad.rest fault.Head → ⊥
    go (cut none is) = absurd cc
    go (at_line line more parts whole is) = no_head_line _ _ line more is

-- a log without events has a short text
empty_short : (ring : LogHead) (place : ℕ) (start : Bool) → IsLog (empty_log ring place start)
    → length (log_text (empty_log ring place start)) ≤ 100
empty_short ring place start is =
    let v : length (decimal (head_of (empty_log ring place start)).version) ≤ 7 =
    length-decimal-le 7 ring.version (omega arith) (omega (arith, is.version.1)) (omega (arith, is.version.1)) in
    let n : length (decimal (head_of (empty_log ring place start)).nodes) ≤ 7 =
    length-decimal-le 7 ring.nodes (omega arith) (omega (arith, is.size.1)) (omega (arith, is.size.1)) in
    let p : length (decimal (head_of (empty_log ring place start)).place) ≤ 7 =
    length-decimal-le 7 place (omega arith) (omega (arith, is.size.1, is.place)) (omega (arith, is.size.1, is.place)) in
    let b : length (start_word (head_of (empty_log ring place start)).initiator) ≤ 9 = start_short start in
    let e : length (decimal (length (empty_log ring place start).events)) ≤ 7 =
    length-decimal-le 7 0 (omega arith) (omega arith) (omega arith) in
    let none : length (flat_map record_text (empty_log ring place start).events) ≡ 0 = refl in
    simp length-append (omega (arith, v, n, p, b, e, none))
  where
    start_short : (b : Bool) → length (start_word b) ≤ 9
    start_short true = omega arith
    start_short false = omega arith

-- any place of the ring, and either start, makes such a log
pub empty_is_log : (ring : LogHead) (place place' : ℕ) (start start' : Bool) → IsLog (empty_log ring place start)
    → place' < ring.nodes → IsLog (empty_log ring place' start')
empty_is_log ring place place' start start' is l = record {
  version = is.version;
  size = is.size;
  fits = is.fits;
  place = l;
  count = is.count;
  numbers = is.numbers;
  held = is.held;
}

-- so a text of which that much is said isn't left of one
pub lost_short : (ring : LogHead) (guess guess' : Bool) (place place' : ℕ) (text : List ℕ) (log : Log)
    → IsLog (empty_log ring place' guess') → IsLost ring guess place text log → length text ≤ 100
lost_short ring guess guess' place place' text log is lost =
    let it = empty_is_log ring place' place guess' lost.start is lost.in_ring in
    let whole : text ++ lost.piece.rest ≡ log_text (empty_log ring place lost.start) =
    lost.piece.parts ∙ ap log_text lost.empty in
    omega (arith, empty_short ring place lost.start it, ap length whole, length-append text lost.piece.rest)

-- and one with another fault neither
pub not_lost : (ring : LogHead) (guess guess' : Bool) (place place' : ℕ) (text : List ℕ) (log : Log) (f : LogFault)
    → IsLog (empty_log ring place' guess') → LogTextFault text f → (f ≡ fault.Head → 100 < length text)
    → IsLost ring guess place text log → ⊥
not_lost ring guess guess' place place' text log f is bad long lost =
    let few = lost_short ring guess guess' place place' text log is lost in
    let head : LogTextFault text fault.Head = inr (omega (arith, few), no_head lost.piece.within refl) in
    let same : f ≡ fault.Head = one_fault text f fault.Head bad head in
    absurd (omega (arith, few, long same))

-- ---- what is found among them

module _ {A : Type 0} where
  -- a text that was taken, of what was taken
  pub text_of : (recorded : List (RecordedLog A)) (texts : List (List ℕ)) (i : ℕ) (it : RecordedLog A)
      → HasRecorded recorded texts → slice_get recorded i ≡ Some it
      → (text : List ℕ) × (slice_get texts i ≡ Some text) × IsRecordOf text it
  text_of [] texts i it has at = absurd cc
  text_of (r ∷ recorded) [] i it has at = absurd has
  text_of (r ∷ recorded) (text ∷ texts) zero it has at =
      let same : r ≡ it = cc in
      (text, refl, subst (IsRecordOf text) same has.0)
  text_of (r ∷ recorded) (text ∷ texts) (suc i) it has at = text_of recorded texts i it has.1 at

  -- and what was taken of a text
  pub record_of : (recorded : List (RecordedLog A)) (texts : List (List ℕ)) (i : ℕ) (text : List ℕ)
      → HasRecorded recorded texts → slice_get texts i ≡ Some text
      → (it : RecordedLog A) × (slice_get recorded i ≡ Some it) × IsRecordOf text it
  record_of [] [] i text has at = absurd cc
  record_of [] (t ∷ texts) i text has at = absurd has
  record_of (r ∷ recorded) [] i text has at = absurd has
  record_of (r ∷ recorded) (t ∷ texts) zero text has at =
      let same : t ≡ text = cc in
      (r, refl, subst (λ x. IsRecordOf x r) same has.0)
  record_of (r ∷ recorded) (t ∷ texts) (suc i) text has at = record_of recorded texts i text has.1 at

  -- what was taken of a text that records a log is one
  no_log_of : (text : List ℕ) (r : RecordedLog A) → IsRecordOf text r → (log : Log) → IsRecordedText text log
      → ((l : Log) → r ≡ taken.Log l → ⊥) → ⊥
  no_log_of text (taken.Log l) of log is none = none l refl
  no_log_of text (taken.Short bytes) of log is none = not_recorded text log fault.Head of.1.0 head_goes_on is
  no_log_of text (taken.Faulty f) of log is none = not_recorded text log f of.0 of.1 is

  -- a log that was taken is recorded
  pub one_recorded : (recorded : List (RecordedLog A)) (texts : List (List ℕ)) (head : LogHead)
      → HasRecorded recorded texts → (ring : HasHeadOfLog recorded head) → RecordsLog texts ring.log
  one_recorded recorded texts head has ring =
      let it = text_of recorded texts ring.number _ has ring.at in
      record {
        number = ring.number;
        text = it.0;
        at = it.1;
        recorded = it.2;
        first = λ i before other low there is.
            (let r = record_of recorded texts i before has there in
            no_log_of before r.0 r.2 other is (λ log same.
            ring.first i log low (r.1 ∙ ap Some same)));
      }

  -- and where none was, no text records one
  pub none_recorded : (recorded : List (RecordedLog A)) (texts : List (List ℕ)) (log : Log)
      → HasRecorded recorded texts → HasNoLog recorded → RecordsLog texts log → ⊥
  none_recorded recorded texts log has none is =
      let it = record_of recorded texts is.number is.text has is.at in
      no_log_of is.text it.0 it.2 log is.recorded (λ l same. none is.number l (it.1 ∙ ap Some same))

  -- of each text it is said whether it begins with no head
  lost_said : (text : List ℕ) (r : RecordedLog A) → IsRecordOf text r → SaysLost text (is_lost r)
  lost_said text (taken.Log log) of = (λ no. cc, λ bad. absurd (not_recorded text log fault.Head bad head_goes_on of))
  lost_said text (taken.Short bytes) of = (λ yes. of.1.0, λ bad. refl)
  lost_said text (taken.Faulty f) of = go f of.0
    where
      go : (f : LogFault) → LogTextFault text f → SaysLost text (is_lost {A = A} (taken.Faulty f))
      go fault.Head bad = (λ yes. bad, λ h. refl)
      go g bad = (λ no. cc, λ h. (let same = one_fault text g fault.Head bad h in absurd cc))

  pub all_said : (recorded : List (RecordedLog A)) (texts : List (List ℕ)) → HasRecorded recorded texts
      → AllZip SaysLost texts (map is_lost recorded)
  all_said [] [] has = tt
  all_said [] (t ∷ texts) has = absurd has
  all_said (r ∷ recorded) [] has = absurd has
  all_said (r ∷ recorded) (t ∷ texts) has = (lost_said t r has.0, all_said recorded texts has.1)

  -- and whether it is short
  short_said : (text : List ℕ) (r : RecordedLog A) → IsRecordOf text r → (is_short r ≡ true) ↔ IsShort text
  short_said text (taken.Log log) of =
      (λ yes. absurd cc, λ short. absurd (not_recorded text log fault.Head short.0 head_goes_on of))
  short_said text (taken.Short bytes) of = (λ yes. of.1, λ short. refl)
  short_said text (taken.Faulty f) of = (
    λ yes. absurd cc,
    λ short.
        (let long = of.2 (one_fault text f fault.Head of.0 short.0) in absurd (omega (arith, long, short.1))),
  )

  shorts_more : (r : RecordedLog A) (recorded : List (RecordedLog A)) (t : List ℕ) (texts : List (List ℕ))
      → ((is_short r ≡ true) ↔ IsShort t) → ((list_all is_short recorded ≡ true) ↔ All IsShort texts)
      → (list_all is_short (r ∷ recorded) ≡ true) ↔ All IsShort (t ∷ texts)
  shorts_more r recorded t texts one more =
      (each, λ all. rw (one.1 (all 0 t (omega arith))) (more.1 (λ k d low. all (suc k) d (omega (arith, low)))))
    where
      each : list_all is_short (r ∷ recorded) ≡ true → All IsShort (t ∷ texts)
      each all zero d low = one.0 (and_parts (is_short r) (list_all is_short recorded) all).0
      each all (suc k) d low = more.0 (and_parts (is_short r) (list_all is_short recorded) all).1 k d (omega (arith, low))

  pub shorts_said : (recorded : List (RecordedLog A)) (texts : List (List ℕ)) → HasRecorded recorded texts
      → (list_all is_short recorded ≡ true) ↔ All IsShort texts
  shorts_said [] [] has = (λ yes k d low. absurd (omega (arith, low)), λ all. refl)
  shorts_said [] (t ∷ texts) has = absurd has
  shorts_said (r ∷ recorded) [] has = absurd has
  shorts_said (r ∷ recorded) (t ∷ texts) has =
      shorts_more r recorded t texts (short_said t r has.0) (shorts_said recorded texts has.1)

  -- what is neither a log nor faulty is short
  left_short : (r : RecordedLog A) → ((log : _) → ¬ (r ≡ taken.Log log)) → ((f : LogFault) → ¬ (r ≡ taken.Faulty f))
      → is_short r ≡ true
  left_short (taken.Log log) log_no faulty_no = absurd (log_no log refl)
  left_short (taken.Short bytes) log_no faulty_no = refl
  left_short (taken.Faulty f) log_no faulty_no = absurd (faulty_no f refl)

  short_next : (n : ℕ) (rs : List (RecordedLog A)) (r : RecordedLog A) → slice_get rs n ≡ Some r → is_short r ≡ true
      → list_all is_short (take n rs) ≡ true → list_all is_short (take (suc n) rs) ≡ true
  short_next n [] r at is all = absurd cc
  short_next zero (x ∷ rs) r at is all = rw (ap is_short (same_Some x r at) ∙ is) refl
  short_next (suc n) (x ∷ rs) r at is all =
      rw (and_parts (is_short x) (list_all is_short (take n rs)) all).0
      (short_next n rs r at is (and_parts (is_short x) (list_all is_short (take n rs)) all).1)

  -- one more that is neither
  pub shorts_next : (rs : List (RecordedLog A)) (n : ℕ) (r : RecordedLog A) → HasNoLog rs → slice_get rs n ≡ Some r
      → ((f : LogFault) → ¬ (r ≡ taken.Faulty f)) → list_all is_short (take n rs) ≡ true
      → list_all is_short (take (n + 1) rs) ≡ true
  shorts_next rs n r no_logs at faulty_no all =
      let next = short_next n rs r at (left_short r (λ log is. no_logs n log (at ∙ ap Some is)) faulty_no) all in
      let number : suc n ≡ n + 1 = omega arith in
      subst (λ k. list_all is_short (take k rs) ≡ true) number next

  -- where one is neither short nor a log's, it is faulty
  pub faulty_first : (recorded : List (RecordedLog A)) (texts : List (List ℕ)) (i : ℕ) (f : LogFault)
      → HasRecorded recorded texts → slice_get recorded i ≡ Some (taken.Faulty f)
      → list_all is_short (take i recorded) ≡ true → IsFirstFault texts (reason.Log i f)
  faulty_first recorded texts i f has at before =
      let it = text_of recorded texts i (taken.Faulty f) has at in
      faulty i it.0 f it.1 ((shorts_said (take i recorded) (take i texts) (taken_first i recorded texts has)).0 before)
      (λ short. (let yes = (short_said it.0 (taken.Faulty f) it.2).1 short in absurd cc)) it.2.0 refl
    where
      taken_first : (n : ℕ) (rs : List (RecordedLog A)) (ts : List (List ℕ)) → HasRecorded rs ts
          → HasRecorded (take n rs) (take n ts)
      taken_first zero rs ts all = tt
      taken_first (suc n) [] [] all = tt
      taken_first (suc n) [] (t ∷ ts) all = absurd all
      taken_first (suc n) (r ∷ rs) [] all = absurd all
      taken_first (suc n) (r ∷ rs) (t ∷ ts) all = (all.0, taken_first n rs ts all.1)

  -- and where none is, there is none, or the first is short
  pub none_faulty : (recorded : List (RecordedLog A)) (texts : List (List ℕ)) → HasRecorded recorded texts
      → list_all is_short recorded ≡ true → 0 < length recorded → IsFirstFault texts (reason.Log 0 fault.Head)
  none_faulty [] texts has all some = absurd (omega (arith, some))
  none_faulty (r ∷ recorded) [] has all some = absurd has
  none_faulty (r ∷ recorded) (t ∷ texts) has all some =
      short (omega arith) ((shorts_said (r ∷ recorded) (t ∷ texts) has).0 all) refl

  pub none_taken : (recorded : List (RecordedLog A)) (texts : List (List ℕ)) → HasRecorded recorded texts
      → length recorded ≡ 0 → IsFirstFault texts (reason.Heads Number)
  none_taken [] [] has empty = nothing refl refl
  none_taken [] (t ∷ texts) has empty = absurd has
  none_taken (r ∷ recorded) texts has empty = absurd (omega (arith, empty))

-- one text more is left of one log more
pub left_more : (place : ℕ) (ring : LogHead) (guess : Bool) (texts : List (List ℕ)) (logs : List Log) (text : List ℕ)
    (log : Log) → LeftTextsFrom place ring guess texts logs → IsLeftText ring guess (place + length texts) text log
    → LeftTextsFrom place ring guess (texts ++ text ∷ []) (logs ++ log ∷ [])
left_more place ring guess [] [] text log are is = (subst (λ n. IsLeftText ring guess n text log) (omega arith) is, tt)
left_more place ring guess [] (l ∷ logs) text log are is = absurd are
left_more place ring guess (t ∷ texts) [] text log are is = absurd are
left_more place ring guess (t ∷ texts) (l ∷ logs) text log are is = (
  are.0,
  left_more (suc place) ring guess texts logs text log are.1
      (subst (λ n. IsLeftText ring guess n text log) (omega arith) is),
)

pub left_length : (place : ℕ) (ring : LogHead) (guess : Bool) (texts : List (List ℕ)) (logs : List Log)
    → LeftTextsFrom place ring guess texts logs → length logs ≡ length texts
left_length place ring guess [] [] are = refl
left_length place ring guess [] (l ∷ logs) are = absurd are
left_length place ring guess (t ∷ texts) [] are = absurd are
left_length place ring guess (t ∷ texts) (l ∷ logs) are = ap suc (left_length (suc place) ring guess texts logs are.1)

-- ---- the logs of what was taken

-- what was taken at first and after it, of texts
record AreParts {A : Type 0} (done rest : List (RecordedLog A)) (texts : List (List ℕ)) : Type 0 where
  front : List (List ℕ)
  back : List (List ℕ)
  parts : texts ≡ front ++ back
  done_is : HasRecorded done front
  rest_is : HasRecorded rest back

parts_of : {A : Type 0} (done rest : List (RecordedLog A)) (texts : List (List ℕ)) → HasRecorded (done ++ rest) texts
    → AreParts done rest texts
parts_of [] rest texts has = record { front = []; back = texts; parts = refl; done_is = tt; rest_is = has }
parts_of (r ∷ done) rest [] has = absurd has
parts_of (r ∷ done) rest (text ∷ texts) has =
    let it = parts_of done rest texts has.1 in
    record {
      front = text ∷ it.front;
      back = it.back;
      parts = ap (λ ts. text ∷ ts) it.parts;
      done_is = (has.0, it.done_is);
      rest_is = it.rest_is;
    }

-- of what was taken at first these are the logs
abbrev pub AreLogsOf : {A : Type 0} → List (RecordedLog A) → LogHead → Bool → List Log → Type 0
AreLogsOf done ring guess logs = (texts : List (List ℕ)) → HasRecorded done texts
    → LeftTextsFrom 0 ring guess texts logs

pub next_log : {A : Type 0} (done : List (RecordedLog A)) (it : RecordedLog A) (ring : LogHead) (guess : Bool)
    (logs : List Log) (log : Log) → AreLogsOf done ring guess logs
    → ((text : List ℕ) → IsRecordOf text it → IsLeftText ring guess (length logs) text log)
    → AreLogsOf (done ++ it ∷ []) ring guess (logs ++ log ∷ [])
next_log done it ring guess logs log are is texts has = go (parts_of done (it ∷ []) texts has)
  where
    go : AreParts done (it ∷ []) texts → LeftTextsFrom 0 ring guess texts (logs ++ log ∷ [])
    go p = at p.back p.parts p.rest_is
      where
        at : (back : List (List ℕ)) → texts ≡ p.front ++ back → HasRecorded (it ∷ []) back
            → LeftTextsFrom 0 ring guess texts (logs ++ log ∷ [])
        at [] parts last = absurd last
        at (text ∷ x ∷ back) parts last = absurd last.1
        at (text ∷ []) parts last =
            let before = are p.front p.done_is in
            let place : length logs ≡ 0 + length p.front = omega (arith, left_length 0 ring guess p.front logs before) in
            let here = subst (λ n. IsLeftText ring guess n text log) place (is text last.0) in
            subst (λ ts. LeftTextsFrom 0 ring guess ts (logs ++ log ∷ [])) (sym parts)
            (left_more 0 ring guess p.front logs text log before here)

-- a head that was taken is that of a ring's logs
pub ring_is_log : {A : Type 0} (recorded : List (RecordedLog A)) (ring : LogHead) (guess : Bool)
    → HasHeadOfLog recorded ring → IsLog (empty_log ring ring.place guess)
ring_is_log recorded ring guess has =
    let is : IsLog has.log = has.valid in
    rw has.is (record {
      version = is.version;
      size = is.size;
      fits = is.fits;
      place = is.place;
      count = omega arith;
      numbers = refl;
      held = refl;
    })

next_at : (front : List (List ℕ)) (text : List ℕ) (back : List (List ℕ))
    → slice_get (front ++ text ∷ back) (length front) ≡ Some text
next_at [] text back = refl
next_at (x ∷ front) text back = next_at front text back

-- nothing was taken yet
pub none_yet : (A : Type 0) (ring : LogHead) (guess : Bool) (logs : List Log) → logs ≡ []
    → AreLogsOf {A = A} [] ring guess logs
none_yet A ring guess logs is [] has = rw is tt
none_yet A ring guess logs is (text ∷ texts) has = absurd has

-- what isn't left of a log is the reason
not_left : {A : Type 0} (recorded done rest : List (RecordedLog A)) (it : RecordedLog A) (ring : LogHead)
    (guess : Bool) (logs : List Log) (r : Reason) → HasHeadOfLog recorded ring → done ++ it ∷ rest ≡ recorded
    → AreLogsOf done ring guess logs
    → ((text : List ℕ) → IsRecordOf text it → IsNotLeft ring guess (length logs) text r)
    → (texts : List (List ℕ)) → HasRecorded recorded texts → IsRecordedReason guess texts r × IsReportableReason r
not_left recorded done rest it ring guess logs r head parts are why texts has =
    go (parts_of done (it ∷ rest) texts (subst (λ rs. HasRecorded rs texts) (sym parts) has))
  where
    one : RecordsLog texts head.log
    one = one_recorded recorded texts ring has head

    go : AreParts done (it ∷ rest) texts → IsRecordedReason guess texts r × IsReportableReason r
    go p = at p.back p.parts p.rest_is
      where
        at : (back : List (List ℕ)) → texts ≡ p.front ++ back → HasRecorded (it ∷ rest) back
            → IsRecordedReason guess texts r × IsReportableReason r
        at [] whole last = absurd last
        at (text ∷ back) whole last =
            let before = are p.front p.done_is in
            let place : length logs ≡ length p.front = left_length 0 ring guess p.front logs before in
            let not = why text last.0 in
            let first : take (length logs) texts ≡ p.front =
            ap₂ take place whole ∙ take-append-le (length p.front) p.front (text ∷ back) (omega arith)
            ∙ take_all (length p.front) p.front (omega arith) in
            let there : slice_get texts (length logs) ≡ Some text =
            ap₂ slice_get whole place ∙ next_at p.front text back in (
              no_log (length logs) (record {
                ring = head.log;
                recorded = one;
                before = logs;
                before_are = subst (λ ts. LeftTextsFrom 0 (head_of head.log) guess ts logs) (sym first)
                    (subst (λ h. LeftTextsFrom 0 h guess p.front logs) head.is before);
                text = text;
                at = there;
                why = subst (λ h. IsNotLeft h guess (length logs) text r) head.is not;
              }),
              rw not.1 (text_fault_other text not.0 not.2),
            )

-- the same, where memory may have run out
pub refused_log : {A : Type 0} (recorded done rest : List (RecordedLog A)) (it : RecordedLog A) (ring : LogHead)
    (guess : Bool) (logs : List Log) (e : Refusal) (Made : List Log → Type 0) → HasHeadOfLog recorded ring
    → done ++ it ∷ rest ≡ recorded → AreLogsOf done ring guess logs
    → ((text : List ℕ) → IsRecordOf text it
    → MatchRefusal {T = Log} (Err e) (IsLeftText ring guess (length logs) text)
    (IsNotLeft ring guess (length logs) text))
    → (texts : List (List ℕ)) → HasRecorded recorded texts
    → MatchRefusal {T = List Log} (Err e) Made (λ r. IsRecordedReason guess texts r × IsReportableReason r)
refused_log recorded done rest it ring guess logs (No r) Made head parts are why texts has =
    not_left recorded done rest it ring guess logs r head parts are why texts has
refused_log recorded done rest it ring guess logs OutOfMemory Made head parts are why texts has = tt

-- all logs are those of what was taken
pub all_left : {A : Type 0} (recorded : List (RecordedLog A)) (ring : LogHead) (guess : Bool) (logs : List Log)
    → HasHeadOfLog recorded ring → AreLogsOf recorded ring guess logs → (texts : List (List ℕ))
    → HasRecorded recorded texts → AreLeftTexts guess texts logs
all_left recorded ring guess logs head are texts has = record {
  ring = head.log;
  recorded = one_recorded recorded texts ring has head;
  each = subst (λ h. LeftTextsFrom 0 h guess texts logs) head.is (are texts has);
}

-- a reason without a log is reported
pub first_reportable : (texts : List (List ℕ)) (r : Reason) → IsFirstFault texts r → IsReportableReason r
first_reportable texts r (nothing empty is) = rw is tt
first_reportable texts r (short some all is) = rw is (λ e. absurd cc)
first_reportable texts r (faulty i text f at before long bad is) = rw is (text_fault_other text f bad)
