-- The text of one log alone, which is judged piece by piece.
use Rattle.std.proofs.Common.{◌≡◌, ◌≤◌, ℕ, ◌-◌, List, [], ◌∷◌, ◌++◌, length, take, drop, Ok, Err, refl, ap, subst, sym}
use Rattle.std.proofs.Common.{arith, append_assoc, length-append, Option, Some, None, ◌∙◌, inr}
use Rattle.std.proofs.lemmas.List.{append-nil, append_cancel_right, drop_at, take_at}
use Rattle.std.specs.Prelude.{codes}
use Rattle.ira_event.specs.declared.event.Event.{Event}
use Rattle.ira_event.specs.Limits.{MAX_TEXT}
use Rattle.ira_event.specs.declared.log_head.LogHead.{LogHead}
use Rattle.ira_event.specs.declared.log_fault.LogFault.{LogFault}
use Rattle.ira_event.specs.Log.{Log}
use Rattle.ira_event.specs.LogText.{IsLogText}
use Rattle.ira_event.specs.LogTextFault.{LogTextFault, past_head, BeginsWithHead, AreAllRecords, RecordsFault}
use Rattle.ira_event.specs.Records.{RecordsLeft, ReadsOn, ReadsRecord, IsAtEnd, IsEndOrFault}
use Rattle.ira_event.proofs.LogReading.{after_more, after_all, after_fault}
use Rattle.ira_event.proofs.LogAnswers.{log_read}
use Rattle.ira_audit.specs.LogAudit.{IsBegun, IsSuffix, ReplaysTo, log_of_records, AreWholeLines}
use Rattle.ira_audit.specs.Replaying.{IsLogAnswer}
use Rattle.ira_audit.specs.declared.answer.Answer.{Answer}
use Rattle.ira_audit.specs.declared.partial_replay.PartialReplay.{PartialReplay}

-- ---- while records are read

-- one more record was read
pub begun_more : (text : List ℕ) (r next : PartialReplay) (old new : RecordsLeft) (e : Event) → next.head ≡ r.head
    → ReadsRecord old new e
    → ((events : List Event) → length events ≡ old.count → ReplaysTo r events → ReplaysTo next (events ++ e ∷ []))
    → IsBegun text r old → IsBegun text next new
begun_more text r next old new e same read on b = record {
  rest = b.rest;
  head = subst (λ h. BeginsWithHead text h b.rest) (sym same) b.head;
  version = read.version ∙ b.version ∙ ap (λ (h : LogHead). h.version) (sym same);
  events = b.events ++ e ∷ [];
  read = after_more b.rest b.events old new e b.read read;
  came = on b.events b.read.1 b.came;
}

-- no record was read
pub none_read : (old new : RecordsLeft) (r : Option Event) → ReadsOn old new (Ok r) → r ≡ None → IsAtEnd new
    × (new ≡ old)
none_read old new None h is = (subst IsAtEnd (sym h.1) h.0, h.1)
none_read old new (Some e) h is = absurd cc

pub suffix_all : (text : List ℕ) → IsSuffix text text
suffix_all text = ([], refl)

pub suffix_shorter : (end text : List ℕ) → IsSuffix end text → length end ≤ length text
suffix_shorter end text s = omega (arith, ap length s.1, length-append s.0 end)

pub suffix_read : (text : List ℕ) (old new : RecordsLeft) (e : Event) → ReadsRecord old new e → IsSuffix old.rest text
    → IsSuffix new.rest text
suffix_read text old new e r s = (
  s.0 ++ (r.line ++ codes "\n"),
  s.1 ∙ ap (λ w. s.0 ++ w) r.rest
      ∙ sym (append_assoc s.0 (r.line ++ codes "\n") new.rest),
)

pub suffix_trans : (a b c : List ℕ) → IsSuffix a b → IsSuffix b c → IsSuffix a c
suffix_trans a b c s t = (t.0 ++ s.0, t.1 ∙ ap (λ w. t.0 ++ w) s.1 ∙ sym (append_assoc t.0 s.0 a))

-- ---- a text that goes on

pub lines_begun : (replay : Option PartialReplay) (r : PartialReplay) (text : List ℕ) → replay ≡ Some r
    → AreWholeLines replay text → IsBegun text r (record { version = r.head.version; rest = []; count = r.count })
lines_begun (Some x) r text is h = let same : x ≡ r = cc in
    let P : PartialReplay → Type 0 =
    λ y. IsBegun text y (record { version = y.head.version; rest = []; count = y.count }) in subst P same h
lines_begun None r text is h = absurd cc

pub none_taken : (replay : Option PartialReplay) (text : List ℕ) → replay ≡ None → AreWholeLines replay text → text ≡ []
none_taken None text is h = h
none_taken (Some r) text is h = absurd cc

-- more stands after what is left
pub begun_longer : (text more : List ℕ) (r : PartialReplay) (v n : ℕ)
    → IsBegun text r (record { version = v; rest = []; count = n })
    → IsBegun (text ++ more) r (record { version = v; rest = more; count = n })
begun_longer text more r v n b = record {
  rest = b.rest ++ more;
  head = record {
    lines = b.head.lines;
    lines_are = b.head.lines_are;
    version = b.head.version;
    size = b.head.size;
    fits = b.head.fits;
    in_ring = b.head.in_ring;
    parts = ap (λ w. w ++ more) b.head.parts ∙ append_assoc b.head.lines b.rest more;
  };
  version = b.version;
  events = b.events;
  read = (
    record {
      records = b.read.0.records;
      records_are = b.read.0.records_are;
      count = b.read.0.count;
      numbers = b.read.0.numbers;
      held = b.read.0.held;
      parts = ap (λ w. w ++ more) (b.read.0.parts ∙ append-nil b.read.0.records);
    },
    b.read.1,
  );
  came = b.came;
}

-- what is left is cut off
begun_cut : (text front : List ℕ) (whole : List ℕ) (r : PartialReplay) (left : RecordsLeft)
    → whole ≡ (text ++ front) ++ left.rest → IsBegun whole r left
    → IsBegun (text ++ front) r (record { version = left.version; rest = []; count = left.count })
begun_cut text front whole r left parts b =
    let read = b.read.0 in
    let both : (text ++ front) ++ left.rest ≡ (b.head.lines ++ read.records) ++ left.rest =
    sym parts ∙ b.head.parts ∙ ap (λ w. b.head.lines ++ w) read.parts
    ∙ sym (append_assoc b.head.lines read.records left.rest) in
    record {
      rest = read.records;
      head = record {
        lines = b.head.lines;
        lines_are = b.head.lines_are;
        version = b.head.version;
        size = b.head.size;
        fits = b.head.fits;
        in_ring = b.head.in_ring;
        parts = append_cancel_right (text ++ front) (b.head.lines ++ read.records) left.rest both;
      };
      version = b.version;
      events = b.events;
      read = (
        record {
          records = read.records;
          records_are = read.records_are;
          count = read.count;
          numbers = read.numbers;
          held = read.held;
          parts = sym (append-nil read.records);
        },
        b.read.1,
      );
      came = b.came;
    }

-- so much of a piece stands before what is left
front_taken : (piece front left : List ℕ) → piece ≡ front ++ left → take (length piece - length left) piece ≡ front
front_taken piece front left parts =
    let many : length front ≡ length piece - length left = omega (arith, ap length parts, length-append front left) in
    ap (λ w. take (length piece - length left) w) parts ∙ take_at front left (length piece - length left) many

pub left_past : (piece left : List ℕ) → IsSuffix left piece → drop (length piece - length left) piece ≡ left
left_past piece left s =
    let many : length s.0 ≡ length piece - length left = omega (arith, ap length s.1, length-append s.0 left) in
    ap (λ w. drop (length piece - length left) w) s.1 ∙ drop_at s.0 left (length piece - length left) many

pub taken_lines : (text piece : List ℕ) (r : PartialReplay) (left : RecordsLeft) (n : ℕ)
    → n ≡ length piece - length left.rest → IsSuffix left.rest piece → IsBegun (text ++ piece) r left
    → IsBegun (text ++ take n piece) r (record { version = left.version; rest = []; count = left.count })
taken_lines text piece r left n many s b =
    let same : take n piece ≡ s.0 = ap (λ k. take k piece) many ∙ front_taken piece s.0 left.rest s.1 in
    let parts : text ++ piece ≡ (text ++ s.0) ++ left.rest =
    ap (λ w. text ++ w) s.1 ∙ sym (append_assoc text s.0 left.rest) in
    subst (λ w. IsBegun (text ++ w) r (record { version = left.version; rest = []; count = left.count })) (sym same)
    (begun_cut text s.0 (text ++ piece) r left parts b)

-- ---- the answer

pub begun_judged : (text : List ℕ) (r : PartialReplay) (left : RecordsLeft) (a : Answer)
    → ((events : List Event) → ReplaysTo r events → IsLogAnswer (log_of_records r.head events) a) → IsBegun text r left
    → IsAtEnd left
    → (log : Log) × IsLogText text log × IsLogAnswer log a
begun_judged text r left a answers b end = (
  log_of_records r.head b.events,
  log_read text r.head b.rest b.events b.head
      (subst (λ (v : ℕ). AreAllRecords v b.rest b.events) b.version (after_all b.rest b.events left b.read end)),
  answers b.events b.came,
)

pub begun_refused : (text : List ℕ) (r : PartialReplay) (left : RecordsLeft) (f : LogFault) → length text ≤ MAX_TEXT
    → IsBegun text r left → IsEndOrFault left (Err f) → LogTextFault text f
begun_refused text r left f short b end =
    inr (
      short,
      past_head r.head b.rest b.head
          (subst (λ (v : ℕ). RecordsFault v b.rest f) b.version (after_fault b.rest b.events left f b.read end)),
    )
