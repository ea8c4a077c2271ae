-- What the reader of a log text found, line by line.
use Rattle.std.proofs.Common.{◌≡◌, ◌≢◌, ◌≤◌, ◌<◌, ℕ, ◌+◌, ◌&&◌, Bool, true, false, cond, List, [], ◌∷◌, ◌++◌, length}
use Rattle.std.proofs.Common.{take, drop, suc, get_or, Option, Some, None, Ok, refl, sym, ap, subst, ◌∙◌, arith, inl}
use Rattle.std.proofs.Common.{inr, nat_eq, nat_lt, nat_le, append_assoc, length-append}
use Rattle.std.specs.Prelude.{codes, position}
use Rattle.std.specs.List.{list_all, position_or_len}
use Rattle.std.proofs.Math.Seq.{split_at}
use Rattle.std.proofs.lemmas.Bool.{cases_lt}
use Rattle.std.proofs.lemmas.Bool.Decides.{nat_tests}
use Rattle.std.proofs.lemmas.List.{append-nil, get_or-take, length-take}
use Rattle.std.proofs.lemmas.List.Folds.{list_any_none, list_all-append}
use Rattle.std.proofs.lemmas.List.Quantifiers.{position-Some}
use Rattle.std.proofs.lemmas.List.Sums.{fails_before_first}
use Rattle.std.proofs.lemmas.Option.{same_Some}
use Rattle.ira_event.specs.Limits.{MAX_NUMBER, MAX_RECORDS}
use Rattle.ira_event.specs.declared.event.Event.{Event}
use Rattle.ira_event.specs.declared.event.Event.TheVariants.{Draw, Sent, Got, Yield}
use Rattle.ira_event.specs.declared.msg.Msg.{Msg}
use Rattle.ira_event.specs.declared.load.Load.{Load}
use Rattle.ira_event.specs.declared.load.Load.TheVariants.{Msg as Message, Reset}
use Rattle.ira_event.specs.declared.log_line.LogLine.{LogLine}
use Rattle.ira_event.specs.declared.log_line.LogLine.TheVariants.{Record, End}
use Rattle.ira_event.specs.declared.log_fault.LogFault.TheVariants as fault
use Rattle.ira_event.specs.Event.{is_number, is_msg, is_load, is_event, is_of_version}
use Rattle.ira_event.specs.LogScan.{line_at}
use Rattle.ira_event.specs.LogText.{IsRecord, AreRecords, IsEnd}
use Rattle.ira_event.specs.LogTextFault.{BeginsAsRecord, BeginsWithRecords, too_many, no_line, out_of_range}
use Rattle.ira_event.specs.LogTextFault.{other_count, trailing, RestFault, RecordsFault, AreAllRecords}
use Rattle.ira_event.specs.NextLine.{HasNoLineFeed, at_line}
use Rattle.ira_event.specs.Records.{RecordsLeft, ReadsRecord, IsAtEnd, ReadsOn, HasRead, IsUnread}
use Rattle.ira_event.specs.declared.log_fault.LogFault.{LogFault}
use Rattle.ira_event.specs.Scan.{kept}
use Rattle.ira_event.proofs.Numerals.{and_parts}
use Rattle.ira_event.proofs.RecordLines.{kept_message, kept_load, kept_event, line-takes, record-again, end-again}
use Rattle.ira_event.proofs.RecordLines.{record_begins}

-- ---- numbers as they are kept

and_false : (b : Bool) → (b && false) ≡ false
and_false true = refl
and_false false = refl

number_kept : (n : ℕ) → is_number (kept n) ≡ is_number n
number_kept n = elim (cases_lt n 4294967295) [
  | inl lt ↦ let e : kept n ≡ n = omega arith in ap is_number e
  | inr le ↦ let e : kept n ≡ 4294967295 = omega arith in
      let over : nat_le n MAX_NUMBER ≡ false = grind (arith, nat_tests) in
      ap is_number e ∙ sym (rw over (and_false (nat_le 1 n)))
]

number_same : (n : ℕ) → is_number n ≡ true → kept n ≡ n
number_same n h = let p = and_parts (nat_le 1 n) (nat_le n MAX_NUMBER) h in
    let le : n ≤ 1000000 = grind (arith, nat_tests, p.1) in omega arith

load_kept : (l : Load) → is_load (kept_load l) ≡ is_load l
load_kept (Message m) = rw (number_kept m.round, number_kept m.id, number_kept m.hop) refl
load_kept (Reset h) = number_kept h

event_kept : (e : Event) → is_event (kept_event e) ≡ is_event e
event_kept (Draw d) = number_kept d
event_kept (Sent l) = load_kept l
event_kept (Got l) = load_kept l
event_kept Yield = refl

message_kept_same : (m : Msg) → is_msg m ≡ true → kept_message m ≡ m
message_kept_same m h =
    let p = and_parts (is_number m.round && is_number m.id) (is_number m.hop) h in
    let q = and_parts (is_number m.round) (is_number m.id) p.0 in
    rw (number_same m.round q.0, number_same m.id q.1, number_same m.hop p.1) refl

load_kept_same : (l : Load) → is_load l ≡ true → kept_load l ≡ l
load_kept_same (Message m) h = ap Message (message_kept_same m h)
load_kept_same (Reset n) h = ap Reset (number_same n h)

event_kept_same : (e : Event) → is_event e ≡ true → kept_event e ≡ e
event_kept_same (Draw d) h = ap Draw (number_same d h)
event_kept_same (Sent l) h = ap Sent (load_kept_same l h)
event_kept_same (Got l) h = ap Got (load_kept_same l h)
event_kept_same Yield h = refl

-- an event is of a version however its numbers are kept
version_kept : (v : ℕ) (e : Event) → is_of_version v (kept_event e) ≡ is_of_version v e
version_kept v (Draw d) = refl
version_kept v (Sent (Message m)) = refl
version_kept v (Sent (Reset h)) = refl
version_kept v (Got (Message m)) = refl
version_kept v (Got (Reset h)) = refl
version_kept v Yield = refl

-- ---- records in front

pub AreRecords-push : (records line : List ℕ) (es : List Event) (e : Event) → AreRecords records es → IsRecord line e
    → AreRecords (records ++ line ++ codes "\n") (es ++ e ∷ [])
AreRecords-push records line [] e h is =
    (line, [], ap (λ w. w ++ line ++ codes "\n") h ∙ sym (append-nil (line ++ codes "\n")), is, refl)
AreRecords-push records line (x ∷ xs) e h is = (
  h.0,
  h.1 ++ line ++ codes "\n",
  ap (λ w. w ++ line ++ codes "\n") h.2 ∙ simp append_assoc,
  h.3,
  AreRecords-push h.1 line xs e h.4 is,
)

pub begins_nothing : (v : ℕ) (text : List ℕ) → BeginsWithRecords v text [] text
begins_nothing v text = record {
  records = [];
  records_are = refl;
  count = omega arith;
  numbers = refl;
  held = refl;
  parts = refl;
}

pub all_pushed : (p : Event → Bool) (es : List Event) (e : Event) → list_all p es ≡ true → p e ≡ true
    → list_all p (es ++ e ∷ []) ≡ true
all_pushed p es e h k = list_all-append p es (e ∷ []) ∙ rw (h, k) refl

begins_pushed : (v : ℕ) (text bs line after : List ℕ) (es : List Event) (e : Event) → BeginsWithRecords v text es bs
    → bs ≡ line ++ codes "\n" ++ after → IsRecord line e → length es ≢ MAX_RECORDS → is_event e ≡ true
    → is_of_version v e ≡ true → BeginsWithRecords v text (es ++ e ∷ []) after
begins_pushed v text bs line after es e h parts is few good held = record {
  records = h.records ++ line ++ codes "\n";
  records_are = AreRecords-push h.records line es e h.records_are is;
  count = omega (arith, length-append es (e ∷ []), h.count);
  numbers = all_pushed is_event es e h.numbers good;
  held = all_pushed (is_of_version v) es e h.held held;
  parts = h.parts ∙ ap (λ w. h.records ++ w) parts ∙ simp append_assoc;
}

-- ---- at a line that was read

module _ (v : ℕ) (bs after : List ℕ) where
  -- what was read is an event of the version just where what is spelled is
  version_spelled : (e e' : Event) → e ≡ kept_event e' → is_of_version v e ≡ is_of_version v e'
  version_spelled e e' is = ap (is_of_version v) is ∙ version_kept v e'

  pub reads_record : (k : ℕ) (e : Event) → line_at bs ≡ Some (Record e, after) → is_of_version v e ≡ true
      → k ≢ MAX_RECORDS → is_event e ≡ true
      → ReadsRecord (record { version = v; rest = bs; count = k }) (record { version = v; rest = after; count = k + 1 })
      e
  reads_record k e read held few good =
      let f = line-takes bs (Record e, after) read in
      let e' = f.says.0 in
      let good' : is_event e' ≡ true = sym (event_kept e') ∙ ap is_event (sym f.says.2) ∙ good in
      let same : e ≡ e' = f.says.2 ∙ event_kept_same e' good' in
      record {
        line = f.text;
        is = subst (IsRecord f.text) (sym same) f.says.1;
        number = good;
        held = held;
        few = few;
        rest = f.parts;
        count = refl;
        version = refl;
      }

  pub fault_too_many : (k : ℕ) (e : Event) → line_at bs ≡ Some (Record e, after) → is_of_version v e ≡ true
      → k ≡ MAX_RECORDS → RestFault v k bs fault.TooMany
  fault_too_many k e read held many =
      let f = line-takes bs (Record e, after) read in
      at_line f.text after f.parts f.whole
      (too_many many (record_begins v f.text f.says.0 (sym (version_spelled e f.says.0 f.says.2) ∙ held) f.says.1)
      refl)

  pub fault_range : (k : ℕ) (e : Event) → line_at bs ≡ Some (Record e, after) → is_of_version v e ≡ true
      → k ≢ MAX_RECORDS → is_event e ≡ false → RestFault v k bs (fault.Range (k + 5))
  fault_range k e read held few bad =
      let f = line-takes bs (Record e, after) read in
      at_line f.text after f.parts f.whole
      (out_of_range f.says.0 few (sym (version_spelled e f.says.0 f.says.2)
      ∙ held) f.says.1 (sym (event_kept f.says.0) ∙ ap is_event (sym f.says.2) ∙ bad) refl)

  pub fault_count : (k n : ℕ) → line_at bs ≡ Some (End n, after) → k ≤ MAX_RECORDS → n ≢ k
      → RestFault v k bs fault.Count
  fault_count k n read few other =
      let f = line-takes bs (End n, after) read in
      let differs : f.says.0 ≢ k = λ q. other (f.says.2 ∙ ap kept q ∙ omega (arith, few)) in
      at_line f.text after f.parts f.whole (other_count f.says.0 f.says.1 differs refl)

  counted : (k n m : ℕ) → k ≤ MAX_RECORDS → n ≡ k → n ≡ kept m → m ≡ k
  counted k n m few q p = omega arith

  pub fault_trailing : (k n : ℕ) → line_at bs ≡ Some (End n, after) → k ≤ MAX_RECORDS → n ≡ k → after ≢ []
      → RestFault v k bs fault.Trailing
  fault_trailing k n read few same more =
      let f = line-takes bs (End n, after) read in
      at_line f.text after f.parts f.whole
      (trailing (subst (IsEnd f.text) (counted k n f.says.0 few same f.says.2) f.says.1) more refl)

  pub at_end : (k n : ℕ) → line_at bs ≡ Some (End n, after) → k ≤ MAX_RECORDS → n ≡ k → after ≡ []
      → IsAtEnd (record { version = v; rest = bs; count = k })
  at_end k n read few same none =
      let f = line-takes bs (End n, after) read in
      record {
        line = f.text;
        is = subst (IsEnd f.text) (counted k n f.says.0 few same f.says.2) f.says.1;
        rest = f.parts ∙ ap (λ w. f.text ++ codes "\n" ++ w) none ∙ append-nil (f.text ++ codes "\n");
      }

-- ---- record by record

pub after_nothing : (text : List ℕ) (left : RecordsLeft) → left.rest ≡ text → left.count ≡ 0 → HasRead text [] left
after_nothing text left rest none =
    (subst (BeginsWithRecords left.version text []) (sym rest) (begins_nothing left.version text), sym none)

pub after_more : (text : List ℕ) (es : List Event) (old new : RecordsLeft) (e : Event) → HasRead text es old
    → ReadsRecord old new e → HasRead text (es ++ e ∷ []) new
after_more text es old new e h r = (
  subst (λ (v : ℕ). BeginsWithRecords v text (es ++ e ∷ []) new.rest) (sym r.version)
      (begins_pushed old.version text old.rest r.line new.rest es e h.0 r.rest r.is (λ q.
      r.few (sym h.1 ∙ q)) r.number r.held),
  omega (arith, length-append es (e ∷ []), h.1, r.count),
)

pub after_all : (text : List ℕ) (es : List Event) (left : RecordsLeft) → HasRead text es left → IsAtEnd left
    → AreAllRecords left.version text es
after_all text es left h r =
    record {
      end = r.line;
      end_is = subst (IsEnd r.line) (sym h.1) r.is;
      begins = subst (BeginsWithRecords left.version text es) r.rest h.0;
    }

pub after_fault : (text : List ℕ) (es : List Event) (left : RecordsLeft) (f : LogFault) → HasRead text es left
    → RestFault left.version left.count left.rest f → RecordsFault left.version text f
after_fault text es left f h r =
    record {
      events = es;
      rest = left.rest;
      begins = h.0;
      fault = subst (λ k. RestFault left.version k left.rest f) (sym h.1) r;
    }

pub was_read : (old new : RecordsLeft) (r : Option Event) (e : Event) → ReadsOn old new (Ok r) → r ≡ Some e
    → ReadsRecord old new e
was_read old new (Some x) e h is = let same : x ≡ e = cc in subst (ReadsRecord old new) same h
was_read old new None e h is = absurd cc

pub was_last : (old new : RecordsLeft) (r : Option Event) → ReadsOn old new (Ok r) → r ≡ None → IsAtEnd old
was_last old new (Some x) h is = absurd cc
was_last old new None h is = h.0

pub record_shorter : (old new : RecordsLeft) (e : Event) → ReadsRecord old new e
    → suc (length new.rest) ≤ length old.rest
record_shorter old new e r =
    omega (arith, ap length r.rest, length-append (r.line ++ codes "\n") new.rest, length-append r.line (codes "\n"))

-- ---- where no line was read

pub position-cases : (b : Bool) (i : ℕ) → cond b (Some i) None ≡ None → b ≡ false
position-cases true i e = absurd cc
position-cases false i e = refl

pub no_line_end : (text : List ℕ) → position (λ c. nat_eq c 10) text ≡ None → HasNoLineFeed text
no_line_end text e =
    let test : nat_lt (position_or_len (λ c. nat_eq c 10) text) (length text) ≡ false = position-cases _ _ e in
    list_any_none (λ c. nat_eq c 10) text (λ k d lt.
    fails_before_first (λ c. nat_eq c 10) text k d (grind (arith, nat_tests)))

-- the line up to the first line feed
pub record FirstFeed (text line : List ℕ) : Type 0 where
  pub more : List ℕ
  pub parts : text ≡ line ++ codes "\n" ++ more
  pub whole : HasNoLineFeed line

feed_is : (c : ℕ) → nat_eq c 10 ≡ true → c ≡ 10
feed_is c h = grind (arith, nat_tests)

pub line_end_at : (text : List ℕ) (i : ℕ) → position (λ c. nat_eq c 10) text ≡ Some i → FirstFeed text (take i text)
line_end_at text i e =
    let p = position-Some (λ c. nat_eq c 10) text i 0 e in
    record {
      more = drop (suc i) text;
      parts = split_at text i 0 p.0 ∙ ap (λ c. take i text ++ (c ∷ drop (suc i) text)) (feed_is (get_or text i 0) p.1)
          ∙ sym (append_assoc (take i text) (codes "\n") (drop (suc i) text));
      whole = list_any_none (λ c. nat_eq c 10) (take i text) (λ k d lt.
          let below : k < i = omega (arith, length-take i text) in
          let before = position-Some (λ c. nat_eq c 10) text i d e in
          rw (get_or-take i text k d below) (before.2 k below));
    }

first_line_is : (a b : LogLine) (x y : List ℕ) → ◌≡◌ {A = Option (LogLine × List ℕ)} (Some (a, x)) (Some (b, y)) → a ≡ b
first_line_is a b x y e = ap (λ (q : LogLine × List ℕ). q.0) (same_Some _ _ e)

record_is : (d e : Event) → Record d ≡ Record e → d ≡ e
record_is d e h = cc

-- a record of the version was read, or none and no end line
read_or_not : (v : ℕ) (bs more : List ℕ) (e : Event) → line_at bs ≡ Some (Record (kept_event e), more)
    → is_of_version v e ≡ true → IsUnread v bs → ⊥
read_or_not v bs more e read held (inl none) = absurd cc
read_or_not v bs more e read held (inr other) =
    let same : other.0 ≡ kept_event e =
    record_is other.0 (kept_event e)
    (first_line_is (Record other.0) (Record (kept_event e)) other.1 more (sym other.2 ∙ read)) in
    let is : is_of_version v other.0 ≡ true = ap (is_of_version v) same ∙ version_kept v e ∙ held in
    let isnt = other.3 in
    absurd cc

end_or_not : (v : ℕ) (bs more : List ℕ) (n : ℕ) → line_at bs ≡ Some (End n, more) → IsUnread v bs → ⊥
end_or_not v bs more n read (inl none) = absurd cc
end_or_not v bs more n read (inr other) = let same =
    first_line_is (Record other.0) (End n) other.1 more (sym other.2 ∙ read) in absurd cc

module _ (v k : ℕ) (bs : List ℕ) (unread : IsUnread v bs) where
  pub fault_unread_too_many : (line : List ℕ) → FirstFeed bs line → k ≡ MAX_RECORDS → BeginsAsRecord v line
      → RestFault v k bs fault.TooMany
  fault_unread_too_many line f many begins = at_line line f.more f.parts f.whole (too_many many begins refl)

  pub fault_line : (line : List ℕ) → FirstFeed bs line → (k ≡ MAX_RECORDS → ¬ (BeginsAsRecord v line))
      → RestFault v k bs (fault.Line (k + 5))
  fault_line line f few = at_line line f.more f.parts f.whole (no_line few
      (λ e held h. read_or_not v bs f.more e (ap line_at f.parts ∙ record-again line e f.more h) held unread)
      (λ n h. end_or_not v bs f.more (kept n) (ap line_at f.parts ∙ end-again line n f.more h) unread) refl)

pub empty_is : (xs : List ℕ) → nat_eq (length xs) 0 ≡ true → xs ≡ []
empty_is [] h = refl
empty_is (x ∷ xs) h = absurd (grind (arith, nat_tests))

pub not_empty : (xs : List ℕ) → nat_eq (length xs) 0 ≡ false → xs ≢ []
not_empty [] h q = absurd cc
not_empty (x ∷ xs) h q = absurd cc
