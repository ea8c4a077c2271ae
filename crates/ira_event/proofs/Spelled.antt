-- Numerals are plain decimal, and the text of a log is the one written out.
use Rattle.std.proofs.Common.{◌≡◌, ◌≤◌, ◌<◌, ◌^◌, ◌*◌, ℕ, ◌&&◌, Bool, true, false, List, [], ◌∷◌, ◌++◌, ◌⊎◌, length}
use Rattle.std.proofs.Common.{refl, sym, ap, subst, ◌∙◌, arith, inl, inr, append_assoc, length-append, get_or, nat_le}
use Rattle.std.specs.Prelude.{codes, decimal}
use Rattle.std.specs.List.{list_all, flat_map}
use Rattle.std.specs.Str.{all_ascii_digits}
use Rattle.std.proofs.lemmas.Bool.Decides.{nat_tests}
use Rattle.std.proofs.lemmas.Fmt.{decimal-digits_value, digits_decimal, digits_value-decimal, decimal_nonempty}
use Rattle.std.proofs.lemmas.Fmt.{first_decimal, length-decimal-le, decimal_digit}
use Rattle.std.proofs.lemmas.Str.Parse.{IsNumeralModel, numerals_by_fold, tells_all_ascii_digits}
use Rattle.ira_event.specs.Limits.{MAX_NODES, MAX_NUMBER, MAX_TEXT, MAX_VERSION}
use Rattle.ira_event.specs.declared.log_head.LogHead.{LogHead}
use Rattle.ira_event.specs.declared.load.Load.{Load}
use Rattle.ira_event.specs.declared.load.Load.TheVariants.{Msg as Message, Reset}
use Rattle.ira_event.specs.declared.event.Event.{Event}
use Rattle.ira_event.specs.declared.event.Event.TheVariants.{Draw, Sent, Got, Yield}
use Rattle.ira_event.specs.declared.msg.Msg.{Msg}
use Rattle.ira_event.specs.Event.{is_number, is_msg, is_load, is_event}
use Rattle.ira_event.specs.Log.{Log, IsLog}
use Rattle.ira_event.specs.LogText.{IsMessage, IsLoad, IsRecord, AreRecords, IsHead, IsLogText, bit_word, start_word}
use Rattle.ira_event.specs.LogText.{message_text, load_text, record_text, head_of, head_text, log_text}
use Rattle.ira_event.specs.Numeral.{value_from, IsNumeral}
use Rattle.ira_event.proofs.Numerals.{and_parts}

-- ---- numerals

own : IsNumeralModel (λ ds. all_ascii_digits ds ≡ true) (value_from 0)
own = numerals_by_fold _ tells_all_ascii_digits value_from
    (record { empty = λ n. refl; more = λ n c cs r. ap (λ m. value_from m cs) (omega arith) })

digit_front : (c : ℕ) (cs : List ℕ) → 49 ≤ c → c ≤ 57 → all_ascii_digits cs ≡ true → all_ascii_digits (c ∷ cs) ≡ true
digit_front c cs low high h =
    let a : nat_le 48 c ≡ true = grind (arith, nat_tests) in
    let b : nat_le c 57 ≡ true = grind (arith, nat_tests) in
    rw (a, b, h) refl

pub numeral_is_decimal : (text : List ℕ) (n : ℕ) → IsNumeral text n → n < 2 ^ 64 → text ≡ decimal n
numeral_is_decimal [] n h small = absurd h
numeral_is_decimal (c ∷ cs) n (inl h) small = rw (h.0, h.1, h.2) (sym (decimal_digit 0 (omega arith)))
numeral_is_decimal (c ∷ cs) n (inr h) small =
    let value : value_from 0 (c ∷ cs) ≡ n = ap (λ m. value_from m cs) (omega arith) ∙ sym h.3 in
    sym (ap decimal (sym value)
    ∙ decimal-digits_value own (c ∷ cs) (digit_front c cs h.0 h.1 h.2) (omega arith) (λ lead.
    absurd (omega (arith, lead, h.0))) (omega (arith, value, small)))

numeral_of : (bs : List ℕ) (n : ℕ) → 0 < n → 0 < length bs → 48 < get_or bs 0 0 → all_ascii_digits bs ≡ true
    → value_from 0 bs ≡ n → IsNumeral bs n
numeral_of [] n pos some lead digits value = absurd (omega (arith, some))
numeral_of (c ∷ cs) n pos some lead digits value =
    let p = and_parts (nat_le 48 c && nat_le c 57) (all_ascii_digits cs) digits in
    let high : c ≤ 57 = grind (arith, nat_tests) in
    inr (omega (arith, lead), high, p.1, sym (ap (λ m. value_from m cs) (omega arith) ∙ value))

numeral_zero : IsNumeral (decimal 0) 0
numeral_zero = subst (λ t. IsNumeral t 0) (sym (decimal_digit 0 (omega arith))) (inl (refl, refl, refl))

numeral_cases : (n : ℕ) → n < 2 ^ 64 → (n ≡ 0) ⊎ (0 < n) → IsNumeral (decimal n) n
numeral_cases n small (inl zero) = subst (λ m. IsNumeral (decimal m) m) (sym zero) numeral_zero
numeral_cases n small (inr pos) =
    numeral_of (decimal n) n pos (decimal_nonempty n small) (first_decimal n pos small) (digits_decimal own n small)
    (digits_value-decimal own n small)

pub zero_or_more : (n : ℕ) → (n ≡ 0) ⊎ (0 < n)
zero_or_more n = grind arith

pub decimal_is_numeral : (n : ℕ) → n < 2 ^ 64 → IsNumeral (decimal n) n
decimal_is_numeral n small = numeral_cases n small (zero_or_more n)

-- ---- records

number_small : (n : ℕ) → is_number n ≡ true → n < 10 ^ 7
number_small n h = let p = and_parts (nat_le 1 n) (nat_le n MAX_NUMBER) h in
    let le : n ≤ 1000000 = grind (arith, nat_tests, p.1) in omega arith

msg_parts : (m : Msg) → is_msg m ≡ true → (is_number m.round ≡ true) × (is_number m.id ≡ true)
    × (is_number m.hop ≡ true)
msg_parts m h =
    let p = and_parts (is_number m.round && is_number m.id) (is_number m.hop) h in
    let q = and_parts (is_number m.round) (is_number m.id) p.0 in
    (q.0, q.1, p.1)

spelled : (text : List ℕ) (n : ℕ) → is_number n ≡ true → IsNumeral text n → text ≡ decimal n
spelled text n h is = numeral_is_decimal text n is (omega (arith, number_small n h))

numeral : (n : ℕ) → is_number n ≡ true → IsNumeral (decimal n) n
numeral n h = decimal_is_numeral n (omega (arith, number_small n h))

message_spelled : (text : List ℕ) (m : Msg) → is_msg m ≡ true → IsMessage text m → text ≡ message_text m
message_spelled text m good h =
    let p = msg_parts m good in
    h.parts ∙ rw (
      spelled h.round m.round p.0 h.round_is,
      spelled h.id m.id p.1 h.id_is,
      spelled h.hop m.hop p.2 h.hop_is,
    ) refl

message_is : (m : Msg) → is_msg m ≡ true → IsMessage (message_text m) m
message_is m good =
    let p = msg_parts m good in
    record {
      round = decimal m.round;
      id = decimal m.id;
      hop = decimal m.hop;
      round_is = numeral m.round p.0;
      id_is = numeral m.id p.1;
      hop_is = numeral m.hop p.2;
      parts = refl;
    }

load_spelled : (text : List ℕ) (l : Load) → is_load l ≡ true → IsLoad text l → text ≡ load_text l
load_spelled text (Message m) good h = message_spelled text m good h
load_spelled text (Reset n) good h = h.1 ∙ ap (λ t. codes "reset " ++ t) (spelled h.0 n good h.2)

load_is : (l : Load) → is_load l ≡ true → IsLoad (load_text l) l
load_is (Message m) good = message_is m good
load_is (Reset n) good = (decimal n, refl, numeral n good)

record_spelled : (line : List ℕ) (e : Event) → is_event e ≡ true → IsRecord line e → line ++ codes "\n" ≡ record_text e
record_spelled line (Draw d) good h =
    ap (λ w. w ++ codes "\n") (h.1 ∙ ap (λ t. codes "draw " ++ t) (spelled h.0 d good h.2))
record_spelled line (Sent l) good h =
    ap (λ w. w ++ codes "\n") (h.1 ∙ ap (λ t. codes "send " ++ t) (load_spelled h.0 l good h.2))
record_spelled line (Got l) good h =
    ap (λ w. w ++ codes "\n") (h.1 ∙ ap (λ t. codes "recv " ++ t) (load_spelled h.0 l good h.2))
record_spelled line Yield good h = ap (λ w. w ++ codes "\n") h

records_spelled : (records : List ℕ) (es : List Event) → list_all is_event es ≡ true → AreRecords records es
    → records ≡ flat_map record_text es
records_spelled records [] good h = h
records_spelled records (e ∷ es) good h =
    let p = and_parts (is_event e) (list_all is_event es) good in
    h.2 ∙ ap (λ w. w ++ h.1) (record_spelled h.0 e p.0 h.3)
    ∙ ap (λ w. record_text e ++ w) (records_spelled h.1 es p.1 h.4)

records_are : (es : List Event) → list_all is_event es ≡ true → AreRecords (flat_map record_text es) es
records_are [] good = refl
records_are (Draw d ∷ es) good =
    let p = and_parts (is_number d) (list_all is_event es) good in
    (codes "draw " ++ decimal d, flat_map record_text es, refl, (decimal d, refl, numeral d p.0), records_are es p.1)
records_are (Sent l ∷ es) good =
    let p = and_parts (is_load l) (list_all is_event es) good in (
      codes "send " ++ load_text l,
      flat_map record_text es,
      refl,
      (load_text l, refl, load_is l p.0),
      records_are es p.1,
    )
records_are (Got l ∷ es) good =
    let p = and_parts (is_load l) (list_all is_event es) good in (
      codes "recv " ++ load_text l,
      flat_map record_text es,
      refl,
      (load_text l, refl, load_is l p.0),
      records_are es p.1,
    )
records_are (Yield ∷ es) good = (codes "yield", flat_map record_text es, refl, refl, records_are es good)

-- ---- whole texts

head_spelled : (text : List ℕ) (head : LogHead) → head.version ≤ MAX_VERSION → head.nodes ≤ MAX_NODES
    → head.place < head.nodes → IsHead text head → text ≡ head_text head
head_spelled text head version size in_ring h =
    h.parts
    ∙ rw (
      numeral_is_decimal h.version_text head.version h.version_is (omega (arith, version)),
      numeral_is_decimal h.nodes_text head.nodes h.nodes_is (omega (arith, size)),
      numeral_is_decimal h.place_text head.place h.place_is (omega (arith, size, in_ring)),
    ) refl

head_is : (head : LogHead) → head.version ≤ MAX_VERSION → head.nodes ≤ MAX_NODES → head.place < head.nodes
    → IsHead (head_text head) head
head_is head version size in_ring = record {
  version_text = decimal head.version;
  nodes_text = decimal head.nodes;
  place_text = decimal head.place;
  version_is = decimal_is_numeral head.version (omega (arith, version));
  nodes_is = decimal_is_numeral head.nodes (omega (arith, size));
  place_is = decimal_is_numeral head.place (omega (arith, size, in_ring));
  parts = refl;
}

pub log_text_spelled : (text : List ℕ) (log : Log) → IsLogText text log → text ≡ log_text log
log_text_spelled text log h =
    let v = h.valid in
    let end : h.end ≡ codes "end " ++ decimal (length log.events) =
    h.end_is.1 ∙ ap (λ t. codes "end "
    ++ t) (numeral_is_decimal h.end_is.0 (length log.events) h.end_is.2 (omega (arith, v.count))) in
    h.parts ∙ rw (
      head_spelled h.head (head_of log) v.version.1 v.size.1 v.place h.head_is,
      records_spelled h.records log.events v.numbers h.records_are,
      end,
    ) (append_assoc (head_text (head_of log) ++ flat_map record_text log.events) (codes "end "
    ++ decimal (length log.events)) (codes "\n"))

pub log_text_is : (log : Log) → IsLog log → IsLogText (log_text log) log
log_text_is log v = record {
  head = head_text (head_of log);
  records = flat_map record_text log.events;
  end = codes "end " ++ decimal (length log.events);
  head_is = head_is (head_of log) v.version.1 v.size.1 v.place;
  records_are = records_are log.events v.numbers;
  end_is = (decimal (length log.events), refl, decimal_is_numeral (length log.events) (omega (arith, v.count)));
  parts = sym (append_assoc (head_text (head_of log) ++ flat_map record_text log.events) (codes "end "
      ++ decimal (length log.events)) (codes "\n"));
  valid = v;
}

-- ---- no log's text is too long

decimal_short : (n : ℕ) → n < 10 ^ 7 → length (decimal n) ≤ 7
decimal_short n h = length-decimal-le 7 n (omega arith) h (omega (arith, h))

bit_short : (b : Bool) → length (bit_word b) ≤ 5
bit_short true = omega arith
bit_short false = omega arith

start_short : (b : Bool) → length (start_word b) ≤ 9
start_short true = omega arith
start_short false = omega arith

message_short : (m : Msg) → is_msg m ≡ true → length (message_text m) ≤ 29
message_short m good =
    let p = msg_parts m good in
    let r = decimal_short m.round (number_small m.round p.0) in
    let i = decimal_short m.id (number_small m.id p.1) in
    let h = decimal_short m.hop (number_small m.hop p.2) in
    let b = bit_short m.dirty in
    simp length-append (omega arith)

load_short : (l : Load) → is_load l ≡ true → length (load_text l) ≤ 29
load_short (Message m) good = message_short m good
load_short (Reset n) good = let k = decimal_short n (number_small n good) in simp length-append (omega arith)

record_short : (e : Event) → is_event e ≡ true → length (record_text e) ≤ 35
record_short (Draw d) good = let k = decimal_short d (number_small d good) in simp length-append (omega arith)
record_short (Sent l) good =
    let k = load_short l good in
    omega (
      arith,
      k,
      length-append (codes "send " ++ load_text l) (codes "\n"),
      length-append (codes "send ") (load_text l),
    )
record_short (Got l) good =
    let k = load_short l good in
    omega (
      arith,
      k,
      length-append (codes "recv " ++ load_text l) (codes "\n"),
      length-append (codes "recv ") (load_text l),
    )
record_short Yield good = omega arith

records_short : (es : List Event) → list_all is_event es ≡ true → length (flat_map record_text es) ≤ 35 * length es
records_short [] good = omega arith
records_short (e ∷ es) good =
    let p = and_parts (is_event e) (list_all is_event es) good in
    omega (arith, record_short e p.0, records_short es p.1, length-append (record_text e) (flat_map record_text es))

pub log_text_short : (text : List ℕ) (log : Log) → IsLogText text log → length text ≤ MAX_TEXT
log_text_short text log h =
    let v = h.valid in
    let e = ap length (log_text_spelled text log h) in
    let w = decimal_short log.version (omega (arith, v.version.1)) in
    let n = decimal_short log.nodes (omega (arith, v.size.1)) in
    let p = decimal_short log.place (omega (arith, v.size.1, v.place)) in
    let c = decimal_short (length log.events) (omega (arith, v.count)) in
    let s = start_short log.initiator in
    let r = records_short log.events v.numbers in
    let k = v.count in
    let t : length (log_text log) ≤ 3600000 = simp length-append (omega arith) in
    omega (arith, e, t)
