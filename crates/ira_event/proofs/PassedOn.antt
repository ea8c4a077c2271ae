-- A message's line, and that of the message passed on, which differs in the last digits of its hop.
use Rattle.std.proofs.Common.{◌≡◌, ◌<◌, ◌≤◌, ℕ, ◌+◌, ◌*◌, ◌-◌, Bool, true, false, List, [], ◌∷◌, ◌++◌, length, refl, sym, ap, ◌∙◌, arith}
use Rattle.std.proofs.Common.{inl, inr, length-append, append_assoc, get_or, take, drop, suc, subst, nat_le, ◌&&◌}
use Rattle.std.specs.Prelude.{codes}
use Rattle.std.proofs.lemmas.List.{take-append-drop, length-set, length-take-le, take_at}
use Rattle.std.proofs.Math.Seq.{get_or-append_seam, set-append_seam}
use Rattle.std.proofs.Math.ListN.{set}
use Rattle.ira_event.specs.declared.msg.Msg.{Msg}
use Rattle.ira_event.specs.SentLine.{IsLineOf, IsReceiptLine, IsSendingLine, passed_on}
use Rattle.ira_event.specs.LogText.{bit_word}
use Rattle.ira_event.specs.Event.{is_msg, is_number}
use Rattle.ira_event.specs.Limits.{MAX_NUMBER, MAX_RECORDS}
use Rattle.ira_event.specs.Records.{ReadsRecord, RecordsLeft}
use Rattle.ira_event.specs.declared.event.Event.TheVariants.{Sent, Got}
use Rattle.ira_event.specs.declared.load.Load.TheVariants.{Msg as Message}
use Rattle.std.specs.Char.{is_ascii_digit}
use Rattle.std.specs.Str.{all_ascii_digits}
use Rattle.std.proofs.lemmas.Bool.Decides.{nat_tests}
use Rattle.ira_event.specs.Numeral.{value_from, IsNumeral}
use Rattle.ira_event.proofs.Numerals.{and_parts, digit_range}

-- ---- numerals that end in these digits

value_from-append : (m : ℕ) (xs ys : List ℕ) → value_from m (xs ++ ys) ≡ value_from (value_from m xs) ys
value_from-append m [] ys = refl
value_from-append m (x ∷ xs) ys = value_from-append (10 * m + (x - 48)) xs ys

-- where the first digits are the same
digits_end : (xs p q : List ℕ) → (all_ascii_digits p ≡ true → all_ascii_digits q ≡ true)
    → all_ascii_digits (xs ++ p) ≡ true → all_ascii_digits (xs ++ q) ≡ true
digits_end [] p q too all = too all
digits_end (x ∷ xs) p q too all =
    let parts = and_parts (is_ascii_digit x) (all_ascii_digits (xs ++ p)) all in
    rw parts.0 (digits_end xs p q too parts.1)

numeral_end : (xs q : List ℕ) (d : ℕ) (ds : List ℕ) (n : ℕ)
    → ((m : ℕ) → value_from m q ≡ value_from m (d ∷ ds) + 1)
    → (all_ascii_digits (d ∷ ds) ≡ true → all_ascii_digits q ≡ true)
    → (IsNumeral (d ∷ ds) n → IsNumeral q (n + 1)) → IsNumeral (xs ++ d ∷ ds) n → IsNumeral (xs ++ q) (n + 1)
numeral_end [] q d ds n more too alone h = alone h
numeral_end (x ∷ xs) q d ds n more too alone (inl h) =
    absurd (omega (arith, length-append xs (d ∷ ds), ap length h.1))
numeral_end (x ∷ xs) q d ds n more too alone (inr h) =
    let old = h.3 ∙ value_from-append (x - 48) xs (d ∷ ds) in
    let new = value_from-append (x - 48) xs q ∙ more (value_from (x - 48) xs) in
    inr (h.0, h.1, digits_end xs (d ∷ ds) q too h.2, ap (λ k. k + 1) old ∙ sym new)

digit : (d : ℕ) → 48 ≤ d → d ≤ 57 → is_ascii_digit d ≡ true
digit d low high = grind (arith, nat_tests, low, high)

digits_last : (xs : List ℕ) (d : ℕ) → all_ascii_digits (xs ++ d ∷ []) ≡ true → (48 ≤ d) × (d ≤ 57)
digits_last [] d all = digit_range d (and_parts (is_ascii_digit d) true all).0
digits_last (x ∷ xs) d all =
    digits_last xs d (and_parts (is_ascii_digit x) (all_ascii_digits (xs ++ d ∷ [])) all).1

-- the last byte of a numeral is a digit
last_digit : (xs : List ℕ) (d n : ℕ) → IsNumeral (xs ++ d ∷ []) n → (48 ≤ d) × (d ≤ 57)
last_digit [] d n (inl h) = (omega (arith, h.0), omega (arith, h.0))
last_digit [] d n (inr h) = (omega (arith, h.0), h.1)
last_digit (x ∷ xs) d n (inl h) = absurd (omega (arith, length-append xs (d ∷ []), ap length h.1))
last_digit (x ∷ xs) d n (inr h) = digits_last xs d h.2

-- the last digit is no nine
numeral_ones : (xs : List ℕ) (d n : ℕ) → d < 57 → IsNumeral (xs ++ d ∷ []) n → IsNumeral (xs ++ (d + 1) ∷ []) (n + 1)
numeral_ones xs d n less h =
    let low = (last_digit xs d n h).0 in
    let next = digit (d + 1) (omega (arith, low)) (omega (arith, less)) in
    numeral_end xs ((d + 1) ∷ []) d [] n (λ m. omega (arith, low)) (λ is. rw next refl)
    (λ one. elim one [
      | inl zero ↦ inr (omega (arith, low), omega (arith, less), refl, omega (arith, zero.0, zero.2))
      | inr some ↦ inr (omega (arith, low), omega (arith, less), refl, omega (arith, low, some.3))
    ]) h

-- the last digit is a nine, and the one before it isn't
numeral_tens : (xs : List ℕ) (c n : ℕ) → 48 ≤ c → c < 57 → IsNumeral (xs ++ c ∷ 57 ∷ []) n
    → IsNumeral (xs ++ (c + 1) ∷ 48 ∷ []) (n + 1)
numeral_tens xs c n low less h =
    let next = digit (c + 1) (omega (arith, low)) (omega (arith, less)) in
    numeral_end xs ((c + 1) ∷ 48 ∷ []) c (57 ∷ []) n (λ m. omega (arith, low)) (λ is. rw next refl)
    (λ one. elim one [
      | inl zero ↦ absurd (omega (arith, ap length zero.1))
      | inr some ↦ inr (omega (arith, low), omega (arith, less), refl, omega (arith, low, some.3))
    ]) h

-- ---- lines

pub passed_in_range : (m : Msg) → m.hop < MAX_NUMBER → is_msg m ≡ true → is_msg (passed_on m) ≡ true
passed_in_range m less h =
    let parts = and_parts (is_number m.round && is_number m.id) (is_number m.hop) h in
    let one : nat_le 1 (m.hop + 1) ≡ true = grind (arith, nat_tests) in
    let most : nat_le (m.hop + 1) MAX_NUMBER ≡ true = grind (arith, nat_tests, less) in
    rw (parts.0, one, most) refl

-- an element of what a list begins with
edit_at : (whole front back : List ℕ) (d x len : ℕ) → len ≤ length whole → take len whole ≡ front ++ d ∷ back
    → (get_or whole (length front) 0 ≡ d) × (take len (set whole (length front) x) ≡ front ++ x ∷ back)
edit_at whole front back d x len room e =
    let tail = drop len whole in
    let long : length (front ++ d ∷ back) ≡ len = ap length (sym e) ∙ length-take-le len whole room in
    let parts : whole ≡ front ++ d ∷ (back ++ tail) =
    sym (take-append-drop len whole) ∙ ap (λ z. z ++ tail) e ∙ append_assoc front (d ∷ back) tail in
    let changed = ap (λ z. set z (length front) x) parts ∙ set-append_seam front d (back ++ tail) x in
    let same : length (front ++ x ∷ back) ≡ len =
    length-append front (x ∷ back) ∙ sym (length-append front (d ∷ back)) ∙ long in (
      ap (λ z. get_or z (length front) 0) parts ∙ get_or-append_seam front d (back ++ tail) 0,
      ap (take len) (changed ∙ sym (append_assoc front (x ∷ back) tail)) ∙ take_at (front ++ x ∷ back) tail len same,
    )

-- another word of four letters
word_set : (xs rest : List ℕ) (k p q r s a b c d : ℕ) → take (suc (suc (suc (suc k)))) xs ≡ p ∷ q ∷ r ∷ s ∷ rest
    → take (suc (suc (suc (suc k)))) (a ∷ b ∷ c ∷ d ∷ drop 4 xs) ≡ a ∷ b ∷ c ∷ d ∷ rest
word_set (w ∷ x ∷ y ∷ z ∷ zs) rest k p q r s a b c d e =
    let same : take k zs ≡ rest = cc in ap (λ l. a ∷ b ∷ c ∷ d ∷ l) same
word_set [] rest k p q r s a b c d e = absurd cc
word_set (w ∷ []) rest k p q r s a b c d e = absurd cc
word_set (w ∷ x ∷ []) rest k p q r s a b c d e = absurd cc
word_set (w ∷ x ∷ y ∷ []) rest k p q r s a b c d e = absurd cc

-- the line after another word
other_word : (room : List ℕ) (len : ℕ) (m : Msg) (p q r s a b c d : ℕ) → 16 ≤ len
    → IsLineOf (p ∷ q ∷ r ∷ s ∷ 32 ∷ []) (take len room) m
    → IsLineOf (a ∷ b ∷ c ∷ d ∷ 32 ∷ []) (take len (a ∷ b ∷ c ∷ d ∷ drop 4 room)) m
other_word room len m p q r s a b c d long h =
    let four : suc (suc (suc (suc (len - 4)))) ≡ len = omega arith in
    let rest = 32 ∷ (h.0 ++ codes "\n") in
    let line = ap (λ k. take k room) four ∙ h.1 in
    let changed = word_set room rest (len - 4) p q r s a b c d line in
    (h.0, ap (λ k. take k (a ∷ b ∷ c ∷ d ∷ drop 4 room)) (sym four) ∙ changed, h.2)

pub as_sending : (room : List ℕ) (len : ℕ) (m : Msg) → 16 ≤ len → IsReceiptLine (take len room) m
    → IsSendingLine (take len (codes "send" ++ drop 4 room)) m
as_sending room len m long h = other_word room len m 114 101 99 118 115 101 110 100 long h

pub as_receipt : (room : List ℕ) (len : ℕ) (m : Msg) → 16 ≤ len → IsSendingLine (take len room) m
    → IsReceiptLine (take len (codes "recv" ++ drop 4 room)) m
as_receipt room len m long h = other_word room len m 115 101 110 100 114 101 99 118 long h

last_of : (c : ℕ) (cs : List ℕ) → (front : List ℕ) × (d : ℕ) × (c ∷ cs ≡ front ++ d ∷ [])
last_of c [] = ([], c, refl)
last_of c (d ∷ ds) = let r = last_of d ds in (c ∷ r.0, r.1, ap (λ z. c ∷ z) r.2)

hop_parts : (hop : List ℕ) (n : ℕ) → IsNumeral hop n → (front : List ℕ) × (d : ℕ) × (hop ≡ front ++ d ∷ [])
hop_parts [] n h = absurd h
hop_parts (c ∷ cs) n h = last_of c cs

-- what stands before some last digits of the hop, and after it
abbrev before : List ℕ → List ℕ → List ℕ → List ℕ → List ℕ
before word round id digits = word ++ round ++ codes " " ++ id ++ codes " " ++ digits

abbrev after : Bool → List ℕ
after dirty = codes " " ++ bit_word dirty ++ codes "\n"

after_long : (dirty : Bool) → length (after dirty) ≡ 7
after_long true = refl
after_long false = refl

spelled : (word round id front back : List ℕ) (dirty : Bool)
    → word ++ (round ++ codes " " ++ id ++ codes " " ++ (front ++ back) ++ codes " " ++ bit_word dirty) ++ codes "\n"
    ≡ before word round id front ++ (back ++ after dirty)
spelled word round id front back dirty = simp append_assoc

module _ (word room : List ℕ) (len : ℕ) (m : Msg) (long : len ≤ length room) (h : IsLineOf word (take len room) m) where
  -- the line, by the last digits of its hop
  line_is : (front back : List ℕ) → h.2.hop ≡ front ++ back
      → take len room ≡ before word h.2.round h.2.id front ++ (back ++ after m.dirty)
  line_is front back hop =
      h.1 ∙ ap (λ t. word ++ t ++ codes "\n") (h.2.parts
      ∙ ap (λ t. h.2.round ++ codes " " ++ h.2.id ++ codes " " ++ t ++ codes " " ++ bit_word m.dirty) hop)
      ∙ spelled word h.2.round h.2.id front back m.dirty

  -- where they begin
  at_digits : (front back : List ℕ) → h.2.hop ≡ front ++ back
      → len ≡ length (before word h.2.round h.2.id front) + (length back + 7)
  at_digits front back hop =
      let line = ap length (line_is front back hop) in
      let parts = length-append (before word h.2.round h.2.id front) (back ++ after m.dirty) in
      omega (arith, length-take-le len room long, line, parts, length-append back (after m.dirty), after_long m.dirty)

  -- the line with other digits there
  with_digits : (front back : List ℕ) (new : List ℕ) → IsNumeral (front ++ back) (m.hop + 1)
      → new ≡ before word h.2.round h.2.id front ++ (back ++ after m.dirty) → IsLineOf word new (passed_on m)
  with_digits front back new is line = (
    h.2.round ++ codes " " ++ h.2.id ++ codes " " ++ (front ++ back) ++ codes " " ++ bit_word m.dirty,
    line ∙ sym (spelled word h.2.round h.2.id front back m.dirty),
    record {
      round = h.2.round;
      id = h.2.id;
      hop = front ++ back;
      round_is = h.2.round_is;
      id_is = h.2.id_is;
      hop_is = is;
      parts = refl;
    },
  )

  pub ones_raised : get_or room (len - 8) 0 < 57
      → IsLineOf word (take len (set room (len - 8) (get_or room (len - 8) 0 + 1))) (passed_on m)
  ones_raised less =
      let parts = hop_parts h.2.hop m.hop h.2.hop_is in
      let front = parts.0 in
      let d = parts.1 in
      let start = before word h.2.round h.2.id front in
      let at : len - 8 ≡ length start = omega (arith, at_digits front (d ∷ []) parts.2) in
      let edit = edit_at room start (after m.dirty) d (d + 1) len long (line_is front (d ∷ []) parts.2) in
      let found : get_or room (len - 8) 0 ≡ d = ap (λ k. get_or room k 0) at ∙ edit.0 in
      let hop = subst (λ t. IsNumeral t m.hop) parts.2 h.2.hop_is in
      with_digits front ((d + 1) ∷ []) _ (numeral_ones front d m.hop (omega (arith, found, less)) hop)
      (ap (λ x. take len (set room (len - 8) (x + 1))) found ∙ ap (λ k. take len (set room k (d + 1))) at ∙ edit.1)

  -- the hop has no digit before a nine
  no_tens : h.2.hop ≡ 57 ∷ [] → get_or room (len - 8 - 1) 0 ≡ 32
  no_tens hop =
      let front = word ++ h.2.round ++ codes " " ++ h.2.id in
      let start : before word h.2.round h.2.id [] ≡ front ++ 32 ∷ [] = simp append_assoc in
      let line : take len room ≡ front ++ 32 ∷ (57 ∷ after m.dirty) =
      line_is [] (57 ∷ []) hop ∙ ap (λ t. t ++ 57 ∷ after m.dirty) start
      ∙ append_assoc front (32 ∷ []) (57 ∷ after m.dirty) in
      let before_last : len - 8 - 1 ≡ length front =
      omega (arith, at_digits [] (57 ∷ []) hop, ap length start, length-append front (32 ∷ [])) in
      ap (λ k. get_or room k 0) before_last ∙ (edit_at room front (57 ∷ after m.dirty) 32 32 len long line).0

  tens_at : (front : List ℕ) → h.2.hop ≡ front ++ 57 ∷ [] → 48 ≤ get_or room (len - 8 - 1) 0
      → get_or room (len - 8 - 1) 0 < 57
      → IsLineOf word (take len (set (set room (len - 8 - 1) (get_or room (len - 8 - 1) 0 + 1)) (len - 8) 48))
      (passed_on m)
  tens_at [] hop low less = absurd (omega (arith, no_tens hop, low))
  tens_at (x ∷ xs) hop low less =
      let parts = last_of x xs in
      let front = parts.0 in
      let c = parts.1 in
      let digits : h.2.hop ≡ front ++ c ∷ 57 ∷ [] = hop ∙ ap (λ t. t ++ 57 ∷ []) parts.2
      ∙ append_assoc front (c ∷ []) (57 ∷ []) in
      let start = before word h.2.round h.2.id front in
      let end = after m.dirty in
      let long_is = at_digits front (c ∷ 57 ∷ []) digits in
      let at : len - 8 - 1 ≡ length start = omega (arith, long_is) in
      let one = edit_at room start (57 ∷ end) c (c + 1) len long (line_is front (c ∷ 57 ∷ []) digits) in
      let found : get_or room (len - 8 - 1) 0 ≡ c = ap (λ k. get_or room k 0) at ∙ one.0 in
      let changed = set room (length start) (c + 1) in
      let last : len - 8 ≡ length (start ++ (c + 1) ∷ []) =
      omega (arith, long_is, length-append start ((c + 1) ∷ [])) in
      let two = edit_at changed (start ++ (c + 1) ∷ []) end 57 48 len
      (omega (arith, long, length-set room (length start) (c + 1)))
      (one.1 ∙ sym (append_assoc start ((c + 1) ∷ []) (57 ∷ end))) in
      let is = numeral_tens front c m.hop (omega (arith, found, low)) (omega (arith, found, less))
      (subst (λ t. IsNumeral t m.hop) digits h.2.hop_is) in
      with_digits front ((c + 1) ∷ 48 ∷ []) _ is
      (ap (λ y. take len (set (set room (len - 8 - 1) (y + 1)) (len - 8) 48)) found
      ∙ ap (λ k. take len (set (set room k (c + 1)) (len - 8) 48)) at
      ∙ ap (λ k. take len (set changed k 48)) last ∙ two.1
      ∙ append_assoc start ((c + 1) ∷ []) (48 ∷ end))

  pub tens_raised : 57 ≤ get_or room (len - 8) 0 → 48 ≤ get_or room (len - 8 - 1) 0
      → get_or room (len - 8 - 1) 0 < 57
      → IsLineOf word (take len (set (set room (len - 8 - 1) (get_or room (len - 8 - 1) 0 + 1)) (len - 8) 48))
      (passed_on m)
  tens_raised nine low less =
      let parts = hop_parts h.2.hop m.hop h.2.hop_is in
      let front = parts.0 in
      let d = parts.1 in
      let start = before word h.2.round h.2.id front in
      let at : len - 8 ≡ length start = omega (arith, at_digits front (d ∷ []) parts.2) in
      let edit = edit_at room start (after m.dirty) d d len long (line_is front (d ∷ []) parts.2) in
      let found : get_or room (len - 8) 0 ≡ d = ap (λ k. get_or room k 0) at ∙ edit.0 in
      let most = (last_digit front d m.hop (subst (λ t. IsNumeral t m.hop) parts.2 h.2.hop_is)).1 in
      let is : d ≡ 57 = omega (arith, most, found, nine) in
      tens_at front (parts.2 ∙ ap (λ x. front ++ x ∷ []) is) low less

-- ---- records

-- the rest of a text, after a line of this word
line_rest : (text rest line spelled word : List ℕ) → text ≡ line ++ rest → line ≡ word ++ spelled ++ codes "\n"
    → text ≡ (word ++ spelled) ++ codes "\n" ++ rest
line_rest text rest line spelled word parts is = parts ∙ ap (λ l. l ++ rest) is ∙ simp append_assoc

module _ (version : ℕ) (text rest line : List ℕ) (count : ℕ) (m : Msg) (few : count < MAX_RECORDS)
    (in_range : is_msg m ≡ true) (parts : text ≡ line ++ rest) where
  abbrev pub old : RecordsLeft
  old = record { version = version; rest = text; count = count }

  abbrev pub new : RecordsLeft
  new = record { version = version; rest = rest; count = count + 1 }

  pub receipt_read : IsReceiptLine line m → ReadsRecord old new (Got (Message m))
  receipt_read h = record {
    line = codes "recv " ++ h.0;
    is = (h.0, refl, h.2);
    number = in_range;
    held = refl;
    few = omega (arith, few);
    rest = line_rest text rest line h.0 (codes "recv ") parts h.1;
    count = refl;
    version = refl;
  }

  pub sending_read : IsSendingLine line m → ReadsRecord old new (Sent (Message m))
  sending_read h = record {
    line = codes "send " ++ h.0;
    is = (h.0, refl, h.2);
    number = in_range;
    held = refl;
    few = omega (arith, few);
    rest = line_rest text rest line h.0 (codes "send ") parts h.1;
    count = refl;
    version = refl;
  }
