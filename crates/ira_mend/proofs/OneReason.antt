-- What is said of the texts that a crash left is one thing.
use Rattle.std.proofs.Common.{◌≡◌, ◌<◌, ◌⊎◌, ◌+◌, ℕ, List, [], ◌∷◌, ◌++◌, zero, suc, Bool, true, false, Some, inl, inr}
use Rattle.std.proofs.Common.{refl, sym, ap, ap₂, subst, ◌∙◌, arith, take, append_assoc, length}
use Rattle.std.specs.Prelude.{codes, slice_get}
use Rattle.std.proofs.lemmas.Bool.{cases_lt}
use Rattle.std.proofs.lemmas.Option.{slice_get_within, unwrap_or-slice_get}
use Rattle.std.specs.List.{All}
use Rattle.std.specs.Option.{unwrap_or}
use Rattle.ira_event.specs.Limits.{MAX_RECORDS}
use Rattle.ira_event.specs.declared.event.Event.{Event}
use Rattle.ira_event.specs.declared.log_fault.LogFault.{LogFault}
use Rattle.ira_event.specs.declared.log_fault.LogFault.TheVariants as fault
use Rattle.ira_event.specs.declared.log_head.LogHead.{LogHead}
use Rattle.ira_event.specs.Log.{Log}
use Rattle.ira_event.specs.LogText.{AreRecords, IsRecord, head_of}
use Rattle.ira_event.specs.LogTextFault.{BeginsWithHead, HasNoLineFeed, LineFault, LogTextFault, RestFault, no_line}
use Rattle.ira_event.specs.LogTextFault.{other_count, out_of_range, too_many, trailing}
use Rattle.ira_event.specs.NextLine as next
use Rattle.ira_event.specs.Logs.{AreLogs, HeadFaultOf}
use Rattle.ira_event.proofs.Gathering.{no-fault, one-fault}
use Rattle.ira_event.proofs.LogAnswers.{log_or_fault, one_fault, one_log, head_begins, heads_same}
use Rattle.ira_event.proofs.Pieces.{line_has_feed, line_same}
use Rattle.ira_event.proofs.RecordLines.{record_is_one_line, record_same}
use Rattle.ira_audit.specs.declared.reason.Reason.{Reason}
use Rattle.ira_audit.specs.declared.reason.Reason.TheVariants as reason
use Rattle.ira_mend.specs.Laws.{LeftTextsAreOne, NoReasonAgainstARing, RecordedReasonsAreOne}
use Rattle.ira_mend.specs.RecordedLogs.{AreLeftTexts, BreaksOff, BreaksOffAfter, IsCutHead, IsFirstFault}
use Rattle.ira_mend.specs.RecordedLogs.{IsFirstNotLeft, IsLeftText, IsLost, IsRecordedText, LeftTextsFrom, RecordsLog, empty_log}
use Rattle.ira_mend.specs.RecordedLogs.{IsShort, faulty, no_log, no_ring, none, nothing, short}
use Rattle.ira_mend.proofs.RecordedTexts.{cut_fault, goes_on}

-- ---- one text

pub begins : (text : List ℕ) (log : Log) → IsRecordedText text log → (rest : List ℕ)
    × BeginsWithHead text (head_of log) rest
begins text log (inr is) = (is.lines, is.head)
begins text log (inl is) = (is.records ++ (is.end ++ codes "\n"), head_begins text log is)

front : (a b c d x : List ℕ) → a ≡ b ++ codes "\n" ++ c → a ++ x ≡ d → b ++ codes "\n" ++ (c ++ x) ≡ d
front a b c d x p q = sym (append_assoc (b ++ codes "\n") c x) ∙ ap (λ w. w ++ x) (sym p) ∙ q

-- lines of records, and then pieces of lines, or as many, are those of one list of events
pieces_same : (r q x y : List ℕ) (es fs : List Event) → AreRecords r es → AreRecords q fs → (length es ≡ length fs)
    ⊎ (HasNoLineFeed x × HasNoLineFeed y) → r ++ x ≡ q ++ y → es ≡ fs
pieces_same r q x y [] [] a b ends e = refl
pieces_same r q x y [] (f ∷ fs) a b (inl same) e = absurd (omega (arith, same))
pieces_same r q x y [] (f ∷ fs) a b (inr pieces) e =
    let there : b.0 ++ codes "\n" ++ (b.1 ++ y) ≡ x = front q b.0 b.1 x y b.2 (sym e ∙ ap (λ w. w ++ x) a) in
    absurd (line_has_feed b.0 (b.1 ++ y) (subst (λ t. HasNoLineFeed t) (sym there) pieces.0))
pieces_same r q x y (f ∷ fs) [] a b (inl same) e = absurd (omega (arith, same))
pieces_same r q x y (f ∷ fs) [] a b (inr pieces) e =
    let there : a.0 ++ codes "\n" ++ (a.1 ++ x) ≡ y = front r a.0 a.1 y x a.2 (e ∙ ap (λ w. w ++ y) b) in
    absurd (line_has_feed a.0 (a.1 ++ x) (subst (λ t. HasNoLineFeed t) (sym there) pieces.1))
pieces_same r q x y (f ∷ fs) (h ∷ hs) a b ends e =
    let lines = line_same a.0 b.0 (a.1 ++ x) (b.1 ++ y) (record_is_one_line a.0 f a.3) (record_is_one_line b.0 h b.3)
    (front r a.0 a.1 (q ++ y) x a.2 e ∙ sym (front q b.0 b.1 (q ++ y) y b.2 refl)) in
    let first : f ≡ h = record_same b.0 f h (subst (λ t. IsRecord t f) lines.0 a.3) b.3 in
    let others : fs ≡ hs = pieces_same a.1 b.1 x y fs hs a.4 b.4 (fewer ends) lines.1 in
    cc
  where
    fewer : (length (f ∷ fs) ≡ length (h ∷ hs)) ⊎ (HasNoLineFeed x × HasNoLineFeed y) → (length fs ≡ length hs)
        ⊎ (HasNoLineFeed x × HasNoLineFeed y)
    fewer (inl same) = inl (omega (arith, same))
    fewer (inr pieces) = inr pieces

-- a line breaks a text off where it is a record too many
too_many_line : (v k : ℕ) (line more : List ℕ) (f : LogFault) → LineFault v k line more f → BreaksOff f
    → (k ≡ MAX_RECORDS) × (f ≡ fault.TooMany)
too_many_line v k line more f (too_many many begins is) off = (many, is)
too_many_line v k line more f (no_line few no_record no_end is) off =
    absurd (goes_on (fault.Line (k + 5)) (λ e. cc) (λ e. cc) (subst BreaksOff is off))
too_many_line v k line more f (out_of_range e few held is_record bad is) off =
    absurd (goes_on (fault.Range (k + 5)) (λ e. cc) (λ e. cc) (subst BreaksOff is off))
too_many_line v k line more f (other_count n is_end other is) off =
    absurd (goes_on fault.Count (λ e. cc) (λ e. cc) (subst BreaksOff is off))
too_many_line v k line more f (trailing is_end some is) off =
    absurd (goes_on fault.Trailing (λ e. cc) (λ e. cc) (subst BreaksOff is off))

rest_after : (v k : ℕ) (rest : List ℕ) (f : LogFault) → BreaksOff f → RestFault v k rest f
    → (HasNoLineFeed rest × (f ≡ fault.Cut)) ⊎ ((k ≡ MAX_RECORDS) × (f ≡ fault.TooMany))
rest_after v k rest f off (next.cut piece is) = inl (piece, is)
rest_after v k rest f off (next.at_line line more parts whole bad) = inr (too_many_line v k line more f bad off)

-- two texts that break off with one fault
both_break_off : (v w k m : ℕ) (x y : List ℕ) (a : BreaksOffAfter v k x) (b : BreaksOffAfter w m y) → a.0 ≡ b.0
    → (k ≡ m) ⊎ (HasNoLineFeed x × HasNoLineFeed y)
both_break_off v w k m x y a b same = go (rest_after v k x a.0 a.1 a.2) (rest_after w m y b.0 b.1 b.2)
  where
    go : (HasNoLineFeed x × (a.0 ≡ fault.Cut)) ⊎ ((k ≡ MAX_RECORDS) × (a.0 ≡ fault.TooMany))
        → (HasNoLineFeed y × (b.0 ≡ fault.Cut)) ⊎ ((m ≡ MAX_RECORDS) × (b.0 ≡ fault.TooMany))
        → (k ≡ m) ⊎ (HasNoLineFeed x × HasNoLineFeed y)
    go (inl p) (inl q) = inr (p.0, q.0)
    go (inr p) (inr q) = inl (p.0 ∙ sym q.0)
    go (inl p) (inr q) = (let e : fault.Cut ≡ fault.TooMany = sym p.1 ∙ same ∙ q.1 in cc)
    go (inr p) (inl q) = (let e : fault.TooMany ≡ fault.Cut = sym p.1 ∙ same ∙ q.1 in cc)

logs_same : (text : List ℕ) (a b : Log) → IsRecordedText text a → IsRecordedText text b → a ≡ b
logs_same text a b (inl x) (inl y) = one_log text a b x y
logs_same text a b (inl x) (inr y) = absurd (log_or_fault text a y.cut.0 x (cut_fault text b y))
logs_same text a b (inr x) (inl y) = absurd (log_or_fault text b x.cut.0 y (cut_fault text a x))
logs_same text a b (inr x) (inr y) =
    let head = heads_same text (head_of a) (head_of b) x.lines y.lines x.head y.head in
    let ends = both_break_off a.version b.version (length a.events) (length b.events) x.piece y.piece x.cut y.cut
    (one_fault text x.cut.0 y.cut.0 (cut_fault text a x) (cut_fault text b y)) in
    let events : a.events ≡ b.events =
    pieces_same x.records.records y.records.records x.piece y.piece a.events b.events x.records.records_are
    y.records.records_are ends (sym x.records.parts ∙ head.1 ∙ y.records.parts) in
    λ j. record {
      version = (head.0 j).version;
      nodes = (head.0 j).nodes;
      place = (head.0 j).place;
      initiator = (head.0 j).initiator;
      events = events j;
    }

one_start : (g s t : Bool) → (s ≡ g → t ≡ g) → (t ≡ g → s ≡ g) → s ≡ t
one_start true true t p q = sym (p refl)
one_start true false true p q = q refl
one_start true false false p q = refl
one_start false false t p q = sym (p refl)
one_start false true false p q = q refl
one_start false true true p q = refl

lost_same : (ring : LogHead) (guess : Bool) (place : ℕ) (text : List ℕ) (a b : Log) → IsLost ring guess place text a
    → IsLost ring guess place text b → a ≡ b
lost_same ring guess place text a b x y =
    x.empty ∙ ap (empty_log ring place) (one_start guess x.start y.start (λ e. y.guessed (head_at a x e)) (λ e.
    x.guessed (head_at b y e))) ∙ sym y.empty
  where
    head_at : (log : Log) (x : IsLost ring guess place text log) → x.start ≡ guess
        → IsCutHead text (empty_log ring place guess)
    head_at log x e = subst (λ s. IsCutHead text (empty_log ring place s)) e
        (subst (λ l. IsCutHead text l) x.empty x.piece)

left_same : (ring : LogHead) (guess : Bool) (place : ℕ) (text : List ℕ) (a b : Log) → IsLeftText ring guess place text a
    → IsLeftText ring guess place text b → a ≡ b
left_same ring guess place text a b (inl x) (inl y) = logs_same text a b x y
left_same ring guess place text a b (inr x) (inr y) = lost_same ring guess place text a b x y
left_same ring guess place text a b (inl x) (inr y) =
    (let h = begins text a x in absurd (y.piece.within (head_of a) h.0 h.1))
left_same ring guess place text a b (inr x) (inl y) =
    (let h = begins text b y in absurd (x.piece.within (head_of b) h.0 h.1))

-- ---- lists of texts

one_text : (texts : List (List ℕ)) (i : ℕ) (a b : List ℕ) → slice_get texts i ≡ Some a → slice_get texts i ≡ Some b
    → a ≡ b
one_text texts i a b p q = (let e : Some a ≡ Some b = sym p ∙ q in cc)

ring_same : (texts : List (List ℕ)) (a b : Log) → RecordsLog texts a → RecordsLog texts b → a ≡ b
ring_same texts a b x y = elim (cases_lt x.number y.number) [
  | inl low ↦ absurd (y.first x.number x.text a low x.at x.recorded)
  | inr high ↦ elim (cases_lt y.number x.number) [
    | inl low ↦ absurd (x.first y.number y.text b low y.at y.recorded)
    | inr even ↦
        let there : slice_get texts x.number ≡ Some y.text =
        ap (slice_get texts) (let e : x.number ≡ y.number = omega arith in e) ∙ y.at in
        logs_same x.text a b x.recorded (subst (λ t. IsRecordedText t b)
        (one_text texts x.number y.text x.text there x.at) y.recorded)
  ]
]

lefts_same : (place : ℕ) (ring : LogHead) (guess : Bool) (texts : List (List ℕ)) (ls ks : List Log)
    → LeftTextsFrom place ring guess texts ls → LeftTextsFrom place ring guess texts ks → ls ≡ ks
lefts_same place ring guess [] [] [] a b = refl
lefts_same place ring guess [] [] (k ∷ ks) a b = absurd b
lefts_same place ring guess [] (l ∷ ls) ks a b = absurd a
lefts_same place ring guess (t ∷ ts) [] ks a b = absurd a
lefts_same place ring guess (t ∷ ts) (l ∷ ls) [] a b = absurd b
lefts_same place ring guess (t ∷ ts) (l ∷ ls) (k ∷ ks) a b =
    let first : l ≡ k = left_same ring guess place t l k a.0 b.0 in
    let others : ls ≡ ks = lefts_same (suc place) ring guess ts ls ks a.1 b.1 in
    cc

pub left_texts_are_one : LeftTextsAreOne
left_texts_are_one guess texts logs others a b =
    let ring : a.ring ≡ b.ring = ring_same texts a.ring b.ring a.recorded b.recorded in
    lefts_same 0 (head_of b.ring) guess texts logs others
    (subst (λ r. LeftTextsFrom 0 (head_of r) guess texts logs) ring a.each) b.each

-- what is left is said of each
left_at : (place : ℕ) (ring : LogHead) (guess : Bool) (texts : List (List ℕ)) (logs : List Log) (i : ℕ) (text : List ℕ)
    → LeftTextsFrom place ring guess texts logs → slice_get texts i ≡ Some text
    → (log : Log) × IsLeftText ring guess (place + i) text log
left_at place ring guess [] logs i text are at = absurd cc
left_at place ring guess (t ∷ ts) [] i text are at = absurd are
left_at place ring guess (t ∷ ts) (l ∷ ls) zero text are at =
    let same : t ≡ text = cc in
    (l, subst (λ n. IsLeftText ring guess n text l) (omega arith) (subst (λ x. IsLeftText ring guess place x l) same are.0))
left_at place ring guess (t ∷ ts) (l ∷ ls) (suc i) text are at =
    let it = left_at (suc place) ring guess ts ls i text are.1 at in
    (it.0, subst (λ n. IsLeftText ring guess n text it.0) (omega arith) it.1)

taken_at : (texts : List (List ℕ)) (n i : ℕ) (text : List ℕ) → i < n → slice_get texts i ≡ Some text
    → slice_get (take n texts) i ≡ Some text
taken_at [] n i text low at = absurd cc
taken_at (t ∷ ts) zero i text low at = absurd (omega arith)
taken_at (t ∷ ts) (suc n) zero text low at = at
taken_at (t ∷ ts) (suc n) (suc i) text low at = taken_at ts n i text (omega arith) at

-- a text that isn't left isn't among those that are
not_among : (guess : Bool) (texts : List (List ℕ)) (i n : ℕ) (r : Reason) (ring : Log) (logs : List Log)
    → IsFirstNotLeft guess texts i r → RecordsLog texts ring → i < n
    → LeftTextsFrom 0 (head_of ring) guess (take n texts) logs → ⊥
not_among guess texts i n r ring logs x is low are =
    let it = left_at 0 (head_of ring) guess (take n texts) logs i x.text are (taken_at texts n i x.text low x.at) in
    let same : ring ≡ x.ring = ring_same texts ring x.ring is x.recorded in
    x.why.3 it.0 (subst (λ l. IsLeftText (head_of l) guess i x.text it.0) same
    (subst (λ k. IsLeftText (head_of ring) guess k x.text it.0) (omega arith) it.1))

not_all : (guess : Bool) (texts : List (List ℕ)) (i : ℕ) (r : Reason) (logs : List Log) → IsFirstNotLeft guess texts i r
    → AreLeftTexts guess texts logs → ⊥
not_all guess texts i r logs x are =
    let it = left_at 0 (head_of are.ring) guess texts logs i x.text are.each x.at in
    let same : are.ring ≡ x.ring = ring_same texts are.ring x.ring are.recorded x.recorded in
    x.why.3 it.0 (subst (λ l. IsLeftText (head_of l) guess i x.text it.0) same
    (subst (λ k. IsLeftText (head_of are.ring) guess k x.text it.0) (omega arith) it.1))

not_left_same : (guess : Bool) (texts : List (List ℕ)) (i j : ℕ) (r q : Reason) → IsFirstNotLeft guess texts i r
    → IsFirstNotLeft guess texts j q → r ≡ q
not_left_same guess texts i j r q x y = elim (cases_lt i j) [
  | inl low ↦ absurd (not_among guess texts i j r y.ring y.before x y.recorded low y.before_are)
  | inr high ↦ elim (cases_lt j i) [
    | inl low ↦ absurd (not_among guess texts j i q x.ring x.before y x.recorded low x.before_are)
    | inr even ↦
        let number : i ≡ j = omega arith in
        let text : y.text ≡ x.text = one_text texts i y.text x.text (ap (slice_get texts) number ∙ y.at) x.at in
        let f : x.why.0 ≡ y.why.0 = one_fault x.text x.why.0 y.why.0 x.why.2
        (subst (λ t. LogTextFault t y.why.0) text y.why.2) in
        x.why.1 ∙ ap (λ n. reason.Log n x.why.0) number ∙ ap (reason.Log j) f ∙ sym y.why.1
  ]
]

-- a text among short ones is short
short_at : (texts : List (List ℕ)) (i : ℕ) (text : List ℕ) → All IsShort texts → slice_get texts i ≡ Some text
    → IsShort text
short_at texts i text all at =
    subst IsShort (sym (unwrap_or-slice_get texts i text) ∙ ap (λ o. unwrap_or o text) at)
    (all i text (slice_get_within texts i text at))

first_faults_same : (texts : List (List ℕ)) (r q : Reason) → IsFirstFault texts r → IsFirstFault texts q → r ≡ q
first_faults_same texts r q (nothing empty is) (nothing again so) = is ∙ sym so
first_faults_same texts r q (short some all is) (short any each so) = is ∙ sym so
first_faults_same texts r q (nothing empty is) (short some all so) = absurd (omega (arith, some, ap length empty))
first_faults_same texts r q (short some all is) (nothing empty so) = absurd (omega (arith, some, ap length empty))
first_faults_same texts r q (nothing empty is) (faulty j t g at before long bad so) =
    absurd (omega (arith, slice_get_within texts j t at, ap length empty))
first_faults_same texts r q (faulty i t f at before long bad is) (nothing empty so) =
    absurd (omega (arith, slice_get_within texts i t at, ap length empty))
first_faults_same texts r q (short some all is) (faulty j t g at before long bad so) =
    absurd (long (short_at texts j t all at))
first_faults_same texts r q (faulty i t f at before long bad is) (short some all so) =
    absurd (long (short_at texts i t all at))
first_faults_same texts r q (faulty i t f at before long bad is) (faulty j u g there prior wide ill so) =
    elim (cases_lt i j) [
      | inl low ↦ absurd (long (short_at (take j texts) i t prior (taken_at texts j i t low at)))
      | inr high ↦ elim (cases_lt j i) [
        | inl low ↦ absurd (wide (short_at (take i texts) j u before (taken_at texts i j u low there)))
        | inr even ↦
            let number : i ≡ j = omega arith in
            let text : u ≡ t = one_text texts i u t (ap (slice_get texts) number ∙ there) at in
            let fault : f ≡ g = one_fault t f g bad (subst (λ x. LogTextFault x g) text ill) in
            is ∙ ap₂ reason.Log number fault ∙ sym so
      ]
    ]

pub recorded_reasons_are_one : RecordedReasonsAreOne
recorded_reasons_are_one guess texts r q (no_log i x) (no_log j y) = not_left_same guess texts i j r q x y
recorded_reasons_are_one guess texts r q (no_log i x) (no_ring logs f are bad is) =
    absurd (not_all guess texts i r logs x are)
recorded_reasons_are_one guess texts r q (no_log i x) (none lacks is) = absurd (lacks x.ring x.recorded)
recorded_reasons_are_one guess texts r q (no_ring logs f are bad is) (no_log i x) =
    absurd (not_all guess texts i q logs x are)
recorded_reasons_are_one guess texts r q (no_ring logs f are bad is) (no_ring others g there worse so) =
    let same : logs ≡ others = left_texts_are_one guess texts logs others are there in
    is ∙ ap reason.Heads (one-fault others f g (subst (λ ls. HeadFaultOf ls f) same bad) worse) ∙ sym so
recorded_reasons_are_one guess texts r q (no_ring logs f are bad is) (none lacks so) = absurd (lacks are.ring are.recorded)
recorded_reasons_are_one guess texts r q (none lacks is) (no_log i x) = absurd (lacks x.ring x.recorded)
recorded_reasons_are_one guess texts r q (none lacks is) (no_ring logs f are bad so) = absurd (lacks are.ring are.recorded)
recorded_reasons_are_one guess texts r q (none lacks is) (none nay so) = first_faults_same texts r q is so

pub no_reason_against_a_ring : NoReasonAgainstARing
no_reason_against_a_ring guess texts logs r are ring (no_log i x) = not_all guess texts i r logs x are
no_reason_against_a_ring guess texts logs r are ring (no_ring others f there bad is) =
    no-fault others f (subst AreLogs (left_texts_are_one guess texts logs others are there) ring) bad
no_reason_against_a_ring guess texts logs r are ring (none lacks is) = lacks are.ring are.recorded
