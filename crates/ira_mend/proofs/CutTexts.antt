-- Texts of logs that are cut at any byte are what is left of beginnings of the logs.
use Rattle.std.proofs.Common.{◌≡◌, ◌≢◌, ◌<◌, ◌⊎◌, ◌+◌, ℕ, List, [], ◌∷◌, ◌++◌, zero, suc, Bool, Some, inl, inr}
use Rattle.std.proofs.Common.{length, refl, sym, ap, subst, ◌∙◌, arith, take, append_assoc, append-nil, length-append}
use Rattle.std.specs.Prelude.{codes, nat_eq, slice_get, slice_index}
use Rattle.std.specs.List.{AllZip, list_any}
use Rattle.std.proofs.lemmas.Bool.{cases_eq}
use Rattle.std.proofs.lemmas.List.{nil_from_length, take_all}
use Rattle.ira_event.specs.declared.event.Event.{Event}
use Rattle.ira_event.specs.declared.log_head.LogHead.{LogHead}
use Rattle.ira_event.specs.Log.{Log, IsLog}
use Rattle.ira_event.specs.LogText.{AreRecords, IsHead, IsLogText, head_of, log_text}
use Rattle.ira_event.specs.LogTextFault.{BeginsWithHead, BeginsWithNoHead, HasNoLineFeed}
use Rattle.ira_event.specs.Logs.{AreLogs, EachLog}
use Rattle.ira_event.specs.NextLine as next
use Rattle.ira_event.specs.declared.log_fault.LogFault.TheVariants as fault
use Rattle.ira_event.proofs.Pieces.{or_parts}
use Rattle.ira_event.proofs.RecordLines.{end_is_one_line, record_is_one_line}
use Rattle.ira_audit.specs.RingAnswer.{yes}
use Rattle.ira_event.proofs.Spelled.{log_text_is, log_text_short, log_text_spelled}
use Rattle.ira_event.proofs.LogAnswers.{head_begins, heads_same}
use Rattle.ira_mend.specs.Beginning.{begun}
use Rattle.ira_mend.specs.Laws.{AreLeft, CutTextsAreOfLogs, CutTextsDontDiffer, CutTextsGetYes, HasWholeHead, IsBegunText}
use Rattle.ira_mend.specs.Laws.{IsLeft}
use Rattle.ira_mend.specs.RecordedLogs.{AreLeftTexts, IsCutHead, IsLeftText, IsRecordedText, LeftTextsFrom}
use Rattle.ira_mend.specs.RecordedLogs.{RecordsLog, empty_log}
use Rattle.ira_mend.proofs.Begun.{begun_is_log, left_are_logs}
use Rattle.ira_mend.proofs.MendedRuns.{dont_differ, runs_mended}
use Rattle.ira_mend.proofs.OneReason.{begins, left_texts_are_one}

-- ---- beginnings of texts

-- a beginning of two texts is one of the first, or goes on in the second
split_prefix : (t xs ys rest : List ℕ) → t ++ rest ≡ xs ++ ys
    → ((u : List ℕ) × (t ≡ xs ++ u) × (u ++ rest ≡ ys)) ⊎ ((more : List ℕ) × (more ≢ []) × (t ++ more ≡ xs))
split_prefix t [] ys rest e = inl (t, refl, e)
split_prefix [] (x ∷ xs) ys rest e = inr (x ∷ xs, (λ z. cc), refl)
split_prefix (a ∷ t) (x ∷ xs) ys rest e =
    let head : a ≡ x = cc in
    let tail : t ++ rest ≡ xs ++ ys = cc in
    elim (split_prefix t xs ys rest tail) [
      | inl s ↦ (let same : t ≡ xs ++ s.0 = s.1 in inl (s.0, cc, s.2))
      | inr s ↦ (let same : t ++ s.0 ≡ xs = s.2 in inr (s.0, s.1, cc))
    ]

-- whether a text begins so
prefix_or : (xs ys : List ℕ) → ((rest : List ℕ) × (xs ++ rest ≡ ys)) ⊎ (((rest : List ℕ) → xs ++ rest ≡ ys → ⊥))
prefix_or [] ys = inl (ys, refl)
prefix_or (x ∷ xs) [] = inr (λ rest e. cc)
prefix_or (x ∷ xs) (y ∷ ys) = elim (cases_eq x y) [
  | inr ne ↦ inr (λ rest e. ne cc)
  | inl same ↦ elim (prefix_or xs ys) [
    | inl p ↦ (let tail : xs ++ p.0 ≡ ys = p.1 in inl (p.0, cc))
    | inr not ↦ inr (λ rest e. not rest cc)
  ]
]

-- a beginning of a line and what follows it has no line feed, or goes on after it
line_prefix : (line t rest more : List ℕ) → HasNoLineFeed line → t ++ rest ≡ line ++ codes "\n" ++ more
    → HasNoLineFeed t ⊎ ((u : List ℕ) × (t ≡ line ++ codes "\n" ++ u) × (u ++ rest ≡ more))
line_prefix line [] rest more h e = inl refl
line_prefix [] (a ∷ t) rest more h e =
    let head : a ≡ 10 = cc in
    let tail : t ++ rest ≡ more = cc in
    inr (t, ap (λ (x : ℕ). x ∷ t) head, tail)
line_prefix (x ∷ line) (a ∷ t) rest more h e =
    let head : a ≡ x = cc in
    let tail : t ++ rest ≡ line ++ codes "\n" ++ more = cc in
    let p = or_parts (nat_eq x 10) (list_any (λ y. nat_eq y 10) line) h in
    elim (line_prefix line t rest more p.1 tail) [
      | inl none ↦ inl (subst (λ (z : ℕ). HasNoLineFeed (z ∷ t)) (sym head) (rw p.0 none))
      | inr s ↦ (let same : t ≡ line ++ codes "\n" ++ s.0 = s.1 in inr (s.0, cc, s.2))
    ]

-- records, cut anywhere: some of them and a piece of a line, or all and the end line
data Cut (es : List Event) (records end t : List ℕ) : Type 0 where
  cut_at : (n : ℕ) (front piece : List ℕ) → AreRecords front (take n es) → t ≡ front ++ piece → HasNoLineFeed piece
      → Cut es records end t
  cut_none : t ≡ records ++ (end ++ codes "\n") → Cut es records end t

cut_lines : (es : List Event) (records end t rest : List ℕ) → AreRecords records es → HasNoLineFeed end
    → t ++ rest ≡ records ++ (end ++ codes "\n") → Cut es records end t
cut_lines [] records end t rest are whole e =
    let at : t ++ rest ≡ end ++ codes "\n" ++ [] =
    e ∙ ap (λ w. w ++ (end ++ codes "\n")) are ∙ sym (append-nil (end ++ codes "\n")) in
    elim (line_prefix end t rest [] whole at) [
      | inl none ↦ cut_at 0 [] t refl refl none
      | inr s ↦
          let nil : s.0 ≡ [] = nil_from_length s.0 (omega (arith, ap length s.2, length-append s.0 rest)) in
          cut_none (s.1 ∙ ap (λ w. end ++ codes "\n" ++ w) nil ∙ append-nil (end ++ codes "\n")
          ∙ ap (λ w. w ++ (end ++ codes "\n")) (sym are))
    ]
cut_lines (f ∷ es) records end t rest are whole e =
    let line = are.0 in
    let others = are.1 in
    let last = end ++ codes "\n" in
    let at : t ++ rest ≡ line ++ codes "\n" ++ (others ++ last) =
    e ∙ ap (λ w. w ++ last) are.2 ∙ append_assoc (line ++ codes "\n") others last in
    elim (line_prefix line t rest (others ++ last) (record_is_one_line line f are.3) at) [
      | inl none ↦ cut_at 0 [] t refl refl none
      | inr s ↦ more s.0 s.1 (cut_lines es others end s.0 rest are.4 whole s.2)
    ]
  where
    more : (u : List ℕ) → t ≡ are.0 ++ codes "\n" ++ u → Cut es are.1 end u → Cut (f ∷ es) records end t
    more u is (cut_at n front piece so parts none) =
        cut_at (suc n) (are.0 ++ codes "\n" ++ front) piece (are.0, front, refl, are.3, so)
        (is ∙ ap (λ w. are.0 ++ codes "\n" ++ w) parts ∙ sym (append_assoc (are.0 ++ codes "\n") front piece)) none
    more u is (cut_none parts) =
        cut_none (is ∙ ap (λ w. are.0 ++ codes "\n" ++ w) parts
        ∙ sym (append_assoc (are.0 ++ codes "\n") are.1 (end ++ codes "\n"))
        ∙ ap (λ w. w ++ (end ++ codes "\n")) (sym are.2))

-- ---- the text of one log

-- a text that ends within its head, or has some of its records, or all
data Begun (log : Log) (text : List ℕ) : Type 0 where
  in_head : BeginsWithNoHead text
      → ((other : Log) → IsLog other → head_of log ≡ head_of other → (rest : List ℕ) × (text ++ rest ≡ log_text other))
      → Begun log text
  past_it : (n : ℕ) → IsRecordedText text (begun log n) → Begun log text

begun_text : (log : Log) (text rest : List ℕ) → IsLog log → text ++ rest ≡ log_text log → Begun log text
begun_text log text rest valid e =
    elim (split_prefix text head.lines (is.records ++ (is.end ++ codes "\n")) rest (e ∙ head.parts)) [
      | inr s ↦ in_head (no_head s.0 s.1 s.2) (of_other s.0 s.2)
      | inl s ↦ past_head s.0 s.1 (cut_lines log.events is.records is.end s.0 rest is.records_are
          (end_is_one_line is.end (length log.events) is.end_is) s.2)
    ]
  where
    is : IsLogText (log_text log) log
    is = log_text_is log valid

    head : BeginsWithHead (log_text log) (head_of log) (is.records ++ (is.end ++ codes "\n"))
    head = head_begins (log_text log) log is

    no_head : (more : List ℕ) → more ≢ [] → text ++ more ≡ head.lines → BeginsWithNoHead text
    no_head more some parts h r other =
        let longer : BeginsWithHead (text ++ more) h (r ++ more) = record {
          lines = other.lines;
          lines_are = other.lines_are;
          version = other.version;
          size = other.size;
          fits = other.fits;
          in_ring = other.in_ring;
          parts = ap (λ w. w ++ more) other.parts ∙ append_assoc other.lines r more;
        } in
        let own : BeginsWithHead (text ++ more) (head_of log) [] = record {
          lines = head.lines;
          lines_are = head.lines_are;
          version = head.version;
          size = head.size;
          fits = head.fits;
          in_ring = head.in_ring;
          parts = parts ∙ sym (append-nil head.lines);
        } in
        let none = (heads_same (text ++ more) h (head_of log) (r ++ more) [] longer own).1 in
        some (nil_from_length more (omega (arith, ap length none, length-append r more)))

    of_other : (more : List ℕ) → text ++ more ≡ head.lines → (other : Log) → IsLog other → head_of log ≡ head_of other
        → (rest : List ℕ) × (text ++ rest ≡ log_text other)
    of_other more parts other good same =
        let theirs = log_text_is other good in
        let after = theirs.records ++ (theirs.end ++ codes "\n") in
        let spelled : head.lines ++ theirs.records ++ theirs.end ++ codes "\n" ≡ log_text other =
        log_text_spelled (head.lines ++ theirs.records ++ theirs.end ++ codes "\n") other (record {
          head = head.lines;
          records = theirs.records;
          end = theirs.end;
          head_is = subst (λ h. IsHead head.lines h) same head.lines_are;
          records_are = theirs.records_are;
          end_is = theirs.end_is;
          parts = refl;
          valid = good;
        }) in (
          more ++ after,
          sym (append_assoc text more after) ∙ ap (λ w. w ++ after) parts
              ∙ sym (append_assoc head.lines theirs.records (theirs.end ++ codes "\n"))
              ∙ sym (append_assoc (head.lines ++ theirs.records) theirs.end (codes "\n")) ∙ spelled,
        )

    past_head : (u : List ℕ) → text ≡ head.lines ++ u → Cut log.events is.records is.end u → Begun log text
    past_head u parts (cut_at n front piece so pieces none) =
        let good = begun_is_log log n valid in
        past_it n (inr (record {
          few = omega (arith, log_text_short (log_text log) log is, ap length e, length-append text rest);
          lines = u;
          head = record {
            lines = head.lines;
            lines_are = head.lines_are;
            version = head.version;
            size = head.size;
            fits = head.fits;
            in_ring = head.in_ring;
            parts = parts;
          };
          piece = piece;
          records = record {
            records = front;
            records_are = so;
            count = good.count;
            numbers = good.numbers;
            held = good.held;
            parts = pieces;
          };
          cut = (fault.Cut, inl refl, next.cut none refl);
        }))
    past_head u parts (cut_none pieces) =
        let same : text ≡ log_text log = parts ∙ ap (λ w. head.lines ++ w) pieces ∙ sym head.parts in
        let all : begun log (length log.events) ≡ log =
        ap (λ (es : List Event). record log { events = es }) (take_all (length log.events) log.events (omega arith)) in
        past_it (length log.events)
        (inl (subst (λ (l : Log). IsLogText text l) (sym all) (subst (λ t. IsLogText t log) (sym same) is)))

-- ---- what is left of one log

record LeftOf (ring : LogHead) (guess : Bool) (place : ℕ) (log : Log) (text : List ℕ) : Type 0 where
  n : ℕ
  rest : Log
  left : IsLeftText ring guess place text rest
  is : IsLeft log n rest

left_of_text : (ring : LogHead) (guess : Bool) (place : ℕ) (log : Log) (text rest : List ℕ) → IsLog log
    → log.version ≡ ring.version → log.nodes ≡ ring.nodes → log.place ≡ place → text ++ rest ≡ log_text log
    → LeftOf ring guess place log text
left_of_text ring guess place log text rest valid version nodes is_place e = by_text (begun_text log text rest valid e)
  where
    -- the log without events, of the other start as well
    begun_none : (start : Bool) → empty_log ring place start ≡ record (begun log 0) { initiator = start }
    begun_none start = λ j. record {
      version = sym version j;
      nodes = sym nodes j;
      place = sym is_place j;
      initiator = start;
      events = [];
    }

    lost : (start : Bool) (more : List ℕ) → text ++ more ≡ log_text (empty_log ring place start) → BeginsWithNoHead text
        → (IsCutHead text (empty_log ring place guess) → start ≡ guess) → LeftOf ring guess place log text
    lost start more parts none guessed = record {
      n = 0;
      rest = empty_log ring place start;
      left = inr (record {
        in_ring = omega (arith, valid.place, nodes, is_place);
        start = start;
        empty = refl;
        piece = record { rest = more; parts = parts; within = none };
        guessed = guessed;
      });
      is = record { begun_is = begun_none start; start = λ some. absurd (some refl) };
    }

    by_text : Begun log text → LeftOf ring guess place log text
    by_text (past_it n is) = record {
      n = n;
      rest = begun log n;
      left = inl is;
      is = record { begun_is = refl; start = λ some. refl };
    }
    by_text (in_head none fits) = elim (prefix_or text (log_text (empty_log ring place guess))) [
      | inl p ↦ lost guess p.0 p.1 none (λ piece. refl)
      | inr not ↦
          let good : IsLog (empty_log ring place log.initiator) =
          subst (λ (l : Log). IsLog l) (sym (begun_none log.initiator)) (begun_is_log log 0 valid) in
          let same : head_of log ≡ head_of (empty_log ring place log.initiator) =
          λ j. record { version = version j; nodes = nodes j; place = is_place j; initiator = log.initiator } in
          let own = fits (empty_log ring place log.initiator) good same in
          lost log.initiator own.0 own.1 none (λ piece. absurd (not piece.rest piece.parts))
    ]

-- ---- of all

lefts : (place : ℕ) (ring : LogHead) (guess : Bool) (texts : List (List ℕ)) (whole : List Log)
    → AllZip IsBegunText texts whole
    → ((i : ℕ) (log : Log) → slice_get whole i ≡ Some log → IsLog log × (log.version ≡ ring.version)
    × (log.nodes ≡ ring.nodes) × (log.place ≡ place + i))
    → (left : List Log) × (cut : List ℕ) × LeftTextsFrom place ring guess texts left × AreLeft whole cut left
lefts place ring guess [] [] are each = ([], [], tt, record { places = refl; each = λ i log at. cc })
lefts place ring guess [] (l ∷ ls) are each = absurd are
lefts place ring guess (t ∷ ts) [] are each = absurd are
lefts place ring guess (t ∷ ts) (l ∷ ls) are each =
    let h = each 0 l refl in
    let o = left_of_text ring guess place l t are.0.0 h.0 h.1 h.2 (omega (arith, h.3)) are.0.1 in
    let others = lefts (suc place) ring guess ts ls are.1 (λ i log at.
    (let x = each (suc i) log at in (x.0, x.1, x.2, omega (arith, x.3)))) in (
      o.rest ∷ others.0,
      o.n ∷ others.1,
      (o.left, others.2),
      record { places = ap suc others.3.places; each = more o others.0 others.1 others.3 },
    )
  where
    more : (o : LeftOf ring guess place l t) (left : List Log) (cut : List ℕ) → AreLeft ls cut left → (i : ℕ) (log : Log)
        → slice_get (l ∷ ls) i ≡ Some log
        → (rest : Log) × (slice_get (o.rest ∷ left) i ≡ Some rest) × IsLeft log (slice_index (o.n ∷ cut) i) rest
    more o left cut is zero log at =
        (let same : l ≡ log = cc in (o.rest, refl, subst (λ (x : Log). IsLeft x o.n o.rest) same o.is))
    more o left cut is (suc i) log at = is.each i log at

-- the first of the texts with a head is that of one of the logs
record First (texts : List (List ℕ)) (whole : List Log) : Type 0 where
  ring : Log
  records : RecordsLog texts ring
  i : ℕ
  log : Log
  at : slice_get whole i ≡ Some log
  version : ring.version ≡ log.version
  nodes : ring.nodes ≡ log.nodes

first_of : (texts : List (List ℕ)) (whole : List Log) → AllZip IsBegunText texts whole → EachLog whole (λ i log. IsLog log)
    → (number : ℕ) (text : List ℕ) → slice_get texts number ≡ Some text → (head : LogHead) (rest : List ℕ)
    → BeginsWithHead text head rest → First texts whole
first_of [] whole are valid number text at head rest has = absurd cc
first_of (t ∷ ts) [] are valid number text at head rest has = absurd are
first_of (t ∷ ts) (l ∷ ls) are valid number text at head rest has =
    by_text (begun_text l t are.0.0 (valid 0 l refl) are.0.1) (λ k there.
    first_of ts ls are.1 (λ i log h. valid (suc i) log h) k text there head rest has)
  where
    later : BeginsWithNoHead t → First ts ls → First (t ∷ ts) (l ∷ ls)
    later none f = record {
      ring = f.ring;
      records = record {
        number = suc f.records.number;
        text = f.records.text;
        at = f.records.at;
        recorded = f.records.recorded;
        first = before none f.records;
      };
      i = suc f.i;
      log = f.log;
      at = f.at;
      version = f.version;
      nodes = f.nodes;
    }
      where
        before : BeginsWithNoHead t → (r : RecordsLog ts f.ring) → (i : ℕ) (b : List ℕ) (o : Log) → i < suc r.number
            → slice_get (t ∷ ts) i ≡ Some b → IsRecordedText b o → ⊥
        before none r zero b o low there is =
            (let same : t ≡ b = cc in
            let h = begins t o (subst (λ x. IsRecordedText x o) (sym same) is) in none (head_of o) h.0 h.1)
        before none r (suc i) b o low there is = r.first i b o (omega arith) there is

    further : BeginsWithNoHead t → ((k : ℕ) → slice_get ts k ≡ Some text → First ts ls) → (k : ℕ)
        → slice_get (t ∷ ts) k ≡ Some text → First (t ∷ ts) (l ∷ ls)
    further none next zero there =
        (let same : t ≡ text = cc in
        absurd (none head rest (subst (λ x. BeginsWithHead x head rest) (sym same) has)))
    further none next (suc k) there = later none (next k there)

    by_text : Begun l t → ((k : ℕ) → slice_get ts k ≡ Some text → First ts ls) → First (t ∷ ts) (l ∷ ls)
    by_text (in_head none fits) next = further none next number at
    by_text (past_it n is) next = record {
      ring = begun l n;
      records = record {
        number = 0;
        text = t;
        at = refl;
        recorded = is;
        first = λ i b o low. absurd (omega arith);
      };
      i = 0;
      log = l;
      at = refl;
      version = refl;
      nodes = refl;
    }

cut_texts_left : (guess : Bool) (whole : List Log) (texts : List (List ℕ)) → AreLogs whole
    → AllZip IsBegunText texts whole → HasWholeHead texts
    → (left : List Log) × (cut : List ℕ) × AreLeftTexts guess texts left × AreLeft whole cut left
cut_texts_left guess whole texts are begun_are h =
    let f = first_of texts whole begun_are are.valid h.number h.text h.at h.head h.rest h.begins in
    let version : are.version ≡ f.ring.version = sym (f.version ∙ are.versions f.i f.log f.at) in
    let nodes : length whole ≡ f.ring.nodes = sym (f.nodes ∙ are.sizes f.i f.log f.at) in
    let l = lefts 0 (head_of f.ring) guess texts whole begun_are (λ i log at. (
      are.valid i log at,
      are.versions i log at ∙ version,
      are.sizes i log at ∙ nodes,
      omega (arith, are.places i log at),
    )) in
    (l.0, l.1, record { ring = f.ring; recorded = f.records; each = l.2 }, l.3)

-- ---- the laws

pub cut_texts_are_of_logs : CutTextsAreOfLogs
cut_texts_are_of_logs guess whole texts are begun_are head =
    let w = cut_texts_left guess whole texts are begun_are head in
    (w.0, w.2, left_are_logs whole w.1 w.0 are w.3)

left_whole : (guess : Bool) (whole left : List Log) (texts : List (List ℕ)) → AreLogs whole
    → AllZip IsBegunText texts whole → HasWholeHead texts → AreLeftTexts guess texts left → (cut : List ℕ)
    × AreLeft whole cut left
left_whole guess whole left texts are begun_are head is =
    let w = cut_texts_left guess whole texts are begun_are head in
    (w.1, subst (λ ls. AreLeft whole w.1 ls) (left_texts_are_one guess texts w.0 left w.2 is) w.3)

pub cut_texts_dont_differ : CutTextsDontDiffer
cut_texts_dont_differ guess whole left texts f are matches begun_are head is =
    (let w = left_whole guess whole left texts are begun_are head is in dont_differ whole left w.0 f matches w.1)

pub cut_texts_get_yes : CutTextsGetYes
cut_texts_get_yes guess whole left mended texts answered are order runs begun_are head is greatest texts_are =
    let w = left_whole guess whole left texts are begun_are head is in
    let r = runs_mended whole left mended w.0 w.1 greatest are order runs in
    yes mended (record { texts_are = texts_are; are_good = record { ring = r.0; order = r.1; runs = r.2 } }) refl
