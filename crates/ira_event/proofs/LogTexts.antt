-- A text is one log's or has one fault, never two answers.
use Rattle.std.proofs.Common.{◌≡◌, ◌≤◌, ℕ, ◌+◌, true, List, [], ◌∷◌, ◌++◌, ◌⊎◌, length, suc, refl, sym, ap, subst, ◌∙◌}
use Rattle.std.proofs.Common.{arith, inl, inr, append_assoc}
use Rattle.std.specs.Prelude.{codes}
use Rattle.std.specs.List.{list_all}
use Rattle.std.proofs.lemmas.List.{append-nil}
use Rattle.ira_event.specs.Limits.{MAX_RECORDS}
use Rattle.ira_event.specs.declared.event.Event.{Event}
use Rattle.ira_event.specs.declared.log_fault.LogFault.{LogFault}
use Rattle.ira_event.specs.declared.log_fault.LogFault.TheVariants.{Cut}
use Rattle.ira_event.specs.Event.{is_event, is_of_version}
use Rattle.ira_event.specs.LogText.{IsRecord, AreRecords, IsEnd}
use Rattle.ira_event.specs.LogTextFault.{BeginsWithRecords, LineFault, too_many, no_line, out_of_range, other_count}
use Rattle.ira_event.specs.LogTextFault.{trailing, RestFault, RecordsFault, AreAllRecords}
use Rattle.ira_event.specs.NextLine.{HasNoLineFeed, cut, at_line}
use Rattle.ira_event.proofs.NextLines.{next_faults_same}
use Rattle.ira_event.proofs.Numerals.{and_parts}
use Rattle.ira_event.proofs.Pieces.{line_same, line_has_feed}
use Rattle.ira_event.proofs.RecordLines.{record_is_one_line, end_is_one_line, record_same, end_same, end_no_record}
use Rattle.ira_event.proofs.RecordLines.{end_is_no_record}

-- ---- where the records end

-- no record within the limits stands in front
abbrev Stops : ℕ → ℕ → List ℕ → Type 0
Stops v k rest = (k ≡ MAX_RECORDS)
    ⊎ ((line more : List ℕ) (e : Event) → rest ≡ line ++ codes "\n" ++ more → IsRecord line e → is_event e ≡ true
    → is_of_version v e ≡ true → ⊥)

line_fault_stops : (v k : ℕ) (line more : List ℕ) (f : LogFault) → HasNoLineFeed line → LineFault v k line more f
    → Stops v k (line ++ codes "\n" ++ more)
line_fault_stops v k line more f whole (too_many many begins is) = inl many
line_fault_stops v k line more f whole (no_line few no_record no_end is) =
    inr (λ l m e p r good held. let s = line_same line l more m whole (record_is_one_line l e r) p in
    no_record e held (subst (λ t. IsRecord t e) (sym s.0) r))
line_fault_stops v k line more f whole (out_of_range e' few held' r' bad is) =
    inr (λ l m e p r good held. let s = line_same line l more m whole (record_is_one_line l e r) p in
    let q = ap is_event (record_same line e e' (subst (λ t. IsRecord t e) (sym s.0) r) r') in cc)
line_fault_stops v k line more f whole (other_count n end differs is) =
    inr (λ l m e p r good held. let s = line_same line l more m whole (record_is_one_line l e r) p in
    end_is_no_record line n e end (subst (λ t. IsRecord t e) (sym s.0) r))
line_fault_stops v k line more f whole (trailing end follows is) =
    inr (λ l m e p r good held. let s = line_same line l more m whole (record_is_one_line l e r) p in
    end_is_no_record line k e end (subst (λ t. IsRecord t e) (sym s.0) r))

fault_stops : (v k : ℕ) (rest : List ℕ) (f : LogFault) → RestFault v k rest f → Stops v k rest
fault_stops v k rest f (cut whole is) =
    inr (λ l m e p r good held. line_has_feed l m (subst (λ t. HasNoLineFeed t) p whole))
fault_stops v k rest f (at_line line more p whole lf) =
    subst (Stops v k) (sym p) (line_fault_stops v k line more f whole lf)

end_stops : (v k : ℕ) (end : List ℕ) → IsEnd end k → Stops v k (end ++ codes "\n")
end_stops v k end is =
    inr (λ l m e p r good held.
    let s = line_same end l [] m (end_is_one_line end k is) (record_is_one_line l e r) (append-nil (end ++ codes "\n")
    ∙ p) in
    end_is_no_record end k e is (subst (λ t. IsRecord t e) (sym s.0) r))

records_front : (a b c d x : List ℕ) → a ≡ b ++ codes "\n" ++ c → a ++ x ≡ d → b ++ codes "\n" ++ (c ++ x) ≡ d
records_front a b c d x p q = sym (append_assoc (b ++ codes "\n") c x) ∙ ap (λ w. w ++ x) (sym p) ∙ q

-- the records within the limits end in one place
records_same : (v k n1 n2 : ℕ) (r1 r2 x1 x2 : List ℕ) (es1 es2 : List Event) → AreRecords r1 es1 → AreRecords r2 es2
    → list_all is_event es1 ≡ true → list_all is_event es2 ≡ true → list_all (is_of_version v) es1 ≡ true
    → list_all (is_of_version v) es2 ≡ true
    → n1 ≡ k + length es1 → n2 ≡ k + length es2 → n1 ≤ MAX_RECORDS → n2 ≤ MAX_RECORDS → Stops v n1 x1 → Stops v n2 x2
    → r1 ++ x1 ≡ r2 ++ x2 → (es1 ≡ es2) × (x1 ≡ x2)
records_same v k n1 n2 r1 r2 x1 x2 [] [] a1 a2 g1 g2 w1 w2 c1 c2 l1 l2 s1 s2 e =
    (refl, ap (λ w. w ++ x1) (sym a1) ∙ e ∙ ap (λ w. w ++ x2) a2)
records_same v k n1 n2 r1 r2 x1 x2 [] (f ∷ fs) a1 a2 g1 g2 w1 w2 c1 c2 l1 l2 (inl many) s2 e =
    absurd (omega (arith, many, c2, l2, c1))
records_same v k n1 n2 r1 r2 x1 x2 [] (f ∷ fs) a1 a2 g1 g2 w1 w2 c1 c2 l1 l2 (inr none_there) s2 e =
    absurd (none_there a2.0 (a2.1 ++ x2) f
    (sym (records_front r2 a2.0 a2.1 (r1 ++ x1) x2 a2.2 (sym e) ∙ ap (λ w. w ++ x1) a1)) a2.3
    (and_parts (is_event f) (list_all is_event fs) g2).0
    (and_parts (is_of_version v f) (list_all (is_of_version v) fs) w2).0)
records_same v k n1 n2 r1 r2 x1 x2 (f ∷ fs) [] a1 a2 g1 g2 w1 w2 c1 c2 l1 l2 s1 (inl many) e =
    absurd (omega (arith, many, c2, l1, c1))
records_same v k n1 n2 r1 r2 x1 x2 (f ∷ fs) [] a1 a2 g1 g2 w1 w2 c1 c2 l1 l2 s1 (inr none_there) e =
    absurd (none_there a1.0 (a1.1 ++ x1) f
    (sym (records_front r1 a1.0 a1.1 (r2 ++ x2) x1 a1.2 e ∙ ap (λ w. w ++ x2) a2)) a1.3
    (and_parts (is_event f) (list_all is_event fs) g1).0
    (and_parts (is_of_version v f) (list_all (is_of_version v) fs) w1).0)
records_same v k n1 n2 r1 r2 x1 x2 (f ∷ fs) (h ∷ hs) a1 a2 g1 g2 w1 w2 c1 c2 l1 l2 s1 s2 e =
    let lines = line_same a1.0 a2.0 (a1.1 ++ x1) (a2.1
    ++ x2) (record_is_one_line a1.0 f a1.3) (record_is_one_line a2.0 h a2.3)
    (records_front r1 a1.0 a1.1 (r2 ++ x2) x1 a1.2 e ∙ sym (records_front r2 a2.0 a2.1 (r2 ++ x2) x2 a2.2 refl)) in
    let first : f ≡ h = record_same a2.0 f h (subst (λ t. IsRecord t f) lines.0 a1.3) a2.3 in
    let others = records_same v (suc k) n1 n2 a1.1 a2.1 x1 x2 fs hs a1.4 a2.4
    (and_parts (is_event f) (list_all is_event fs) g1).1 (and_parts (is_event h) (list_all is_event hs) g2).1
    (and_parts (is_of_version v f) (list_all (is_of_version v) fs) w1).1
    (and_parts (is_of_version v h) (list_all (is_of_version v) hs) w2).1
    (omega (arith, c1)) (omega (arith, c2)) l1 l2 s1 s2 lines.1 in
    (cc (first, others.0), others.1)

begins_same : (v : ℕ) (text : List ℕ) (es1 es2 : List Event) (x1 x2 : List ℕ) → BeginsWithRecords v text es1 x1
    → BeginsWithRecords v text es2 x2 → Stops v (length es1) x1 → Stops v (length es2) x2 → (es1 ≡ es2) × (x1 ≡ x2)
begins_same v text es1 es2 x1 x2 b1 b2 s1 s2 =
    records_same v 0 (length es1) (length es2) b1.records b2.records x1 x2 es1 es2 b1.records_are b2.records_are
    b1.numbers b2.numbers b1.held b2.held (omega arith) (omega arith) b1.count b2.count s1 s2 (sym b1.parts
    ∙ b2.parts)

-- ---- after the same records

line_faults_same : (v k : ℕ) (line more : List ℕ) (f g : LogFault) → LineFault v k line more f
    → LineFault v k line more g → f ≡ g
line_faults_same v k line more f g (too_many a b p) (too_many a' b' q) = p ∙ sym q
line_faults_same v k line more f g (too_many a b p) (no_line a' b' c' q) = absurd (a' a b)
line_faults_same v k line more f g (too_many a b p) (out_of_range e a' w' b' c' q) = absurd (a' a)
line_faults_same v k line more f g (too_many a b p) (other_count n a' b' q) = absurd (end_no_record v line n a' b)
line_faults_same v k line more f g (too_many a b p) (trailing a' b' q) = absurd (end_no_record v line k a' b)
line_faults_same v k line more f g (no_line a b c p) (too_many a' b' q) = absurd (a a' b')
line_faults_same v k line more f g (no_line a b c p) (no_line a' b' c' q) = p ∙ sym q
line_faults_same v k line more f g (no_line a b c p) (out_of_range e a' w' b' c' q) = absurd (b e w' b')
line_faults_same v k line more f g (no_line a b c p) (other_count n a' b' q) = absurd (c n a')
line_faults_same v k line more f g (no_line a b c p) (trailing a' b' q) = absurd (c k a')
line_faults_same v k line more f g (out_of_range e a w b c p) (too_many a' b' q) = absurd (a a')
line_faults_same v k line more f g (out_of_range e a w b c p) (no_line a' b' c' q) = absurd (b' e w b)
line_faults_same v k line more f g (out_of_range e a w b c p) (out_of_range e' a' w' b' c' q) = p ∙ sym q
line_faults_same v k line more f g (out_of_range e a w b c p) (other_count n a' b' q) =
    absurd (end_is_no_record line n e a' b)
line_faults_same v k line more f g (out_of_range e a w b c p) (trailing a' b' q) =
    absurd (end_is_no_record line k e a' b)
line_faults_same v k line more f g (other_count n a b p) (too_many a' b' q) = absurd (end_no_record v line n a b')
line_faults_same v k line more f g (other_count n a b p) (no_line a' b' c' q) = absurd (c' n a)
line_faults_same v k line more f g (other_count n a b p) (out_of_range e a' w' b' c' q) =
    absurd (end_is_no_record line n e a b')
line_faults_same v k line more f g (other_count n a b p) (other_count n' a' b' q) = p ∙ sym q
line_faults_same v k line more f g (other_count n a b p) (trailing a' b' q) = absurd (b (end_same line n k a a'))
line_faults_same v k line more f g (trailing a b p) (too_many a' b' q) = absurd (end_no_record v line k a b')
line_faults_same v k line more f g (trailing a b p) (no_line a' b' c' q) = absurd (c' k a)
line_faults_same v k line more f g (trailing a b p) (out_of_range e a' w' b' c' q) =
    absurd (end_is_no_record line k e a b')
line_faults_same v k line more f g (trailing a b p) (other_count n a' b' q) = absurd (b' (end_same line n k a' a))
line_faults_same v k line more f g (trailing a b p) (trailing a' b' q) = p ∙ sym q

line_fault_no_end : (v k : ℕ) (line : List ℕ) (f : LogFault) → LineFault v k line [] f → IsEnd line k → ⊥
line_fault_no_end v k line f (too_many a b p) end = end_no_record v line k end b
line_fault_no_end v k line f (no_line a b c p) end = c k end
line_fault_no_end v k line f (out_of_range e a w b c p) end = end_is_no_record line k e end b
line_fault_no_end v k line f (other_count n a b p) end = b (end_same line n k a end)
line_fault_no_end v k line f (trailing a b p) end = b refl

rest_fault_no_end : (v k : ℕ) (rest end : List ℕ) (f : LogFault) → RestFault v k rest f → IsEnd end k
    → rest ≡ end ++ codes "\n" → ⊥
rest_fault_no_end v k rest end f (cut a p) is e =
    line_has_feed end [] (subst (λ t. HasNoLineFeed t) (e ∙ sym (append-nil (end ++ codes "\n"))) a)
rest_fault_no_end v k rest end f (at_line l m p w h) is e =
    let s = line_same l end m [] w (end_is_one_line end k is) (sym p ∙ e ∙ sym (append-nil (end ++ codes "\n"))) in
    line_fault_no_end v k end f (subst (λ t. LineFault v k t [] f) s.0 (subst (λ t. LineFault v k l t f) s.1 h)) is

pub records_faults_same : (v : ℕ) (text : List ℕ) (f g : LogFault) → RecordsFault v text f → RecordsFault v text g
    → f ≡ g
records_faults_same v text f g a b =
    let s = begins_same v text a.events b.events a.rest b.rest a.begins b.begins
    (fault_stops v (length a.events) a.rest f a.fault) (fault_stops v (length b.events) b.rest g b.fault) in
    next_faults_same Cut (LineFault v (length b.events)) (line_faults_same v (length b.events)) b.rest f g
    (subst (λ es. RestFault v (length es) b.rest f) s.0
    (subst (λ x. RestFault v (length a.events) x f) s.1 a.fault)) b.fault

pub records_fault_not_all : (v : ℕ) (text : List ℕ) (es : List Event) (f : LogFault) → RecordsFault v text f
    → AreAllRecords v text es → ⊥
records_fault_not_all v text es f a b =
    let s = begins_same v text a.events es a.rest (b.end
    ++ codes "\n") a.begins b.begins (fault_stops v (length a.events) a.rest f a.fault)
    (end_stops v (length es) b.end b.end_is) in
    rest_fault_no_end v (length a.events) a.rest b.end f a.fault
    (subst (λ xs. IsEnd b.end (length xs)) (sym s.0) b.end_is) s.1

pub all_records_same : (v : ℕ) (text : List ℕ) (es fs : List Event) → AreAllRecords v text es → AreAllRecords v text fs
    → es ≡ fs
all_records_same v text es fs a b =
    let s = begins_same v text es fs (a.end ++ codes "\n") (b.end
    ++ codes "\n") a.begins b.begins (end_stops v (length es) a.end a.end_is)
    (end_stops v (length fs) b.end b.end_is) in
    s.0
