-- What the reader of a question's text found, line by line.
use Rattle.std.proofs.Common.{◌≡◌, ◌≢◌, ◌≤◌, ◌<◌, ℕ, ◌+◌, List, [], ◌∷◌, ◌++◌, length, take, Option, Some, None, ◌⊎◌}
use Rattle.std.proofs.Common.{refl, sym, ap, subst, ◌∙◌, arith, inl, inr, nat_eq, append_assoc, length-append, true}
use Rattle.std.proofs.Common.{false, is_some, get_or, ◌-◌}
use Rattle.std.specs.Option.{option_map}
use Rattle.std.specs.Prelude.{All, AllPairs, codes, position}
use Rattle.std.proofs.lemmas.Bool.Decides.{nat_tests}
use Rattle.std.proofs.lemmas.List.{length-map, get_or-map}
use Rattle.std.proofs.lemmas.Option.{same_Some}
use Rattle.ira_event.specs.NextLine.{cut, at_line}
use Rattle.ira_event.specs.Numeral.{IsNumeral}
use Rattle.ira_event.specs.Scan.{kept, kept_at, after_word, Gives}
use Rattle.ira_event.proofs.LogReading.{no_line_end, line_end_at}
use Rattle.ira_event.proofs.Numerals.{Lacks-numeral}
use Rattle.ira_event.proofs.Pieces.{Lacks, Lacks-append}
use Rattle.ira_event.proofs.RecordLines.{bind_some, map_some, word-takes, word-again, kept-takes, kept-again}
use Rattle.ira_pred.specs.declared.ask_fault.AskFault.{AskFault}
use Rattle.ira_pred.specs.declared.ask_fault.AskFault.TheVariants.{Line, Place, Depth, Empty, Cases, Cut, Trailing}
use Rattle.ira_pred.specs.declared.ask_fault.AskFault.TheVariants.{OutOfMemory}
use Rattle.ira_pred.specs.declared.case.PlacedClause.{PlacedClause}
use Rattle.ira_pred.specs.Case.{Conjunct, IsConjunct}
use Rattle.ira_pred.specs.ClauseScan.{clause_at}
use Rattle.ira_pred.specs.Formula.{Formula, depth}
use Rattle.ira_pred.specs.Limits.{MAX_CASES}
use Rattle.ira_pred.specs.PlacedClause.{conjunct, conjuncts}
use Rattle.ira_pred.specs.QuestionLines.{LinesLeft, ReadsLine, ClauseFault}
use Rattle.ira_pred.specs.QuestionScan.{place_at}
use Rattle.ira_pred.specs.QuestionText.{IsClauseText, IsPlaced, IsConjunctLine}
use Rattle.ira_pred.specs.QuestionTextFault.{IsTooDeep, Spot, MayFollow, FirstLineFault, no_case, other_line}
use Rattle.ira_pred.specs.QuestionTextFault.{CaseLineFault, empty, too_many, no_place, wrong_place, too_deep, no_clause}
use Rattle.ira_pred.specs.QuestionTextFault.{trailing, NextLineFault}
use Rattle.ira_pred.proofs.ClausesScanned.{clause-takes, clause_in_range}
use Rattle.ira_pred.proofs.ClauseTexts.{clause-again}
use Rattle.ira_pred.proofs.Depths.{clause_too_deep}

-- ---- the next line's fault

next_fault : (F G : List ℕ → List ℕ → AskFault → Type 0) (text : List ℕ) (f : AskFault)
    → ((line more : List ℕ) → text ≡ line ++ codes "\n" ++ more → F line more f → G line more f)
    → NextLineFault F text f → NextLineFault G text f
next_fault F G text f step (cut whole is) = cut whole is
next_fault F G text f step (at_line line more p whole h) = at_line line more p whole (step line more p h)

pub cut_here : (F : List ℕ → List ℕ → AskFault → Type 0) (text : List ℕ) (f : AskFault)
    → position (λ c. nat_eq c 10) text ≡ None → f ≡ Cut → NextLineFault F text f
cut_here F text f e is = cut (no_line_end text e) is

pub line_here : (F : List ℕ → List ℕ → AskFault → Type 0) (text : List ℕ) (i : ℕ) (f : AskFault)
    → position (λ c. nat_eq c 10) text ≡ Some i → ((more : List ℕ) → F (take i text) more f) → NextLineFault F text f
line_here F text i f e h = let l = line_end_at text i e in at_line (take i text) l.more l.parts l.whole (h l.more)

no_word : (word text line more : List ℕ) → after_word (word ++ codes "\n") text ≡ None
    → text ≡ line ++ codes "\n" ++ more → line ≡ word → ⊥
no_word word text line more none parts is =
    let t : text ≡ (word ++ codes "\n") ++ more = parts ∙ ap (λ w. w ++ codes "\n" ++ more) is in
    let read = sym none ∙ ap (after_word (word ++ codes "\n")) t ∙ word-again (word ++ codes "\n") more in
    absurd cc

-- the fault of a line's end or of its depth, or the other
end_or_depth : (number : ℕ) (text : List ℕ) (f other : AskFault)
    → NextLineFault (λ line more g. ClauseFault other number line g) text f
    → (f ≡ other) ⊎ NextLineFault (λ line more g. IsTooDeep line × (g ≡ Depth number)) text f
end_or_depth number text f other (cut whole is) = inr (cut whole is)
end_or_depth number text f other (at_line line more p whole (inl h)) = inr (at_line line more p whole h)
end_or_depth number text f other (at_line line more p whole (inr h)) = inl h.1

-- ---- where the first case is due

pub fault_no_case : (text after : List ℕ) → after_word (codes "end\n") text ≡ Some after
    → NextLineFault (λ line more g. FirstLineFault line g) text Cases
fault_no_case text after e =
    at_line (codes "end") after (word-takes (codes "end\n") text after e) refl (no_case refl refl)

pub fault_first_line : (text : List ℕ) (k : ℕ) (f : AskFault) → k ≡ 3 → after_word (codes "case\n") text ≡ None
    → after_word (codes "end\n") text ≡ None → NextLineFault (λ line more g. g ≡ Line k) text f
    → NextLineFault (λ line more g. FirstLineFault line g) text f
fault_first_line text k f three unlike_case unlike_end h =
    next_fault _ _ text f (λ line more p is.
    other_line (no_word (codes "case") text line more unlike_case p)
    (no_word (codes "end") text line more unlike_end p) (is ∙ ap Line three)) h

-- ---- places

-- the place that was taken from the front
record Placed (text : List ℕ) (place : ℕ) (rest : List ℕ) : Type 0 where
  number : List ℕ
  n : ℕ
  parts : text ≡ number ++ codes ": " ++ rest
  is : IsNumeral number n
  kept_is : place ≡ kept n

place-takes : (text : List ℕ) (place : ℕ) (rest : List ℕ) → place_at text ≡ Some (place, rest) → Placed text place rest
place-takes text place rest e =
    let a = bind_some (kept_at text) (λ n. option_map (λ r. (n.0, r)) (after_word (codes ": ") n.1)) (place, rest) e in
    let m = map_some (after_word (codes ": ") a.0.1) (λ r. (a.0.0, r)) (place, rest) a.2 in
    let k = kept-takes text a.0 a.1 in
    let back = word-takes (codes ": ") a.0.1 m.0 m.1 ∙ ap (λ (q : ℕ × List ℕ). codes ": " ++ q.1) m.2 in record {
      number = k.text;
      n = k.n;
      parts = k.parts ∙ ap (λ w. k.text ++ w) back ∙ sym (append_assoc k.text (codes ": ") rest);
      is = k.is;
      kept_is = sym (ap (λ (q : ℕ × List ℕ). q.0) m.2) ∙ k.kept_is;
    }

place-again : (line : List ℕ) (n : ℕ) (text more : List ℕ) → IsPlaced line n text
    → place_at (line ++ codes "\n" ++ more) ≡ Some (kept n, text ++ codes "\n" ++ more)
place-again line n text more h =
    let after = text ++ codes "\n" ++ more in
    let regrouped : line ++ codes "\n" ++ more ≡ h.0 ++ (codes ": " ++ after) =
    ap (λ w. w ++ codes "\n" ++ more) h.1 ∙ simp append_assoc in
    ap place_at regrouped ∙ rw (kept-again h.0 n (codes ": " ++ after) h.2 refl) refl

unplaced : (text line more : List ℕ) → place_at text ≡ None → text ≡ line ++ codes "\n" ++ more → (n : ℕ) (t : List ℕ)
    → IsPlaced line n t → ⊥
unplaced text line more none p n t h = let e = sym none ∙ ap place_at p ∙ place-again line n t more h in absurd cc

-- the next line's fault, seen from after its place
past_place : (F G : List ℕ → List ℕ → AskFault
    → Type 0) (text : List ℕ) (place : ℕ) (rest : List ℕ) (f : AskFault) (t : Placed text place rest)
    → ((line more : List ℕ) → rest ≡ line ++ codes "\n" ++ more → IsPlaced (t.number ++ codes ": " ++ line) t.n line
    → F line more f → G (t.number ++ codes ": " ++ line) more f)
    → NextLineFault F rest f → NextLineFault G text f
past_place F G text place rest f t step (cut whole is) =
    let front = Lacks-append 10 t.number (codes ": ") (Lacks-numeral 10 t.number t.n (omega arith) t.is) refl in
    cut (subst (Lacks 10) (sym t.parts) (Lacks-append 10 (t.number ++ codes ": ") rest front whole)) is
past_place F G text place rest f t step (at_line line more p whole h) =
    let front = Lacks-append 10 t.number (codes ": ") (Lacks-numeral 10 t.number t.n (omega arith) t.is) refl in
    let parts : text ≡ (t.number ++ codes ": " ++ line) ++ codes "\n" ++ more =
    t.parts ∙ ap (λ w. t.number ++ codes ": " ++ w) p ∙ simp append_assoc in
    at_line (t.number ++ codes ": " ++ line) more parts (Lacks-append 10 (t.number ++ codes ": ") line front whole)
    (step line more p (t.number, refl, t.is) h)

-- ---- in a case

shallow : (line : List ℕ) (g : Formula) → ¬ (IsTooDeep line) → IsClauseText line g → depth g ≤ 32
shallow line g flat is =
    let few : ¬ (32 < depth g) = λ deep. flat ((clause_too_deep line g is).1 deep) in
    omega (arith, few)

-- at the spot a clause for this place may follow, which is `MayFollow` written out
abbrev pub Follows : ℕ → List Conjunct → ℕ → Type 0
Follows nodes conjuncts place = (place < nodes) × All (λ c. c.place < place) conjuncts

module _ (nodes : ℕ) (at : Spot) (text : List ℕ) where
  abbrev Fault : AskFault → Type 0
  Fault f = NextLineFault (CaseLineFault nodes at) text f

  pub fault_empty_case : (after : List ℕ) → after_word (codes "case\n") text ≡ Some after → at.conjuncts ≡ []
      → Fault (Empty at.number)
  fault_empty_case after e none =
      at_line (codes "case") after (word-takes (codes "case\n") text after e) refl (empty (inl refl) none refl)

  pub fault_empty_end : (after : List ℕ) → after_word (codes "end\n") text ≡ Some after → at.conjuncts ≡ []
      → Fault (Empty at.number)
  fault_empty_end after e none =
      at_line (codes "end") after (word-takes (codes "end\n") text after e) refl (empty (inr refl) none refl)

  pub fault_cases : (after : List ℕ) → after_word (codes "case\n") text ≡ Some after → at.conjuncts ≢ []
      → MAX_CASES ≤ at.cases + 1 → Fault Cases
  fault_cases after e some many =
      at_line (codes "case") after (word-takes (codes "case\n") text after e) refl (too_many refl some many refl)

  pub fault_trailing : (after : List ℕ) → after_word (codes "end\n") text ≡ Some after → at.conjuncts ≢ [] → after ≢ []
      → Fault Trailing
  fault_trailing after e some more =
      at_line (codes "end") after (word-takes (codes "end\n") text after e) refl (trailing refl some more refl)

  pub fault_no_place : (f : AskFault) → place_at text ≡ None → after_word (codes "case\n") text ≡ None
      → after_word (codes "end\n") text ≡ None → NextLineFault (λ line more g. g ≡ Line at.number) text f → Fault f
  fault_no_place f none unlike_case unlike_end h =
      next_fault _ _ text f (λ line more p is.
      no_place (no_word (codes "case") text line more unlike_case p)
      (no_word (codes "end") text line more unlike_end p) (unplaced text line more none p) is) h

  module _ (place : ℕ) (rest : List ℕ) (read : place_at text ≡ Some (place, rest)) (small : nodes ≤ 255) where
    pub fault_place : (f : AskFault) → ¬ (Follows nodes at.conjuncts place)
        → NextLineFault (λ line more g. g ≡ Place at.number) rest f → Fault f
    fault_place f bad h =
        let t = place-takes text place rest read in
        let wrong : ¬ (MayFollow nodes at t.n) = λ may. let same : t.n ≡ place =
        omega (arith, small, may.0, t.kept_is) in bad (subst (Follows nodes at.conjuncts) same may) in
        past_place _ _ text place rest f t (λ line more p placed is. wrong_place t.n line placed wrong is) h

    pub fault_clause : (f : AskFault) → Follows nodes at.conjuncts place
        → ((g : Formula) (line more : List ℕ) → rest ≡ line ++ codes "\n" ++ more → depth g ≤ 32 → IsClauseText line g
        → ⊥) → NextLineFault (λ line more g. ClauseFault (Line at.number) at.number line g) rest f → Fault f
    fault_clause f may none h =
        let t = place-takes text place rest read in
        let same : place ≡ t.n = omega (arith, small, may.0, t.kept_is) in
        let follows : MayFollow nodes at t.n = subst (Follows nodes at.conjuncts) same may in
        past_place _ _ text place rest f t (λ line more p placed h.
        by_depth t.n (t.number ++ codes ": " ++ line) line more p placed follows h) h
      where
        by_depth : (n : ℕ) (line0 line more : List ℕ) → rest ≡ line ++ codes "\n" ++ more → IsPlaced line0 n line
            → MayFollow nodes at n → ClauseFault (Line at.number) at.number line f → CaseLineFault nodes at line0 more f
        by_depth n line0 line more p placed follows (inl h) = too_deep n line placed follows h.0 h.1
        by_depth n line0 line more p placed follows (inr h) =
            no_clause n line placed follows h.0 (λ g is. none g line more p (shallow line g h.0 is) is) h.1

    -- where memory runs out within a clause, its line has no fault but one of its end and its depth
    pub fault_without_memory : (f : AskFault) → Follows nodes at.conjuncts place
        → NextLineFault (λ line more g. ClauseFault OutOfMemory at.number line g) rest f → (f ≡ OutOfMemory) ⊎ Fault f
    fault_without_memory f may h =
        let t = place-takes text place rest read in
        let same : place ≡ t.n = omega (arith, small, may.0, t.kept_is) in
        let follows : MayFollow nodes at t.n = subst (Follows nodes at.conjuncts) same may in
        elim (end_or_depth at.number rest f OutOfMemory h) [
          | inl none ↦ inl none
          | inr deep ↦ inr (past_place _ _ text place rest f t (λ line more p placed h.
              too_deep t.n line placed follows h.0 h.1) deep)
        ]

-- ---- what the scanner gave

pub gives_some : {X Y : Type 0} (view : X → Y) (o : Option X) (scanned : Option Y) → Gives view o scanned
    → true ≡ is_some o → (y : Y) × (scanned ≡ Some y)
gives_some view (Some x) scanned h e = (view x, h)
gives_some view None scanned h e = absurd cc

pub gives_none : {X Y : Type 0} (view : X → Y) (o : Option X) (scanned : Option Y) → Gives view o scanned
    → false ≡ is_some o → scanned ≡ None
gives_none view (Some x) scanned h e = absurd cc
gives_none view None scanned h e = h

-- ---- clauses

-- a line whose text is not read as a clause is no clause that is nested no deeper than 32
pub no_clause_read : (rest : List ℕ) → clause_at 32 rest ≡ None → (g : Formula) (line more : List ℕ)
    → rest ≡ line ++ codes "\n" ++ more → depth g ≤ 32 → IsClauseText line g → ⊥
no_clause_read rest none g line more p deep is =
    let e = sym none ∙ ap (clause_at 32) (p ∙ append_assoc line (codes "\n") more)
    ∙ clause-again g 32 line (codes "\n" ++ more) deep is refl in
    absurd cc

pub no_line_read : (rest : List ℕ) (q : Formula × List ℕ) → clause_at 32 rest ≡ Some q
    → after_word (codes "\n") q.1 ≡ None → (g : Formula) (line more : List ℕ) → rest ≡ line ++ codes "\n" ++ more
    → depth g ≤ 32 → IsClauseText line g → ⊥
no_line_read rest q read none g line more p deep is =
    let e = same_Some _ _ (sym read ∙ ap (clause_at 32) (p ∙ append_assoc line (codes "\n") more)
    ∙ clause-again g 32 line (codes "\n" ++ more) deep is refl) in
    let after : q.1 ≡ codes "\n" ++ more = ap (λ (x : Formula × List ℕ). x.1) e in
    let there = sym none ∙ ap (after_word (codes "\n")) after ∙ word-again (codes "\n") more in
    absurd cc

abbrev pub conjunct_of : ℕ → Formula → Conjunct
conjunct_of place f = record { place = place; formula = f }

-- the line of a clause that was read
pub record ClauseRead (nodes : ℕ) (text : List ℕ) (place : ℕ) (f : Formula) (after : List ℕ) : Type 0 where
  pub line : List ℕ
  pub parts : text ≡ line ++ codes "\n" ++ after
  pub line_is : IsConjunctLine line (conjunct_of place f)
  pub good : IsConjunct nodes (conjunct_of place f)

pub clause_read : (nodes : ℕ) (text : List ℕ) (place : ℕ) (rest : List ℕ) (q : Formula × List ℕ) (after : List ℕ)
    → place_at text ≡ Some (place, rest) → nodes ≤ 255 → place < nodes → clause_at 32 rest ≡ Some q
    → after_word (codes "\n") q.1 ≡ Some after → ClauseRead nodes text place q.0 after
clause_read nodes text place rest q after read small there is feed =
    let t = place-takes text place rest read in
    let same : t.n ≡ place = omega (arith, small, there, t.kept_is) in
    let k = clause-takes 32 rest q is in
    let back = k.parts ∙ ap (λ w. k.front ++ w) (word-takes (codes "\n") q.1 after feed) in record {
      line = t.number ++ codes ": " ++ k.front;
      parts = t.parts ∙ ap (λ w. t.number ++ codes ": " ++ w) back ∙ simp append_assoc;
      line_is = (k.front, (t.number, refl, subst (IsNumeral t.number) same t.is), k.is);
      good = record { in_ring = there; deep = k.deep; numbers = clause_in_range k.front q.0 k.is };
    }

-- the last of rising places is the highest
pub all_below : {A : Type 0} (ps : List (PlacedClause A)) (last : PlacedClause A) (place : ℕ)
    → AllPairs (λ a b. a.place < b.place) (conjuncts ps) → 0 < length ps → last ≡ get_or ps (length ps - 1) last
    → last.place < place → All (λ c. c.place < place) (conjuncts ps)
all_below {A = A} ps last place rising some is high k d within =
    at (before_or_last k (length ps) (omega (arith, within, length-map ps conjunct)))
  where
    before_or_last : (i n : ℕ) → i < n → (i < n - 1) ⊎ (i ≡ n - 1)
    before_or_last i n less = grind (arith, less)

    last_is : (get_or (conjuncts ps) (length ps - 1) d).place ≡ last.place
    last_is = ap (λ (x : Conjunct). x.place) (get_or-map conjunct ps (length ps - 1) last d (omega (arith, some)))
        ∙ ap (λ (x : PlacedClause A). x.place) (sym is)

    at : (k < length ps - 1) ⊎ (k ≡ length ps - 1) → (get_or (conjuncts ps) k d).place < place
    at (inl less) = let r = rising k (length ps - 1) d less (omega (arith, some, length-map ps conjunct)) in
        omega (arith, r, last_is, high)
    at (inr same) = omega (arith, ap (λ n. (get_or (conjuncts ps) n d).place) same, last_is, high)

pub last_below : {A : Type 0} (ps : List (PlacedClause A)) (last : PlacedClause A) (place : ℕ) → 0 < length ps
    → last ≡ get_or ps (length ps - 1) last → All (λ c. c.place < place) (conjuncts ps) → last.place < place
last_below ps last place some is h =
    let d = conjunct last in
    let there = h (length ps - 1) d (omega (arith, some, length-map ps conjunct)) in
    let same = ap (λ (x : Conjunct). x.place) (get_or-map conjunct ps (length ps - 1) last d (omega (arith, some)))
    ∙ ap (λ x. x.place) (sym is) in
    omega (arith, there, same)

pub gives_this : {X Y : Type 0} (view : X → Y) (o : Option X) (scanned : Option Y) (x : X) → Gives view o scanned
    → o ≡ Some x → scanned ≡ Some (view x)
gives_this view o scanned x h e = subst (λ p. Gives view p scanned) e h

pub gives_nothing : {X Y : Type 0} (view : X → Y) (o : Option X) (scanned : Option Y) → Gives view o scanned → o ≡ None
    → scanned ≡ None
gives_nothing view o scanned h e = subst (λ p. Gives view p scanned) e h

pub goes_on_clause : (nodes number : ℕ) (text : List ℕ) (place p : ℕ) (rest : List ℕ) (f : Formula)
    (remainder after : List ℕ) (asked : List Conjunct) (new : LinesLeft) → place_at text ≡ Some (place, rest)
    → nodes ≤ 255
    → p ≡ place → Follows nodes asked place
    → clause_at 32 rest ≡ Some (f, remainder) → after_word (codes "\n") remainder ≡ Some after
    → new ≡ record { rest = after; number = number + 1 }
    → (line : List ℕ) × ReadsLine (record { rest = text; number = number }) new line
    × IsConjunctLine line (conjunct_of p f) × IsConjunct nodes (conjunct_of p f) × All (λ d. d.place < p) asked
goes_on_clause nodes number text place p rest f remainder after asked new read small same may is feed on =
    let there : place_at text ≡ Some (p, rest) = read ∙ ap (λ n. Some (n, rest)) (sym same) in
    let follows : Follows nodes asked p = subst (Follows nodes asked) (sym same) may in
    let r = clause_read nodes text p rest (f, remainder) after there small follows.0 is feed in (
      r.line,
      record {
        rest = r.parts ∙ ap (λ (x : LinesLeft). r.line ++ codes "\n" ++ x.rest) (sym on);
        number = ap (λ (x : LinesLeft). x.number) on;
      },
      r.line_is,
      r.good,
      follows.1,
    )

pub clause_shorter : (nodes : ℕ) (text : List ℕ) (place : ℕ) (rest : List ℕ) (f : Formula) (remainder after : List ℕ)
    → place_at text ≡ Some (place, rest) → nodes ≤ 255 → place < nodes → clause_at 32 rest ≡ Some (f, remainder)
    → after_word (codes "\n") remainder ≡ Some after → length after + 1 ≤ length text
clause_shorter nodes text place rest f remainder after read small there is feed =
    let r = clause_read nodes text place rest (f, remainder) after read small there is feed in
    omega (arith, ap length r.parts, length-append (r.line ++ codes "\n") after, length-append r.line (codes "\n"))

pub none_below : {A : Type 0} (ps : List (PlacedClause A)) (place : ℕ) → length ps ≤ 0
    → All (λ c. c.place < place) (conjuncts ps)
none_below ps place none k d within = absurd (omega (arith, within, none, length-map ps conjunct))

pub none_asked : {A : Type 0} (ps : List (PlacedClause A)) → nat_eq (length ps) 0 ≡ true → conjuncts ps ≡ []
none_asked [] h = refl
none_asked (p ∷ ps) h = absurd (grind (arith, nat_tests))

pub some_asked : {A : Type 0} (ps : List (PlacedClause A)) → nat_eq (length ps) 0 ≡ false → conjuncts ps ≢ []
some_asked [] h q = absurd cc
some_asked (p ∷ ps) h q = absurd cc

pub last_line : (text after : List ℕ) → after_word (codes "end\n") text ≡ Some after → after ≡ [] → text ≡ codes "end\n"
last_line text after e none = word-takes (codes "end\n") text after e ∙ ap (λ w. codes "end\n" ++ w) none

-- what is asked of a node, by its parts
pub conjunct_at : (o : Option Conjunct) (place : ℕ) (formula : Formula) → option_map (λ c. c.place) o ≡ Some place
    → option_map (λ c. c.formula) o ≡ Some formula → o ≡ Some (record { place = place; formula = formula })
conjunct_at None place formula p f = cc
conjunct_at (Some c) place formula p f =
    let make : ℕ → Formula → Conjunct = λ a b. record { place = a; formula = b } in
    let a : c.place ≡ place = cc in
    let b : c.formula ≡ formula = cc in
    ap (λ n. Some (make n c.formula)) a ∙ ap (λ x. Some (make place x)) b
