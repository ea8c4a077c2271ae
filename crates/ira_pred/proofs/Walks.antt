-- A text is read line by line after its head, and in one way.
use Rattle.std.proofs.Common.{◌≡◌, ◌≢◌, ◌<◌, ◌+◌, ℕ, suc, List, [], ◌∷◌, ◌++◌, length, refl, sym, ap, subst, ◌∙◌, arith}
use Rattle.std.proofs.Common.{append_assoc, length-append, inl, inr}
use Rattle.std.specs.Prelude.{All, AllPairs, codes}
use Rattle.std.proofs.lemmas.List.{append-nil}
use Rattle.std.proofs.lemmas.List.Elements.{All-nil, All-cons, All-head, All-tail}
use Rattle.ira_event.specs.NextLine.{HasNoLineFeed, cut, at_line}
use Rattle.ira_event.proofs.Pieces.{line_same, line_has_feed}
use Rattle.ira_pred.specs.declared.ask_fault.AskFault.{AskFault}
use Rattle.ira_pred.specs.Case.{Conjunct, IsConjunct, AreConjuncts, IsCase}
use Rattle.ira_pred.specs.Limits.{MAX_CASES}
use Rattle.ira_pred.specs.QuestionText.{IsClauseText, IsPlaced, IsConjunctLine, AreConjunctLines, AreCaseTexts}
use Rattle.ira_pred.specs.QuestionTextFault.{IsTooDeep, MayFollow, CaseLineFault, empty, too_many, no_place}
use Rattle.ira_pred.specs.QuestionTextFault.{wrong_place, too_deep, no_clause, trailing, NextLineFault, BeginsInCase}
use Rattle.ira_pred.specs.QuestionTextFault.{spot}
use Rattle.ira_pred.proofs.Depths.{clause_too_deep}
use Rattle.ira_pred.proofs.QuestionTexts.{placed_same, case_unplaced, end_unplaced, conjunct_same, conjunct_is_one_line}
use Rattle.ira_pred.proofs.QuestionTexts.{first_line}

-- what was read: the cases that are closed, and what the open one asks so far
pub record Reading : Type 0 where
  pub cases : List (List Conjunct)
  pub conjuncts : List Conjunct

-- a line that leads on
pub data Next (nodes : ℕ) (a : Reading) (line : List ℕ) (b : Reading) : Type 0 where
  closes : line ≡ codes "case" → a.conjuncts ≢ [] → length a.cases + 1 < MAX_CASES
      → b ≡ record { cases = a.cases ++ a.conjuncts ∷ []; conjuncts = [] } → Next nodes a line b
  asks : (c : Conjunct) → IsConjunctLine line c → IsConjunct nodes c → All (λ d. d.place < c.place) a.conjuncts
      → b ≡ record { cases = a.cases; conjuncts = a.conjuncts ++ c ∷ [] } → Next nodes a line b

-- these lines lead on from what was read, and this is left of the text
abbrev pub Walk : ℕ → List (List ℕ) → Reading → List ℕ → Reading → List ℕ → Type 0
Walk nodes [] a text b rest = (a ≡ b) × (text ≡ rest)
Walk nodes (line ∷ lines) a text b rest =
    (more : List ℕ) × (m : Reading) × (text ≡ line ++ codes "\n" ++ more) × HasNoLineFeed line × Next nodes a line m
    × Walk nodes lines m more b rest

-- no line leads on
abbrev pub Stops : ℕ → Reading → List ℕ → Type 0
Stops nodes b x = (line more : List ℕ) (m : Reading) → x ≡ line ++ codes "\n" ++ more → HasNoLineFeed line
    → Next nodes b line m → ⊥

-- ---- in one way

case_no_conjunct : (line : List ℕ) (c : Conjunct) → line ≡ codes "case" → IsConjunctLine line c → ⊥
case_no_conjunct line c is h = case_unplaced c.place h.0 (subst (λ t. IsPlaced t c.place h.0) is h.1)

end_no_conjunct : (line : List ℕ) (c : Conjunct) → line ≡ codes "end" → IsConjunctLine line c → ⊥
end_no_conjunct line c is h = end_unplaced c.place h.0 (subst (λ t. IsPlaced t c.place h.0) is h.1)

next_same : (nodes : ℕ) (a b d : Reading) (line : List ℕ) → Next nodes a line b → Next nodes a line d → b ≡ d
next_same nodes a b d line (closes is some few e) (closes is' some' few' e') = e ∙ sym e'
next_same nodes a b d line (closes is some few e) (asks c h good below e') = absurd (case_no_conjunct line c is h)
next_same nodes a b d line (asks c h good below e) (closes is some few e') = absurd (case_no_conjunct line c is h)
next_same nodes a b d line (asks c h good below e) (asks c' h' good' below' e') =
    e ∙ ap (λ x. record { cases = a.cases; conjuncts = a.conjuncts ++ x ∷ [] }) (conjunct_same line c c' h h') ∙ sym e'

pub walks_same : (nodes : ℕ) (ls ms : List (List ℕ)) (a b d : Reading) (text x y : List ℕ) → Walk nodes ls a text b x
    → Walk nodes ms a text d y → Stops nodes b x → Stops nodes d y → (b ≡ d) × (x ≡ y)
walks_same nodes [] [] a b d text x y h k s t = (sym h.0 ∙ k.0, sym h.1 ∙ k.1)
walks_same nodes [] (m ∷ ms) a b d text x y h k s t =
    absurd (s m k.0 k.1 (sym h.1 ∙ k.2) k.3 (subst (λ r. Next nodes r m k.1) h.0 k.4))
walks_same nodes (l ∷ ls) [] a b d text x y h k s t =
    absurd (t l h.0 h.1 (sym k.1 ∙ h.2) h.3 (subst (λ r. Next nodes r l h.1) k.0 h.4))
walks_same nodes (l ∷ ls) (m ∷ ms) a b d text x y h k s t =
    let lines = line_same l m h.0 k.0 h.3 k.3 (sym h.2 ∙ k.2) in
    let next : h.1 ≡ k.1 = next_same nodes a h.1 k.1 m (subst (λ w. Next nodes a w h.1) lines.0 h.4) k.4 in
    let walk = subst (λ r. Walk nodes ls r k.0 b x) next (subst (λ w. Walk nodes ls h.1 w b x) lines.1 h.5) in
    walks_same nodes ls ms k.1 b d k.0 x y walk k.5 s t

-- ---- what was read was read so

walk_on : (nodes : ℕ) (ls ms : List (List ℕ)) (a b d : Reading) (t u v : List ℕ) → Walk nodes ls a t b u
    → Walk nodes ms b u d v → (ns : List (List ℕ)) × Walk nodes ns a t d v
walk_on nodes [] ms a b d t u v h k =
    (ms, subst (λ r. Walk nodes ms r t d v) (sym h.0) (subst (λ w. Walk nodes ms b w d v) (sym h.1) k))
walk_on nodes (l ∷ ls) ms a b d t u v h k =
    let w = walk_on nodes ls ms h.1 b d h.0 u v h.5 k in
    (l ∷ w.0, (h.0, h.1, h.2, h.3, h.4, w.1))

pub All-back : {X : Type 0} (P : X → Type 0) (p xs : List X) → All P (p ++ xs) → All P xs
All-back P [] xs h = h
All-back P (y ∷ ys) xs h = All-back P ys xs (All-tail P y (ys ++ xs) h)

pub first-pairs : {X : Type 0} (R : X → X → Type 0) (x : X) (xs : List X) → AllPairs R (x ∷ xs) → All (R x) xs
first-pairs R x xs h = λ j e lt. h 0 (suc j) e (omega arith) (omega arith)

pub other-pairs : {X : Type 0} (R : X → X → Type 0) (x : X) (xs : List X) → AllPairs R (x ∷ xs) → AllPairs R xs
other-pairs R x xs h = λ i j e lt within. h (suc i) (suc j) e (omega arith) (omega arith)

pairs-before : {X : Type 0} (R : X → X → Type 0) (p : List X) (x : X) (xs : List X) → AllPairs R (p ++ (x ∷ xs))
    → All (λ d. R d x) p
pairs-before R [] x xs h = All-nil (λ d. R d x)
pairs-before R (y ∷ ys) x xs h =
    let first = All-head (R y) x xs (All-back (R y) ys (x ∷ xs) (first-pairs R y (ys ++ (x ∷ xs)) h)) in
    All-cons (λ d. R d x) y ys first (pairs-before R ys x xs (other-pairs R y (ys ++ (x ∷ xs)) h))

walk_lines : (nodes : ℕ) (cases : List (List Conjunct)) (p cs : List Conjunct) (lines x : List ℕ)
    → AreConjuncts nodes (p ++ cs) → AreConjunctLines lines cs
    → (ls : List (List ℕ)) × Walk nodes ls (record { cases = cases; conjuncts = p }) (lines
    ++ x) (record { cases = cases; conjuncts = p ++ cs }) x
walk_lines nodes cases p [] lines x good h =
    ([], (ap (λ q. record { cases = cases; conjuncts = q }) (sym (append-nil p)), ap (λ w. w ++ x) h))
walk_lines nodes cases p (c ∷ cs) lines x good h =
    let e : (p ++ c ∷ []) ++ cs ≡ p ++ (c ∷ cs) = append_assoc p (c ∷ []) cs in
    let w = walk_lines nodes cases (p ++ c ∷ []) cs h.1 x (subst (AreConjuncts nodes) (sym e) good) h.4 in
    let here = All-head (IsConjunct nodes) c cs (All-back (IsConjunct nodes) p (c ∷ cs) good.each) in
    let below = pairs-before (λ a b. a.place < b.place) p c cs good.rising in (
      h.0 ∷ w.0,
      (
        h.1 ++ x,
        record { cases = cases; conjuncts = p ++ c ∷ [] },
        first_line lines h.0 h.1 x h.2,
        conjunct_is_one_line h.0 c h.3,
        asks c h.3 here below refl,
        subst (λ q. Walk nodes w.0 (record { cases = cases; conjuncts = p ++ c ∷ [] }) (h.1
            ++ x) (record { cases = cases; conjuncts = q }) x) e w.1,
      ),
    )

-- a text after a `case` line is read on from these cases
pub record ReadsOn (nodes : ℕ) (done : List (List Conjunct)) (text : List ℕ) (b : Reading) (rest : List ℕ)
    : Type 0 where
  pub more : List ℕ
  pub parts : text ≡ codes "case\n" ++ more
  pub lines : List (List ℕ)
  pub walk : Walk nodes lines (record { cases = done; conjuncts = [] }) more b rest

regrouped : (first lines closed tail text : List ℕ) → text ≡ first ++ closed → first ≡ codes "case\n" ++ lines
    → text ++ tail ≡ codes "case\n" ++ (lines ++ (closed ++ tail))
regrouped first lines closed tail text p q = ap (λ w. w ++ tail) (p ∙ ap (λ w. w ++ closed) q) ∙ simp append_assoc

walk_cases : (nodes : ℕ) (done cases : List (List Conjunct)) (conjuncts : List Conjunct) (closed lines rest : List ℕ)
    → length done + length cases < MAX_CASES → All (IsCase nodes) cases → AreConjuncts nodes conjuncts
    → AreCaseTexts closed cases → AreConjunctLines lines conjuncts
    → ReadsOn nodes done (closed ++ (codes "case\n" ++ (lines ++ rest)))
    (record { cases = done ++ cases; conjuncts = conjuncts }) rest
walk_cases nodes done [] conjuncts closed lines rest few goods good h k =
    let w = walk_lines nodes done [] conjuncts lines rest good k in
    record {
      more = lines ++ rest;
      parts = ap (λ x. x ++ (codes "case\n" ++ (lines ++ rest))) h;
      lines = w.0;
      walk = subst (λ q. Walk nodes w.0 (record { cases = done; conjuncts = [] }) (lines
          ++ rest) (record { cases = q; conjuncts = conjuncts }) rest) (sym (append-nil done)) w.1;
    }
walk_cases nodes done (c ∷ cs) conjuncts closed lines rest few goods good h k =
    let tail = codes "case\n" ++ (lines ++ rest) in
    let case = All-head (IsCase nodes) c cs goods in
    let long = length-append done (c ∷ []) in
    let next = walk_cases nodes (done ++ c ∷ []) cs conjuncts h.1 lines rest (omega (arith, few, long))
    (All-tail (IsCase nodes) c cs goods) good h.4 k in
    let one = walk_lines nodes done [] c h.3.0 (h.1 ++ tail) case.conjuncts_are h.3.2 in
    let step : Walk nodes (codes "case" ∷ next.lines) (record { cases = done; conjuncts = c }) (h.1
    ++ tail) (record { cases = (done ++ c ∷ []) ++ cs; conjuncts = conjuncts }) rest = (
      next.more,
      record { cases = done ++ c ∷ []; conjuncts = [] },
      next.parts,
      refl,
      closes refl case.some (omega (arith, few)) refl,
      next.walk,
    ) in
    let all = walk_on nodes one.0 (codes "case" ∷ next.lines) _ _ _ _ _ _ one.1 step in record {
      more = h.3.0 ++ (h.1 ++ tail);
      parts = regrouped h.0 h.3.0 h.1 tail closed h.2 h.3.1;
      lines = all.0;
      walk = subst (λ q. Walk nodes all.0 (record { cases = done; conjuncts = [] }) (h.3.0
          ++ (h.1 ++ tail)) (record { cases = q; conjuncts = conjuncts }) rest) (append_assoc done (c ∷ []) cs) all.1;
    }

pub reads_on : (nodes : ℕ) (text : List ℕ) (cases : List (List Conjunct)) (conjuncts : List Conjunct) (rest : List ℕ)
    → BeginsInCase nodes text cases conjuncts rest
    → ReadsOn nodes [] text (record { cases = cases; conjuncts = conjuncts }) rest
reads_on nodes text cases conjuncts rest h =
    let e : text ≡ h.closed ++ (codes "case\n" ++ (h.lines ++ rest)) = h.parts ∙ simp append_assoc in
    subst (λ t. ReadsOn nodes [] t (record { cases = cases; conjuncts = conjuncts }) rest) (sym e)
    (walk_cases nodes [] cases conjuncts h.closed h.lines rest (omega (arith, h.count)) h.cases_are h.conjuncts_are
    h.closed_are h.lines_are)

-- ---- a line with a fault doesn't lead on

fault_stops : (nodes : ℕ) (b m : Reading) (line more : List ℕ) (f : AskFault)
    → CaseLineFault nodes (spot b.cases b.conjuncts) line more f → Next nodes b line m → ⊥
fault_stops nodes b m line more f (empty w none is) (closes c some few e) = some none
fault_stops nodes b m line more f (too_many w some many is) (closes c some' few e) = omega (arith, many, few)
fault_stops nodes b m line more f (no_place no_case no_end none is) (closes c some few e) = no_case c
fault_stops nodes b m line more f (wrong_place n t p bad is) (closes c some few e) =
    case_unplaced n t (subst (λ w. IsPlaced w n t) c p)
fault_stops nodes b m line more f (too_deep n t p may deep is) (closes c some few e) =
    case_unplaced n t (subst (λ w. IsPlaced w n t) c p)
fault_stops nodes b m line more f (no_clause n t p may shallow none is) (closes c some few e) =
    case_unplaced n t (subst (λ w. IsPlaced w n t) c p)
fault_stops nodes b m line more f (trailing w some follows is) (closes c some' few e) =
    let two : codes "case" ≡ codes "end" = sym c ∙ w in cc
fault_stops nodes b m line more f (empty (inl w) none is) (asks c h good below e) = case_no_conjunct line c w h
fault_stops nodes b m line more f (empty (inr w) none is) (asks c h good below e) = end_no_conjunct line c w h
fault_stops nodes b m line more f (too_many w some many is) (asks c h good below e) = case_no_conjunct line c w h
fault_stops nodes b m line more f (no_place no_case no_end none is) (asks c h good below e) = none c.place h.0 h.1
fault_stops nodes b m line more f (wrong_place n t p bad is) (asks c h good below e) =
    let s = placed_same line c.place n h.0 t h.1 p in
    bad (subst (MayFollow nodes (spot b.cases b.conjuncts)) s.0 (good.in_ring, below))
fault_stops nodes b m line more f (too_deep n t p may deep is) (asks c h good below e) =
    let s = placed_same line c.place n h.0 t h.1 p in
    let d = (clause_too_deep h.0 c.formula h.2).0 (subst IsTooDeep (sym s.1) deep) in
    omega (arith, d, good.deep)
fault_stops nodes b m line more f (no_clause n t p may shallow none is) (asks c h good below e) =
    let s = placed_same line c.place n h.0 t h.1 p in none c.formula (subst (λ w. IsClauseText w c.formula) s.1 h.2)
fault_stops nodes b m line more f (trailing w some follows is) (asks c h good below e) = end_no_conjunct line c w h

pub faults_stop : (nodes : ℕ) (b : Reading) (x : List ℕ) (f : AskFault)
    → NextLineFault (CaseLineFault nodes (spot b.cases b.conjuncts)) x f → Stops nodes b x
faults_stop nodes b x f (cut whole is) =
    λ line more m e feed next. line_has_feed line more (subst (λ t. HasNoLineFeed t) e whole)
faults_stop nodes b x f (at_line l rest p whole lf) =
    λ line more m e feed next. let s = line_same l line rest more whole feed (sym p ∙ e) in
    fault_stops nodes b m l rest f lf (subst (λ w. Next nodes b w m) (sym s.0) next)

at_end : (nodes : ℕ) (b m : Reading) (line : List ℕ) → line ≡ codes "end" → Next nodes b line m → ⊥
at_end nodes b m line is (closes c some few e) = let two : codes "case" ≡ codes "end" = sym c ∙ is in cc
at_end nodes b m line is (asks c h good below e) = end_no_conjunct line c is h

pub end_stops : (nodes : ℕ) (b : Reading) → Stops nodes b (codes "end\n")
end_stops nodes b = λ line more m e feed next. let s = line_same (codes "end") line [] more refl feed e in
    at_end nodes b m line (sym s.0) next
