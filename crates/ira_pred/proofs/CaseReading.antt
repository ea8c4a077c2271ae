-- The cases of a question's text, gathered line by line.
use Rattle.std.proofs.Common.{◌≡◌, ◌≢◌, ◌≤◌, ◌<◌, ◌+◌, ℕ, suc, List, [], ◌∷◌, ◌++◌, length, Ok, ◌⊎◌, refl, sym, ap}
use Rattle.std.proofs.Common.{subst, ◌∙◌, arith, inl, inr, append_assoc, length-append}
use Rattle.std.specs.Prelude.{All, AllPairs, codes}
use Rattle.std.proofs.lemmas.List.{append-nil, map-append}
use Rattle.std.proofs.lemmas.List.Elements.{All-push, All-nil}
use Rattle.std.proofs.lemmas.List.Quantifiers.{all_pairs_push}
use Rattle.std.proofs.lemmas.List.Sums.{sum_by_push}
use Rattle.ira_event.specs.RingSize.{IsRingSize}
use Rattle.ira_pred.specs.declared.ask_fault.AskFault.{AskFault}
use Rattle.ira_pred.specs.declared.ask_fault.AskFault.TheVariants.{OutOfMemory}
use Rattle.ira_pred.specs.declared.case.PlacedClause.{PlacedClause}
use Rattle.ira_pred.specs.declared.question_line.QuestionLine.{QuestionLine}
use Rattle.ira_pred.specs.declared.question_line.QuestionLine.TheVariants as line
use Rattle.ira_pred.specs.Case.{Conjunct, IsConjunct, IsCase, IsCaseOfSomeRing}
use Rattle.ira_pred.specs.Limits.{MAX_CASES}
use Rattle.ira_pred.specs.PlacedClause.{conjunct, conjuncts}
use Rattle.ira_pred.specs.QuestionLines.{LinesLeft, ReadsLine, ReadsInCase, AreAllCases}
use Rattle.ira_pred.specs.QuestionText.{IsConjunctLine, AreConjunctLines, IsCaseText, AreCaseTexts}
use Rattle.ira_pred.specs.QuestionTextFault.{Spot, CaseLineFault, NextLineFault, BeginsInCase, lines_of, CasesFault}
use Rattle.ira_pred.specs.QuestionTextFault.{in_case}

-- these cases were read, and of one more these conjuncts
abbrev pub HasRead : ℕ → List ℕ → List (List Conjunct) → List Conjunct → LinesLeft → Type 0
HasRead nodes text cases asked left = BeginsInCase nodes text cases asked left.rest
    × (left.number ≡ 2 + lines_of cases + 1 + length asked + 1)

no_pairs : AllPairs (λ (a b : Conjunct). a.place < b.place) []
no_pairs = λ i j e lt within. absurd (omega (arith, within))

pub begins_case : (nodes : ℕ) (old new : LinesLeft) → old.number ≡ 3 → ReadsLine old new (codes "case")
    → HasRead nodes old.rest [] [] new
begins_case nodes old new three r = (
  record {
    closed = [];
    lines = [];
    closed_are = refl;
    lines_are = refl;
    count = omega arith;
    cases_are = All-nil (IsCase nodes);
    conjuncts_are = record { each = All-nil (IsConjunct nodes); rising = no_pairs };
    parts = r.rest;
  },
  omega (arith, r.number, three),
)

lines-push : (lines line : List ℕ) (cs : List Conjunct) (c : Conjunct) → AreConjunctLines lines cs
    → IsConjunctLine line c → AreConjunctLines (lines ++ line ++ codes "\n") (cs ++ c ∷ [])
lines-push lines line [] c h is =
    (line, [], ap (λ w. w ++ line ++ codes "\n") h ∙ sym (append-nil (line ++ codes "\n")), is, refl)
lines-push lines line (x ∷ xs) c h is = (
  h.0,
  h.1 ++ line ++ codes "\n",
  ap (λ w. w ++ line ++ codes "\n") h.2 ∙ simp append_assoc,
  h.3,
  lines-push h.1 line xs c h.4 is,
)

-- one more conjunct was read
pub more_asked : (nodes : ℕ) (text : List ℕ) (cases : List (List Conjunct)) (cs : List Conjunct) (c : Conjunct)
    (old new : LinesLeft) (line : List ℕ) → HasRead nodes text cases cs old → ReadsLine old new line
    → IsConjunctLine line c → IsConjunct nodes c → All (λ d. d.place < c.place) cs
    → HasRead nodes text cases (cs ++ c ∷ []) new
more_asked nodes text cases cs c old new line h r is good below = (
  record {
    closed = h.0.closed;
    lines = h.0.lines ++ line ++ codes "\n";
    closed_are = h.0.closed_are;
    lines_are = lines-push h.0.lines line cs c h.0.lines_are is;
    count = h.0.count;
    cases_are = h.0.cases_are;
    conjuncts_are = record {
      each = All-push (IsConjunct nodes) cs c h.0.conjuncts_are.each good;
      rising = all_pairs_push (λ a b. a.place < b.place) cs c h.0.conjuncts_are.rising below;
    };
    parts = h.0.parts ∙ ap (λ w. h.0.closed ++ codes "case\n" ++ h.0.lines ++ w) r.rest ∙ simp append_assoc;
  },
  omega (arith, length-append cs (c ∷ []), h.1, r.number),
)

texts-push : (front first : List ℕ) (cases : List (List Conjunct)) (c : List Conjunct) → AreCaseTexts front cases
    → IsCaseText first c → AreCaseTexts (front ++ first) (cases ++ c ∷ [])
texts-push front first [] c h is = (first, [], ap (λ w. w ++ first) h ∙ sym (append-nil first), is, refl)
texts-push front first (x ∷ xs) c h is =
    (h.0, h.1 ++ first, ap (λ w. w ++ first) h.2 ∙ append_assoc h.0 h.1 first, h.3, texts-push h.1 first xs c h.4 is)

case_of : (nodes : ℕ) (text : List ℕ) (cases : List (List Conjunct)) (cs : List Conjunct) (old : LinesLeft)
    → HasRead nodes text cases cs old → cs ≢ [] → IsCase nodes cs
case_of nodes text cases cs old h some = record { some = some; conjuncts_are = h.0.conjuncts_are }

pub case_of_ring : (nodes : ℕ) (text : List ℕ) (cases : List (List Conjunct)) (cs : List Conjunct) (old : LinesLeft)
    → IsRingSize nodes → HasRead nodes text cases cs old → cs ≢ [] → IsCaseOfSomeRing cs
case_of_ring nodes text cases cs old size h some = (nodes, size, case_of nodes text cases cs old h some)

-- the front of a text with one more case
closed_more : (text closed lines rest : List ℕ) → text ≡ closed ++ codes "case\n" ++ lines ++ rest
    → text ≡ (closed ++ (codes "case\n" ++ lines)) ++ rest
closed_more text closed lines rest p = p ∙ ap (λ w. w ++ rest) (append_assoc closed (codes "case\n") lines)

-- the line that begins one more case was read
pub more_cases : (nodes : ℕ) (text : List ℕ) (cases : List (List Conjunct)) (cs : List Conjunct) (old new : LinesLeft)
    → HasRead nodes text cases cs old → ReadsLine old new (codes "case") → cs ≢ [] → length cases + 1 < MAX_CASES
    → HasRead nodes text (cases ++ cs ∷ []) [] new
more_cases nodes text cases cs old new h r some few = (
  record {
    closed = h.0.closed ++ (codes "case\n" ++ h.0.lines);
    lines = [];
    closed_are = texts-push h.0.closed (codes "case\n" ++ h.0.lines) cases cs h.0.closed_are (
      h.0.lines,
      refl,
      h.0.lines_are,
    );
    lines_are = refl;
    count = omega (arith, length-append cases (cs ∷ []), few);
    cases_are = All-push (IsCase nodes) cases cs h.0.cases_are (case_of nodes text cases cs old h some);
    conjuncts_are = record { each = All-nil (IsConjunct nodes); rising = no_pairs };
    parts = begun;
  },
  omega (arith, sum_by_push (λ c. length c + 1) cases cs, h.1, r.number),
)
  where
    begun : text ≡ (h.0.closed ++ (codes "case\n" ++ h.0.lines)) ++ codes "case\n" ++ [] ++ new.rest
    begun = closed_more text h.0.closed h.0.lines old.rest h.0.parts
        ∙ ap (λ w. (h.0.closed ++ (codes "case\n" ++ h.0.lines)) ++ w) r.rest
        ∙ sym (append_assoc (h.0.closed ++ (codes "case\n" ++ h.0.lines)) (codes "case\n") new.rest)
        ∙ ap (λ w. w ++ new.rest) (sym (append-nil ((h.0.closed ++ (codes "case\n" ++ h.0.lines)) ++ codes "case\n")))

-- the end line follows, and ends the text
pub all_cases : (nodes : ℕ) (text : List ℕ) (cases : List (List Conjunct)) (cs : List Conjunct) (old : LinesLeft)
    → HasRead nodes text cases cs old → old.rest ≡ codes "end\n" → cs ≢ [] → AreAllCases nodes text (cases ++ cs ∷ [])
all_cases nodes text cases cs old h end some = record {
  front = h.0.closed ++ (codes "case\n" ++ h.0.lines);
  cases_are = texts-push h.0.closed (codes "case\n" ++ h.0.lines) cases cs h.0.closed_are (
    h.0.lines,
    refl,
    h.0.lines_are,
  );
  some = omega (arith, length-append cases (cs ∷ []));
  count = omega (arith, length-append cases (cs ∷ []), h.0.count);
  valid = All-push (IsCase nodes) cases cs h.0.cases_are (case_of nodes text cases cs old h some);
  parts = closed_more text h.0.closed h.0.lines old.rest h.0.parts
      ∙ ap (λ w. (h.0.closed ++ (codes "case\n" ++ h.0.lines)) ++ w) end;
}

spot_same : (k n : ℕ) (cases : ℕ) (cs : List Conjunct) → k ≡ n
    → ◌≡◌ {A = Spot} (record { number = k; cases = cases; conjuncts = cs })
    (record { number = n; cases = cases; conjuncts = cs })
spot_same k n cases cs e = ap (λ x. record { number = x; cases = cases; conjuncts = cs }) e

pub case_refused : (nodes : ℕ) (text : List ℕ) (cases : List (List Conjunct)) (cs : List Conjunct) (old : LinesLeft)
    (f : AskFault) → HasRead nodes text cases cs old
    → NextLineFault (CaseLineFault nodes (record { number = old.number; cases = length cases; conjuncts = cs }))
    old.rest f → CasesFault nodes text f
case_refused nodes text cases cs old f h d =
    in_case cases cs old.rest h.0
    (subst (λ s. NextLineFault (CaseLineFault nodes s) old.rest f) (spot_same old.number _ (length cases) cs h.1) d)

pub line_shorter : (old new : LinesLeft) (line : List ℕ) → ReadsLine old new line
    → suc (length new.rest) ≤ length old.rest
line_shorter old new line r =
    omega (arith, ap length r.rest, length-append (line ++ codes "\n") new.rest, length-append line (codes "\n"))

-- ---- what the reader's calls answered

pub begins_reading : (nodes : ℕ) (old new : LinesLeft) (cases : List (List Conjunct)) (cs : List Conjunct)
    → old.number ≡ 3 → ReadsLine old new (codes "case") → cases ≡ [] → cs ≡ [] → HasRead nodes old.rest cases cs new
begins_reading nodes old new cases cs three r p q =
    subst (λ x. HasRead nodes old.rest x cs new) (sym p)
    (subst (λ x. HasRead nodes old.rest [] x new) (sym q) (begins_case nodes old new three r))

abbrev pub at_line : ℕ → ℕ → List Conjunct → Spot
at_line number cases conjuncts = record { number = number; cases = cases; conjuncts = conjuncts }

module _ (nodes n : ℕ) (text : List ℕ) (cases : List (List Conjunct)) (cs ds : List Conjunct) (old new : LinesLeft)
    (h : HasRead nodes text cases cs old) (count : n ≡ length cases) (same : ds ≡ cs) where
  pub line_refused : (f : AskFault) → (f ≡ OutOfMemory)
      ⊎ NextLineFault (CaseLineFault nodes (at_line old.number n ds)) old.rest f → (f ≡ OutOfMemory)
      ⊎ CasesFault nodes text f
  line_refused f (inl e) = inl e
  line_refused f (inr d) =
      inr (case_refused nodes text cases cs old f h
      (subst (λ x. NextLineFault (CaseLineFault nodes (at_line old.number (length cases) x)) old.rest f) same
      (subst (λ k. NextLineFault (CaseLineFault nodes (at_line old.number k ds)) old.rest f) count d)))

  module _ {A : Type 0} (l : QuestionLine A) (read : ReadsInCase nodes (at_line old.number n ds) old new (Ok l)) where
    pub clause_was_read : (ps qs : List (PlacedClause A)) (p : PlacedClause A) → l ≡ line.Clause p → conjuncts ps ≡ cs
        → qs ≡ ps ++ p ∷ [] → HasRead nodes text cases (conjuncts qs) new
    clause_was_read ps qs p is asked pushed =
        let r = subst (λ x. ReadsInCase nodes (at_line old.number n ds) old new (Ok x)) is read in
        let more = more_asked nodes text cases cs (conjunct p) old new r.0 h r.1 r.2 r.3
        (subst (λ x. All (λ d. d.place < p.place) x) same r.4) in
        let gathered : conjuncts qs ≡ cs ++ conjunct p ∷ [] =
        ap conjuncts pushed ∙ map-append conjunct ps (p ∷ []) ∙ ap (λ x. x ++ conjunct p ∷ []) asked in
        subst (λ x. HasRead nodes text cases x new) (sym gathered) more

    pub case_may_close : l ≡ line.Case → IsRingSize nodes → IsCaseOfSomeRing cs
    case_may_close is size =
        let r = subst (λ x. ReadsInCase nodes (at_line old.number n ds) old new (Ok x)) is read in
        case_of_ring nodes text cases cs old size h (subst (λ x. x ≢ []) same r.1)

    pub case_was_closed : (zs : List (List Conjunct)) (c es : List Conjunct) → l ≡ line.Case → c ≡ cs
        → zs ≡ cases ++ c ∷ [] → es ≡ [] → HasRead nodes text zs es new
    case_was_closed zs c es is this pushed none =
        let r = subst (λ x. ReadsInCase nodes (at_line old.number n ds) old new (Ok x)) is read in
        let more = more_cases nodes text cases cs old new h r.0 (subst (λ x. x ≢ []) same r.1)
        (omega (arith, r.2, count)) in
        subst (λ x. HasRead nodes text x es new) (sym (pushed ∙ ap (λ x. cases ++ x ∷ []) this))
        (subst (λ x. HasRead nodes text (cases ++ cs ∷ []) x new) (sym none) more)

    pub last_may_close : l ≡ line.End → IsRingSize nodes → IsCaseOfSomeRing cs
    last_may_close is size =
        let r = subst (λ x. ReadsInCase nodes (at_line old.number n ds) old new (Ok x)) is read in
        case_of_ring nodes text cases cs old size h (subst (λ x. x ≢ []) same r.1)

    pub all_were_read : (zs : List (List Conjunct)) (c : List Conjunct) → l ≡ line.End → c ≡ cs → zs ≡ cases ++ c ∷ []
        → AreAllCases nodes text zs
    all_were_read zs c is this pushed =
        let r = subst (λ x. ReadsInCase nodes (at_line old.number n ds) old new (Ok x)) is read in
        let all = all_cases nodes text cases cs old h r.0 (subst (λ x. x ≢ []) same r.1) in
        subst (λ x. AreAllCases nodes text x) (sym (pushed ∙ ap (λ x. cases ++ x ∷ []) this)) all
