-- Each text is a question's or has a fault.
use Rattle.std.proofs.Common.{◌≡◌, ◌≢◌, ◌≤◌, ◌<◌, ◌+◌, ℕ, zero, suc, List, [], ◌∷◌, ◌++◌, length, take, Option, Some}
use Rattle.std.proofs.Common.{None, ◌⊎◌, refl, arith, inl, inr, nat_eq}
use Rattle.std.specs.Prelude.{All, codes, position}
use Rattle.std.proofs.lemmas.List.Elements.{All-nil, All-cons, All-head, All-tail}
use Rattle.ira_event.specs.Limits.{MAX_NODES}
use Rattle.ira_event.specs.RingSize.{IsRingSize}
use Rattle.ira_event.specs.Scan.{after_word}
use Rattle.ira_event.proofs.RecordLines.{word-takes}
use Rattle.ira_pred.specs.declared.ask_fault.AskFault.{AskFault}
use Rattle.ira_pred.specs.declared.ask_fault.AskFault.TheVariants.{TooLong, Head, Line, Place, Depth, Empty, Cases, Cut}
use Rattle.ira_pred.specs.declared.ask_fault.AskFault.TheVariants.{Trailing}
use Rattle.ira_pred.specs.Case.{Conjunct}
use Rattle.ira_pred.specs.ClauseScan.{clause_at}
use Rattle.ira_pred.specs.Formula.{Formula, depth}
use Rattle.ira_pred.specs.Limits.{MAX_CASES}
use Rattle.ira_pred.specs.Question.{QuestionCases}
use Rattle.ira_pred.specs.QuestionLines.{LinesLeft, ReadsLine, ClauseFault, AreAllCases}
use Rattle.ira_pred.specs.QuestionScan.{head_at, place_at}
use Rattle.ira_pred.specs.QuestionText.{IsClauseText, IsQuestionText}
use Rattle.ira_pred.specs.QuestionTextFault.{IsTooDeep, Spot, CaseLineFault, NextLineFault, BeginsWithQuestionHead}
use Rattle.ira_pred.specs.QuestionTextFault.{CasesFault, before_cases, QuestionTextFault, no_head, past_head}
use Rattle.ira_pred.proofs.CaseReading.{HasRead, begins_case, more_asked, more_cases, all_cases, case_refused}
use Rattle.ira_pred.proofs.CaseReading.{line_shorter}
use Rattle.ira_pred.proofs.Depths.{deepest, too_deep_exactly}
use Rattle.ira_pred.proofs.QuestionHeads.{no_head as no_head_read, head_out_of_range, head_found}
use Rattle.ira_pred.proofs.QuestionReading.{cut_here, line_here, fault_no_case, fault_first_line, Follows}
use Rattle.ira_pred.proofs.QuestionReading.{fault_empty_case, fault_empty_end, fault_cases, fault_trailing}
use Rattle.ira_pred.proofs.QuestionReading.{fault_no_place, fault_place, fault_clause, no_clause_read, no_line_read}
use Rattle.ira_pred.proofs.QuestionReading.{conjunct_of, clause_read, last_line}
use Rattle.ira_pred.proofs.QuestionsRead.{asked_of, question_read}

-- ---- one or the other

below_or_not : (m n : ℕ) → (m < n) ⊎ (n ≤ m)
below_or_not m n = grind arith

empty_or_not : {X : Type 0} (xs : List X) → (xs ≡ []) ⊎ (xs ≢ [])
empty_or_not [] = inl refl
empty_or_not (x ∷ xs) = inr (λ e. absurd cc)

ring_or_not : (n : ℕ) → IsRingSize n ⊎ (¬ (IsRingSize n))
ring_or_not n = by_least (below_or_not n 2) (below_or_not MAX_NODES n)
  where
    by_least : (n < 2) ⊎ (2 ≤ n) → (MAX_NODES < n) ⊎ (n ≤ MAX_NODES) → IsRingSize n ⊎ (¬ (IsRingSize n))
    by_least (inl few) b = inr (λ h. omega (arith, few, h.0))
    by_least (inr least) (inl many) = inr (λ h. omega (arith, many, h.1))
    by_least (inr least) (inr most) = inl (least, most)

deep_or_not : (text : List ℕ) → IsTooDeep text ⊎ (¬ (IsTooDeep text))
deep_or_not text = by_depth (below_or_not 32 (deepest text))
  where
    by_depth : (32 < deepest text) ⊎ (deepest text ≤ 32) → IsTooDeep text ⊎ (¬ (IsTooDeep text))
    by_depth (inl deep) = inl ((too_deep_exactly text).1 deep)
    by_depth (inr flat) = inr (λ h. let deep = (too_deep_exactly text).0 h in omega (arith, deep, flat))

abbrev Below : ℕ → List Conjunct → Type 0
Below place cs = All (λ c. c.place < place) cs

all_below_or_not : (place : ℕ) (cs : List Conjunct) → Below place cs ⊎ (¬ (Below place cs))
all_below_or_not place [] = inl (All-nil (λ (c : Conjunct). c.place < place))
all_below_or_not place (c ∷ cs) = by_first (below_or_not c.place place) (all_below_or_not place cs)
  where
    by_first : (c.place < place) ⊎ (place ≤ c.place) → Below place cs ⊎ (¬ (Below place cs)) → Below place (c ∷ cs)
        ⊎ (¬ (Below place (c ∷ cs)))
    by_first (inl less) (inl others) = inl (All-cons (λ (d : Conjunct). d.place < place) c cs less others)
    by_first (inl less) (inr others) = inr (λ h. others (All-tail (λ (d : Conjunct). d.place < place) c cs h))
    by_first (inr high) b = inr (λ h. let less = All-head (λ (d : Conjunct). d.place < place) c cs h in
        omega (arith, less, high))

follows_or_not : (nodes place : ℕ) (cs : List Conjunct) → Follows nodes cs place ⊎ (¬ (Follows nodes cs place))
follows_or_not nodes place cs = by_ring (below_or_not place nodes) (all_below_or_not place cs)
  where
    by_ring : (place < nodes) ⊎ (nodes ≤ place) → Below place cs ⊎ (¬ (Below place cs)) → Follows nodes cs place
        ⊎ (¬ (Follows nodes cs place))
    by_ring (inl less) (inl below) = inl (less, below)
    by_ring (inl less) (inr none) = inr (λ h. none h.1)
    by_ring (inr high) b = inr (λ h. omega (arith, h.0, high))

-- ---- faults of the next line

complete_fault : (text : List ℕ) (fault : AskFault) → (f : AskFault) × NextLineFault (λ line more g. g ≡ fault) text f
complete_fault text fault = by_end (position (λ c. nat_eq c 10) text) refl
  where
    by_end : (o : Option ℕ) → position (λ c. nat_eq c 10) text ≡ o → (f : AskFault)
        × NextLineFault (λ line more g. g ≡ fault) text f
    by_end None e = (Cut, cut_here _ text Cut e refl)
    by_end (Some i) e = (fault, line_here _ text i fault e (λ more. refl))

after_place_fault : (number : ℕ) (text : List ℕ) → (f : AskFault)
    × NextLineFault (λ line more g. ClauseFault (Line number) number line g) text f
after_place_fault number text = by_end (position (λ c. nat_eq c 10) text) refl
  where
    by_depth : (i : ℕ) → position (λ c. nat_eq c 10) text ≡ Some i → IsTooDeep (take i text)
        ⊎ (¬ (IsTooDeep (take i text))) → (f : AskFault)
        × NextLineFault (λ line more g. ClauseFault (Line number) number line g) text f
    by_depth i e (inl deep) = (Depth number, line_here _ text i (Depth number) e (λ more. inl (deep, refl)))
    by_depth i e (inr flat) = (Line number, line_here _ text i (Line number) e (λ more. inr (flat, refl)))

    by_end : (o : Option ℕ) → position (λ c. nat_eq c 10) text ≡ o → (f : AskFault)
        × NextLineFault (λ line more g. ClauseFault (Line number) number line g) text f
    by_end None e = (Cut, cut_here _ text Cut e refl)
    by_end (Some i) e = by_depth i e (deep_or_not (take i text))

-- ---- after the head

-- it is all cases, or has a fault
abbrev CasesAnswer : ℕ → List ℕ → Type 0
CasesAnswer nodes text = ((cases : List (List Conjunct)) × AreAllCases nodes text cases)
    ⊎ ((f : AskFault) × CasesFault nodes text f)

abbrev left_of : List ℕ → ℕ → LinesLeft
left_of rest number = record { rest = rest; number = number }

abbrev Goes : ℕ → List ℕ → ℕ → Type 0
Goes nodes text k = (cases : List (List Conjunct)) (cs : List Conjunct) (rest : List ℕ) (number : ℕ) → length rest < k
    → HasRead nodes text cases cs (left_of rest number) → CasesAnswer nodes text

module _ (nodes : ℕ) (text : List ℕ) (small : nodes
    ≤ 255) (k : ℕ) (on : Goes nodes text k) (cases : List (List Conjunct)) (cs : List Conjunct) (rest : List ℕ)
    (number : ℕ) (few : length rest < suc k) (h : HasRead nodes text cases cs (left_of rest number)) where
  abbrev here : Spot
  here = record { number = number; cases = length cases; conjuncts = cs }

  refused : (f : AskFault) → NextLineFault (CaseLineFault nodes here) rest f → CasesAnswer nodes text
  refused f d = inr (f, case_refused nodes text cases cs (left_of rest number) f h d)

  module _ (place : ℕ) (t : List ℕ) (read : place_at rest ≡ Some (place, t)) where
    no_clause_here : Follows nodes cs place
        → ((g : Formula) (line more : List ℕ) → t ≡ line ++ codes "\n" ++ more → depth g ≤ 32 → IsClauseText line g → ⊥)
        → CasesAnswer nodes text
    no_clause_here may none = let d = after_place_fault number t in
        refused d.0 (fault_clause nodes here rest place t read small d.0 may none d.1)

    by_feed : (f : Formula) (remainder : List ℕ) (o : Option (List ℕ)) → Follows nodes cs place
        → clause_at 32 t ≡ Some (f, remainder) → after_word (codes "\n") remainder ≡ o → CasesAnswer nodes text
    by_feed f remainder None may is e = no_clause_here may (no_line_read t (f, remainder) is e)
    by_feed f remainder (Some after) may is e =
        let r = clause_read nodes rest place t (f, remainder) after read small may.0 is e in
        let line : ReadsLine (left_of rest number) (left_of after (number + 1)) r.line =
        record { rest = r.parts; number = refl } in
        let shorter = line_shorter (left_of rest number) (left_of after (number + 1)) r.line line in
        on cases (cs ++ conjunct_of place f ∷ []) after (number + 1) (omega (arith, shorter, few))
        (more_asked nodes text cases cs (conjunct_of place f) (left_of rest number) (left_of after (number + 1))
        r.line h line r.line_is r.good may.1)

    by_clause : (o : Option (Formula × List ℕ)) → Follows nodes cs place → clause_at 32 t ≡ o → CasesAnswer nodes text
    by_clause None may e = no_clause_here may (no_clause_read t e)
    by_clause (Some p) may e = by_feed p.0 p.1 (after_word (codes "\n") p.1) may e refl

    by_place : Follows nodes cs place ⊎ (¬ (Follows nodes cs place)) → CasesAnswer nodes text
    by_place (inl may) = by_clause (clause_at 32 t) may refl
    by_place (inr bad) = let d = complete_fault t (Place number) in
        refused d.0 (fault_place nodes here rest place t read small d.0 bad d.1)

  by_count : (after : List ℕ) → after_word (codes "case\n") rest ≡ Some after → cs ≢ [] → (length cases + 1 < MAX_CASES)
      ⊎ (MAX_CASES ≤ length cases + 1) → CasesAnswer nodes text
  by_count after e some (inr many) = refused Cases (fault_cases nodes here rest after e some many)
  by_count after e some (inl less) =
      let line : ReadsLine (left_of rest number) (left_of after (number + 1)) (codes "case") =
      record { rest = word-takes (codes "case\n") rest after e; number = refl } in
      let shorter = line_shorter (left_of rest number) (left_of after (number + 1)) (codes "case") line in
      on (cases ++ cs ∷ []) [] after (number + 1) (omega (arith, shorter, few))
      (more_cases nodes text cases cs (left_of rest number) (left_of after (number + 1)) h line some less)

  by_more : (after : List ℕ) → after_word (codes "end\n") rest ≡ Some after → cs ≢ [] → (after ≡ []) ⊎ (after ≢ [])
      → CasesAnswer nodes text
  by_more after e some (inl none) =
      inl (cases ++ cs ∷ [], all_cases nodes text cases cs (left_of rest number) h (last_line rest after e none) some)
  by_more after e some (inr more) = refused Trailing (fault_trailing nodes here rest after e some more)

  by_word : (a b : Option (List ℕ)) → place_at rest ≡ None → after_word (codes "case\n") rest ≡ a
      → after_word (codes "end\n") rest ≡ b → (cs ≡ []) ⊎ (cs ≢ []) → CasesAnswer nodes text
  by_word (Some after) b unplaced ea eb (inl none) =
      refused (Empty number) (fault_empty_case nodes here rest after ea none)
  by_word (Some after) b unplaced ea eb (inr some) = by_count after ea some (below_or_not (length cases + 1) MAX_CASES)
  by_word None (Some after) unplaced ea eb (inl none) =
      refused (Empty number) (fault_empty_end nodes here rest after eb none)
  by_word None (Some after) unplaced ea eb (inr some) = by_more after eb some (empty_or_not after)
  by_word None None unplaced ea eb c =
      let d = complete_fault rest (Line number) in refused d.0 (fault_no_place nodes here rest d.0 unplaced ea eb d.1)

  by_line : (o : Option (ℕ × List ℕ)) → place_at rest ≡ o → CasesAnswer nodes text
  by_line (Some p) e = by_place p.0 p.1 e (follows_or_not nodes p.0 cs)
  by_line None e = by_word (after_word (codes "case\n") rest) (after_word (codes "end\n") rest) e refl refl
      (empty_or_not cs)

reading_ends : (nodes : ℕ) (text : List ℕ) → nodes ≤ 255 → (k : ℕ) → Goes nodes text k
reading_ends nodes text small zero cases cs rest number few h = absurd (omega (arith, few))
reading_ends nodes text small (suc k) cases cs rest number few h =
    by_line nodes text small k (reading_ends nodes text small k) cases cs rest number few h (place_at rest) refl

cases_answer : (nodes : ℕ) (text : List ℕ) → nodes ≤ 255 → CasesAnswer nodes text
cases_answer nodes text small =
    by_word_first (after_word (codes "case\n") text) (after_word (codes "end\n") text) refl refl
  where
    by_word_first : (a b : Option (List ℕ)) → after_word (codes "case\n") text ≡ a → after_word (codes "end\n") text ≡ b
        → CasesAnswer nodes text
    by_word_first (Some after) b ea eb =
        let line : ReadsLine (left_of text 3) (left_of after 4) (codes "case") =
        record { rest = word-takes (codes "case\n") text after ea; number = refl } in
        reading_ends nodes text small (suc (length after)) [] [] after 4 (omega arith)
        (begins_case nodes (left_of text 3) (left_of after 4) refl line)
    by_word_first None (Some after) ea eb = inr (Cases, before_cases (fault_no_case text after eb))
    by_word_first None None ea eb =
        let d = complete_fault text (Line 3) in inr (d.0, before_cases (fault_first_line text 3 d.0 refl ea eb d.1))

-- ---- the whole text

abbrev TextAnswer : List ℕ → Type 0
TextAnswer text = ((q : QuestionCases) × IsQuestionText text q) ⊎ ((f : AskFault) × QuestionTextFault text f)

module _ (text : List ℕ) (short : length text ≤ 67108864) where
  headless : ((nodes : ℕ) (rest : List ℕ) → ¬ (BeginsWithQuestionHead text nodes rest)) → TextAnswer text
  headless none = inr (Head, inr (short, no_head none refl))

  by_cases : (nodes : ℕ) (rest : List ℕ) → BeginsWithQuestionHead text nodes rest → CasesAnswer nodes rest
      → TextAnswer text
  by_cases nodes rest h (inl a) =
      inl (asked_of nodes a.0, question_read text nodes nodes rest (left_of rest 3) a.0 short h refl refl a.1)
  by_cases nodes rest h (inr d) = inr (d.0, inr (short, past_head nodes rest h d.1))

  by_size : (p : ℕ × List ℕ) → head_at text ≡ Some p → IsRingSize p.0 ⊎ (¬ (IsRingSize p.0)) → TextAnswer text
  by_size p e (inl size) = by_cases p.0 p.1 (head_found text p.0 p.1 e size)
      (cases_answer p.0 p.1 (omega (arith, size.1)))
  by_size p e (inr bad) = headless (head_out_of_range text p.0 p.1 e bad)

  by_head : (o : Option (ℕ × List ℕ)) → head_at text ≡ o → TextAnswer text
  by_head None e = headless (no_head_read text e)
  by_head (Some p) e = by_size p e (ring_or_not p.0)

pub each_text : (text : List ℕ) → TextAnswer text
each_text text = by_length (below_or_not 67108864 (length text))
  where
    by_length : (67108864 < length text) ⊎ (length text ≤ 67108864) → TextAnswer text
    by_length (inl long) = inr (TooLong, inl (long, refl))
    by_length (inr short) = by_head text short (head_at text) refl
