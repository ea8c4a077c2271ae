-- No question's text has the fault that memory ran out.
use Rattle.std.proofs.Common.{ℕ, List, inl, inr, sym, subst}
use Rattle.ira_event.proofs.NextLines.{next_fault_is}
use Rattle.ira_pred.specs.declared.ask_fault.AskFault.{AskFault}
use Rattle.ira_pred.specs.declared.ask_fault.AskFault.TheVariants as fault
use Rattle.ira_pred.specs.QuestionLaws.{NoTextIsOutOfMemory}
use Rattle.ira_pred.specs.QuestionTextFault.{FirstLineFault, no_case, other_line, Spot, spot, CaseLineFault, empty}
use Rattle.ira_pred.specs.QuestionTextFault.{too_many, no_place, wrong_place, too_deep, no_clause, trailing, CasesFault}
use Rattle.ira_pred.specs.QuestionTextFault.{before_cases, in_case, QuestionLinesFault, no_head, past_head}

-- a fault of what the text says
abbrev IsOfText : AskFault → Type 0
IsOfText fault.OutOfMemory = ⊥
IsOfText f = Unit {0}

first_line_fault : (line : List ℕ) (f : AskFault) → FirstLineFault line f → IsOfText f
first_line_fault line f (no_case a e) = subst IsOfText (sym e) tt
first_line_fault line f (other_line a b e) = subst IsOfText (sym e) tt

case_line_fault : (nodes : ℕ) (at : Spot) (line more : List ℕ) (f : AskFault) → CaseLineFault nodes at line more f
    → IsOfText f
case_line_fault nodes at line more f (empty a b e) = subst IsOfText (sym e) tt
case_line_fault nodes at line more f (too_many a b c e) = subst IsOfText (sym e) tt
case_line_fault nodes at line more f (no_place a b c e) = subst IsOfText (sym e) tt
case_line_fault nodes at line more f (wrong_place n text a b e) = subst IsOfText (sym e) tt
case_line_fault nodes at line more f (too_deep n text a b c e) = subst IsOfText (sym e) tt
case_line_fault nodes at line more f (no_clause n text a b c d e) = subst IsOfText (sym e) tt
case_line_fault nodes at line more f (trailing a b c e) = subst IsOfText (sym e) tt

cases_fault : (nodes : ℕ) (text : List ℕ) (f : AskFault) → CasesFault nodes text f → IsOfText f
cases_fault nodes text f (before_cases h) =
    next_fault_is fault.Cut _ IsOfText tt (λ line more. first_line_fault line) text f h
cases_fault nodes text f (in_case cases conjuncts rest b h) =
    next_fault_is fault.Cut _ IsOfText tt (case_line_fault nodes (spot cases conjuncts)) rest f h

lines_memory : (text : List ℕ) → QuestionLinesFault text fault.OutOfMemory → ⊥
lines_memory text (no_head a e) = absurd cc
lines_memory text (past_head nodes rest b h) = cases_fault nodes rest fault.OutOfMemory h

pub not_out_of_memory : NoTextIsOutOfMemory
not_out_of_memory text (inl a) = absurd cc
not_out_of_memory text (inr a) = lines_memory text a.1
