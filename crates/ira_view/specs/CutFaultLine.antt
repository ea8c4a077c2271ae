-- The line of numbers that are no consistent cut, on standard error.
use Rattle.std.specs.Prelude.{ℕ, List, ◌++◌, codes, decimal}
use Rattle.ira_order.specs.declared.event_at.EventAt.{EventAt}
use Rattle.ira_view_moment.specs.declared.cut_fault.CutFault.{CutFault}
use Rattle.ira_view_moment.specs.declared.cut_fault.CutFault.TheVariants.{LacksSending, NoCut}

-- the line of a receipt that is in the numbers, and whose sending isn't: of the one, and of the other
abbrev pub held_text : EventAt → List ℕ
held_text receipt =
    codes "ira: --at is not consistent: event " ++ decimal receipt.position
    ++ (codes " of node " ++ (decimal receipt.place ++ codes " is in it, and "))

abbrev pub lacking_text : EventAt → List ℕ
lacking_text sending =
    codes "event " ++ decimal sending.position
    ++ (codes " of node " ++ (decimal sending.place ++ codes ", the sending that it receives, is not\n"))

-- the line
abbrev pub cut_fault_text : CutFault → List ℕ
cut_fault_text NoCut = codes "ira: --at is no cut: one number for each node, at most as many as its events\n"
cut_fault_text (LacksSending receipt sending) = held_text receipt ++ lacking_text sending
