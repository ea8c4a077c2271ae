-- The words for why an event has no step.
use Rattle.std.specs.Prelude.{ℕ, List, codes}
use Rattle.ira_node.specs.declared.step_fault.StepFault.{StepFault}
use Rattle.ira_node.specs.declared.step_fault.StepFault.TheVariants.{Owes, NotOwed, NotChoosing, DrawRange, MustDraw}
use Rattle.ira_node.specs.declared.step_fault.StepFault.TheVariants.{Ended, HopPast, RoundLimit, HopLimit, NotLeader}
use Rattle.ira_node.specs.declared.step_fault.StepFault.TheVariants.{WrongReset, NotReset, TermLimit}

-- why an event has no step, in words
abbrev pub step_fault_words : StepFault → List ℕ
step_fault_words Owes = codes "owes"
step_fault_words NotOwed = codes "not owed"
step_fault_words NotChoosing = codes "not choosing"
step_fault_words DrawRange = codes "draw range"
step_fault_words MustDraw = codes "must draw"
step_fault_words Ended = codes "ended"
step_fault_words HopPast = codes "hop past"
step_fault_words RoundLimit = codes "round limit"
step_fault_words HopLimit = codes "hop limit"
step_fault_words NotLeader = codes "not leader"
step_fault_words WrongReset = codes "wrong reset"
step_fault_words NotReset = codes "not a reset"
step_fault_words TermLimit = codes "term limit"
