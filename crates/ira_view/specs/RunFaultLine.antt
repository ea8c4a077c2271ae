-- The line of a run that was refused, or came to nothing, on standard error.
use Rattle.std.specs.Prelude.{List, ℕ, ◌++◌, codes, decimal}
use Rattle.ira_ring_setup.specs.RunFault.{run_fault_number}
use Rattle.ira_ring_setup.specs.declared.run_fault.RunFault.{RunFault}

-- why, by its number
abbrev pub run_fault_text : RunFault → List ℕ
run_fault_text fault = codes "ira: run refused " ++ decimal (run_fault_number fault) ++ codes "\n"
