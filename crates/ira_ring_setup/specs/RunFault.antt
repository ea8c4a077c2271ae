-- The numbers by which the program names the faults of a run.
use Rattle.std.specs.Prelude.{ℕ}
use Rattle.ira_ring_setup.specs.declared.run_fault.RunFault.{RunFault}
use Rattle.ira_ring_setup.specs.declared.run_fault.RunFault.TheVariants.{Setup, OutOfMemory, Thread, NoEnd, Stranger, Double}
use Rattle.ira_ring_setup.specs.declared.run_fault.RunFault.TheVariants.{Closed}

-- the numbers of the faults
abbrev pub run_fault_number : RunFault → ℕ
run_fault_number Setup = 1
run_fault_number OutOfMemory = 2
run_fault_number Thread = 3
run_fault_number NoEnd = 4
run_fault_number Stranger = 5
run_fault_number Double = 6
run_fault_number Closed = 7
