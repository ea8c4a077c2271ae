use Rattle.ira_event.proofs.Gathering.{one-fault, no-fault}
use Rattle.ira_event.proofs.logs.head_fault_is_one.Goals as goal

pub returns-clause-one : goal.returns-clause-one
returns-clause-one c = one-fault

pub returns-clause-none : goal.returns-clause-none
returns-clause-none c = no-fault
