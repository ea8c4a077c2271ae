use Rattle.ira_commands.proofs.show.tell_fault.Goals as goal

pub of_answer_as-requires : goal.of_answer_as-requires
of_answer_as-requires g c = rw c.in-No.is at c.requires

pub returns-in-No : goal.returns-in-No
returns-in-No g c = rw c.in-No.is c.of_answer_as.ensures

pub returns-in-Cut : goal.returns-in-Cut
returns-in-Cut g c = rw c.in-Cut.is c.refused.ensures
