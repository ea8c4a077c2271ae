use Rattle.ira_commands.proofs.Served.{if_ok}
use Rattle.ira_commands.specs.Upgrade.UpgradesTexts.{no_ring, of_ring}
use Rattle.ira_commands.proofs.upgrade.upgrade_taken.Goals as goal

pub returns-in-Ok : goal.returns-in-Ok
returns-in-Ok g c = λ texts taken.
    let ring = c.in-Ok.ensures texts taken in
    if_ok c.tell_upgraded.result (λ reply told. of_ring c.in-Ok.logs ring.0 ring.1 told) c.tell_upgraded.ensures

pub of_answer-requires : goal.of_answer-requires
of_answer-requires g c = (rw c.in-Err-No.field-0-is at (c.in-Err-No.ensures c.requires.0 c.requires.1)).2

pub returns-in-Err-No : goal.returns-in-Err-No
returns-in-Err-No g c = λ texts taken.
    let why = rw c.in-Err-No.field-0-is at (c.in-Err-No.ensures texts taken) in
    if_ok c.of_answer.result (λ reply told. no_ring c.in-Err-No.reason why told) c.of_answer.ensures
