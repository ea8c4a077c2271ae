use Rattle.ira_main.proofs.GivenFiles.{of_given}
use Rattle.ira_main.proofs.upgrade_files.upgrade_files.Goals as goal

pub upgrade_taken-requires : goal.upgrade_taken-requires
upgrade_taken-requires g c = let h = rw c.in-Ok.is at c.in_ok-given.ensures in (h.texts, h.found.0)

pub returns-in_ok-upgrade_taken-in-Ok : goal.returns-in_ok-upgrade_taken-in-Ok
returns-in_ok-upgrade_taken-in-Ok g c =
    let h = rw (c.asking-inputs.ensures, c.in-Ok.is) at c.in_ok-given.ensures in
    of_given _ _ _ _ _ _ _ c.in-Ok.given _ _ h (c.in_ok-upgrade_taken-in-Ok.ensures h.texts h.found.0)

pub returns-in-Err : goal.returns-in-Err
returns-in-Err g c = rw (c.asking-inputs.ensures, c.in-Err.is) at c.in_ok-given.ensures
