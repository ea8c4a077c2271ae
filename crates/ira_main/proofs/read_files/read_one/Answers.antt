use Rattle.std.proofs.Common.{[], refl}
use Rattle.ira_main.proofs.read_files.read_one.Goals as goal

pub returns-in_ok-given : goal.returns-in_ok-given
returns-in_ok-given g c =
    rw (c.in-Some.is, c.in_ok-given.ensures) ([], _, (refl, rw c.if-branch.false at c.in_ok-read_into.ensures), refl)
