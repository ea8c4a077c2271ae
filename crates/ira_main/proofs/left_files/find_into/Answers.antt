use Rattle.std.proofs.Common.{inl}
use Rattle.ira_main.proofs.left_files.find_into.Goals as goal

pub returns-in-Ok : goal.returns-in-Ok
returns-in-Ok g c = inl c.in-Ok.ensures.read
