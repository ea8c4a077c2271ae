use Rattle.ira_commands.proofs.OneStatus.{one_status}
use Rattle.ira_commands.proofs.laws.replies_have_one_status.Goals as goal

pub returns : goal.returns
returns g c command given a b apart h k = one_status _ _ command given a b apart h k
