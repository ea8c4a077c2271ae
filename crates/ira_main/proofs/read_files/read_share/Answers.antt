use Rattle.std.proofs.Common.{[], arith}
use Rattle.ira_main.proofs.read_files.read_share.Goals as goal

pub read_on-requires : goal.read_on-requires
read_on-requires g c = (omega arith, ([], c.in_ok-new.ensures c.args.keep, tt))
