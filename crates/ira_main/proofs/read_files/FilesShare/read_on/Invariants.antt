use Rattle.std.proofs.Common.{◌-◌, length}
use Rattle.ira_main.specs.FilesRead.{HasRead}
use Rattle.ira_main.proofs.read_files.FilesShare.read_on.Given as goal

abbrev pub invariant-loop-self : goal.invariant-loop-self
invariant-loop-self g l = HasRead g.F.TextSource.reads l.shelf l.keep l.names l.self.read l.self.logs

abbrev pub decreases-loop-self : goal.decreases-loop-self
decreases-loop-self g l = length l.names - l.self.read
