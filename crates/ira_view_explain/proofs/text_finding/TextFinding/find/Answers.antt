use Rattle.std.proofs.Common.{subst}
use Rattle.ira_event.specs.LogTextFault.{LogTextFault}
use Rattle.ira_view_explain.proofs.text_finding.TextFinding.find.Goals as goal

pub of_count-requires : goal.of_count-requires
of_count-requires c = subst (LogTextFault c.args.file.now.text.now) c.in-Count.is c.requires

pub of_trailing-requires : goal.of_trailing-requires
of_trailing-requires c = subst (LogTextFault c.args.file.now.text.now) c.in-Trailing.is c.requires
