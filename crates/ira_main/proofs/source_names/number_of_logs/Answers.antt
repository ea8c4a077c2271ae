use Rattle.ira_main.specs.SourceNames.SaysLogs.{of_head}
use Rattle.ira_main.proofs.source_names.number_of_logs.Goals as goal

pub returns-in-Ok : goal.returns-in-Ok
returns-in-Ok c = of_head c.in-Ok.head c.in-Ok.field-0-1.rest c.in-Ok.ensures.0 c.in-Ok.ensures.1 c.get.ensures.value
