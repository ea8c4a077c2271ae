-- The run that words ask for.
use Rattle.std.specs.Prelude.{unwrap_or}
use Rattle.ira_commands.specs.declared.asked_run.AskedRun.{AskedRun}
use Rattle.ira_main_cli.specs.declared.run_request.RunRequest.{RunRequest}

-- all nodes are initiators where no number of them is named
abbrev pub run_of : RunRequest → AskedRun
run_of request = record {
  nodes = request.nodes;
  initiators = unwrap_or request.initiators request.nodes;
  seed = request.seed;
  draws = request.draws;
  cap = request.cap;
  terms = request.terms;
}
