use Rattle.std.proofs.Common.{◌∙◌, ap}
use Rattle.ira_view.specs.Status.{status_number}
use Rattle.ira_commands.proofs.Outputs.{json_written}
use Rattle.ira_commands.specs.JsonLines.{JsonLines}
use Rattle.ira_commands.proofs.json_lines.JsonLines.write.Goals as goal

pub returns : goal.returns
returns g c =
    let ring = ap (λ (l : JsonLines). l.ring) c.self.view_is in
    let events = ap (λ (l : JsonLines). l.has_events) c.self.view_is in
    json_written c.args.self.now c.number.result c.write_json.result _ _
    (c.number.ensures ∙ ap (λ (l : JsonLines). status_number l.status) c.self.view_is)
    (rw (c.named.ensures, ring, events) at c.write_json.ensures)
