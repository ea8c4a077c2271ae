use Rattle.std.proofs.Common.{refl}
use Rattle.ira_ring_setup.specs.Draws.{draws}
use Rattle.ira_commands.proofs.Runs.{rows_given}
use Rattle.ira_commands.proofs.asked_run.AskedRun.setup.Goals as goal

pub returns : goal.returns
returns g c =
    let lists = c.in_ok-draw_lists in
    let asked = c.args.self.now in
    let drawn = rows_given (λ v. v.items) (λ place. draws c.args.nodes asked.seed place asked.draws) lists.field-0.items
    c.args.nodes lists.ensures.number lists.ensures.lists in
    rw (c.in_ok-initiators.ensures, c.ring.ensures, drawn, c.requires.size, c.requires.terms) refl
