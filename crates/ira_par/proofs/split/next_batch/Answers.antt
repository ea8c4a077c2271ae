use Rattle.std.proofs.Common.{◌≡◌, ◌+◌, ◌∷◌, [], ℕ, List, length, refl, sym, ap, ◌∙◌, subst, rules, arith}
use Rattle.std.proofs.lemmas.List.{length-append}
use Rattle.std.proofs.lemmas.Option.{slice_get_read}
use Rattle.ira_par.specs.Task.{Task, IsTaskOf}
use Rattle.ira_par.proofs.Found.{tasks_more}
use Rattle.ira_par.proofs.split.next_batch.Goals as goal

pub returns-then-entries-ge-FULL-clause-tasks : goal.returns-then-entries-ge-FULL-clause-tasks
returns-then-entries-ge-FULL-clause-tasks g c =
    let profiles = c.args.profiles.now in let cases = c.args.cases.now in let sections = c.args.sections.now in
    let task : Task = record { tables = c.in_ok-tables.tables.items; section = c.index-sections-number.result } in
    let is : IsTaskOf profiles cases sections c.loop-number.number task = record {
      case = c.index-cases-number.result;
      case_at = slice_get_read cases _ c.loop-number.number c.index-cases-number.result refl (search rules)
          c.index-cases-number.is;
      section_at = slice_get_read sections (length cases) c.loop-number.number c.index-sections-number.result
          (sym c.requires.number) (search rules) c.index-sections-number.is;
      different = c.in_ok-tables.ensures.different;
      places = c.in_ok-tables.ensures.places;
      tables = c.in_ok-tables.ensures.tables;
    } in
    tasks_more profiles cases sections c.args.first c.loop-number.batch.items c.push.new.self.items task
    c.in_ok-push.ensures.items c.loop-number.invariant.tasks
    (subst (λ (n : ℕ). IsTaskOf profiles cases sections n task) (sym c.loop-number.invariant.count) is)

pub loop-number-preserved : goal.loop-number-preserved
loop-number-preserved g c =
    let profiles = c.args.profiles.now in let cases = c.args.cases.now in let sections = c.args.sections.now in
    let task : Task = record { tables = c.in_ok-tables.tables.items; section = c.index-sections-number.result } in
    let is : IsTaskOf profiles cases sections c.loop-number.number task = record {
      case = c.index-cases-number.result;
      case_at = slice_get_read cases _ c.loop-number.number c.index-cases-number.result refl (search rules)
          c.index-cases-number.is;
      section_at = slice_get_read sections (length cases) c.loop-number.number c.index-sections-number.result
          (sym c.requires.number) (search rules) c.index-sections-number.is;
      different = c.in_ok-tables.ensures.different;
      places = c.in_ok-tables.ensures.places;
      tables = c.in_ok-tables.ensures.tables;
    } in
    let more : length c.push.new.self.items ≡ length c.loop-number.batch.items + 1 =
    ap (λ (ts : List Task). length ts) c.in_ok-push.ensures.items
    ∙ length-append c.loop-number.batch.items (task ∷ []) in
    record {
      tasks = tasks_more profiles cases sections c.args.first c.loop-number.batch.items c.push.new.self.items task
          c.in_ok-push.ensures.items c.loop-number.invariant.tasks
          (subst (λ (n : ℕ). IsTaskOf profiles cases sections n task) (sym c.loop-number.invariant.count) is);
      count = omega (arith, more, c.loop-number.invariant.count);
    }
