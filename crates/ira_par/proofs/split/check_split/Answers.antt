use Rattle.std.proofs.Common.{◌≡◌, ◌∙◌, ◌++◌, ◌∷◌, [], List, Ok, length, sym, ap, subst}
use Rattle.ira_event.specs.Log.{Log}
use Rattle.ira_cert.specs.declared.verdict.Verdict.TheVariants.{Yes, No}
use Rattle.ira_cert.specs.Queues.{AreQueues}
use Rattle.ira_par.specs.CandidateTable.{AreTables, AreBelow}
use Rattle.ira_par.specs.Task.{Task}
use Rattle.ira_par.proofs.Answered.{answered}
use Rattle.ira_par.proofs.Found.{only_task, one_yes, one_no}
use Rattle.ira_par.proofs.split.check_split.Goals as goal
use Rattle.ira_par.proofs.split.check_split.Goals.{After-judge_batch}

pub returns-then-depth-eq0-clause-yes : goal.returns-then-depth-eq0-clause-yes
returns-then-depth-eq0-clause-yes g c =
    let queues = c.in_ok-queues.ensures in
    answered c.args.ordered.now.logs c.args.logs.now c.requires.order c.args.case.now queues.different (λ logs case.
    AreQueues logs case c.in_ok-queues.queues.items) queues.queues c.args.section.now
    (Ok c.check_queues.result) c.check_queues.ensures Yes

pub returns-then-depth-eq0-clause-no : goal.returns-then-depth-eq0-clause-no
returns-then-depth-eq0-clause-no g c = λ f.
    let queues = c.in_ok-queues.ensures in
    answered c.args.ordered.now.logs c.args.logs.now c.requires.order c.args.case.now queues.different (λ logs case.
    AreQueues logs case c.in_ok-queues.queues.items) queues.queues c.args.section.now
    (Ok c.check_queues.result) c.check_queues.ensures (No f)

pub judge_batch-requires-clause-places : goal.judge_batch-requires-clause-places
judge_batch-requires-clause-places g c κs within = λ k other at.
    let task : Task = record { tables = c.in_ok-tables.tables.items; section = c.args.section.now } in
    let pushed : c.deref.result.now ≡ [] ++ task ∷ [] =
    c.deref.ensures.value ∙ c.in_ok-push.ensures.items
    ∙ ap (λ (ts : List Task). ts ++ task ∷ []) c.new-tasks.ensures.items in
    let one = only_task c.deref.result.now task other k pushed at in
    subst (λ (t : Task). AreBelow (length c.args.ordered.now.logs) t.tables) one
    (subst (λ (ls : List Log). AreBelow (length ls) task.tables) (sym c.requires.order) c.in_ok-tables.ensures.places)

-- what is answered of the only section
only : (g : _) (c : After-judge_batch g)
    → c.deref.result.now ≡ [] ++ record { tables = c.in_ok-tables.tables.items; section = c.args.section.now } ∷ []
only g c =
    let task : Task = record { tables = c.in_ok-tables.tables.items; section = c.args.section.now } in
    c.deref.ensures.value ∙ c.in_ok-push.ensures.items
    ∙ ap (λ (ts : List Task). ts ++ task ∷ []) c.new-tasks.ensures.items

pub returns-in-None-clause-yes : goal.returns-in-None-clause-yes
returns-in-None-clause-yes g c =
    let tables = c.in_ok-tables.ensures in
    let task : Task = record { tables = c.in_ok-tables.tables.items; section = c.args.section.now } in
    answered c.args.ordered.now.logs c.args.logs.now c.requires.order c.args.case.now tables.different (λ logs case.
    AreTables logs case c.in_ok-tables.tables.items) tables.tables c.args.section.now
    (Ok Yes) (one_yes c.args.ordered.now.logs c.deref.result.now task
    (only g (goal.at.returns-in-None-clause-yes g c).After-judge_batch) c.in_ok-found.found c.in_ok-found.ensures
    c.in-None.is) Yes

pub returns-in-None-clause-no : goal.returns-in-None-clause-no
returns-in-None-clause-no g c = λ f.
    let tables = c.in_ok-tables.ensures in
    let task : Task = record { tables = c.in_ok-tables.tables.items; section = c.args.section.now } in
    answered c.args.ordered.now.logs c.args.logs.now c.requires.order c.args.case.now tables.different (λ logs case.
    AreTables logs case c.in_ok-tables.tables.items) tables.tables c.args.section.now
    (Ok Yes) (one_yes c.args.ordered.now.logs c.deref.result.now task
    (only g (goal.at.returns-in-None-clause-no g c).After-judge_batch) c.in_ok-found.found c.in_ok-found.ensures
    c.in-None.is) (No f)

pub returns-clause-yes : goal.returns-clause-yes
returns-clause-yes g c =
    let tables = c.in_ok-tables.ensures in
    let task : Task = record { tables = c.in_ok-tables.tables.items; section = c.args.section.now } in
    answered c.args.ordered.now.logs c.args.logs.now c.requires.order c.args.case.now tables.different (λ logs case.
    AreTables logs case c.in_ok-tables.tables.items) tables.tables c.args.section.now
    (Ok (No c.in-Some.unsound.fault))
    (one_no c.args.ordered.now.logs c.deref.result.now task
    (only g (goal.at.returns-clause-yes g c).After-judge_batch) c.in_ok-found.found c.in_ok-found.ensures
    c.in-Some.unsound c.in-Some.is) Yes

pub returns-clause-no : goal.returns-clause-no
returns-clause-no g c = λ f.
    let tables = c.in_ok-tables.ensures in
    let task : Task = record { tables = c.in_ok-tables.tables.items; section = c.args.section.now } in
    answered c.args.ordered.now.logs c.args.logs.now c.requires.order c.args.case.now tables.different (λ logs case.
    AreTables logs case c.in_ok-tables.tables.items) tables.tables c.args.section.now
    (Ok (No c.in-Some.unsound.fault))
    (one_no c.args.ordered.now.logs c.deref.result.now task
    (only g (goal.at.returns-clause-no g c).After-judge_batch) c.in_ok-found.found c.in_ok-found.ensures
    c.in-Some.unsound c.in-Some.is) (No f)
