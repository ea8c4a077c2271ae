use Rattle.std.proofs.Common.{◌≡◌, ◌<◌, ◌+◌, ◌^◌, ℕ, List, Option, Some, None, length, sym, subst, rules, arith}
use Rattle.std.proofs.lemmas.Option.{slice_get_within}
use Rattle.ira_event.specs.Log.{Log}
use Rattle.ira_par.specs.declared.unsound_section.UnsoundSection.{UnsoundSection}
use Rattle.ira_par.specs.Share.{HavePlaces}
use Rattle.ira_par.specs.CandidateTable.{AreBelow}
use Rattle.ira_par.specs.Task.{Task, IsFoundIn}
use Rattle.ira_par.specs.Sections.{AreSoundBefore}
use Rattle.ira_par.proofs.Found.{batch_sound, first_of_all}
use Rattle.ira_par.proofs.split.split_sections.Goals as goal

pub judge_batch-requires-clause-places : goal.judge_batch-requires-clause-places
judge_batch-requires-clause-places g c κs within =
    let logs = g.C.HappenedBefore.logs_of c.args.ordered.now in
    subst (λ (ts : List Task). HavePlaces (length logs) ts) (sym c.deref.ensures.value) (λ k task at.
    let is = c.in_ok-batch.ensures.tasks k task at in
    subst (λ (ls : List Log). AreBelow (length ls) task.tables) (sym c.requires.order) is.places)

pub overflow_add-result : goal.overflow_add-result
overflow_add-result g c =
    let logs = g.C.HappenedBefore.logs_of c.args.ordered.now in
    let tasks = c.in_ok-batch.batch.items in
    let there : IsFoundIn logs tasks c.in_ok-found.found =
    subst (λ (ts : List Task). IsFoundIn logs ts c.in_ok-found.found) c.deref.ensures.value c.in_ok-found.ensures in
    let found : IsFoundIn logs tasks (Some c.in-Some.unsound) =
    subst (λ (f : Option UnsoundSection). IsFoundIn logs tasks f) c.in-Some.is there in
    let l = slice_get_within tasks c.in-Some.unsound.section found.1.0 found.1.1 in
    let fits : length c.args.cases.now < 2 ^ 64 = search rules in
    omega (arith, l, c.in_ok-batch.ensures.room, fits)

pub returns-in-Some : goal.returns-in-Some
returns-in-Some g c =
    let logs = g.C.HappenedBefore.logs_of c.args.ordered.now in
    let tasks = c.in_ok-batch.batch.items in
    let unsound = c.in-Some.unsound in
    let there : IsFoundIn logs tasks c.in_ok-found.found =
    subst (λ (ts : List Task). IsFoundIn logs ts c.in_ok-found.found) c.deref.ensures.value c.in_ok-found.ensures in
    let some : IsFoundIn logs tasks (Some unsound) =
    subst (λ (f : Option UnsoundSection). IsFoundIn logs tasks f) c.in-Some.is there in
    let found : IsFoundIn c.args.profiles.now tasks (Some unsound) =
    subst (λ (ls : List Log). IsFoundIn ls tasks (Some unsound)) c.requires.order some in
    let l = slice_get_within tasks unsound.section found.1.0 found.1.1 in
    first_of_all c.args.profiles.now c.args.cases.now c.args.sections.now c.loop-first.first unsound.section
    unsound.fault tasks found.1.0 found.1.1 c.in_ok-batch.ensures.tasks found.1.2
    (batch_sound c.args.profiles.now c.args.cases.now c.args.sections.now c.loop-first.first unsound.section tasks
    (omega (arith, l)) c.in_ok-batch.ensures.tasks found.0 c.loop-first.invariant.before)

pub loop-first-preserved : goal.loop-first-preserved
loop-first-preserved g c =
    let logs = g.C.HappenedBefore.logs_of c.args.ordered.now in
    let tasks = c.in_ok-batch.batch.items in
    let there : IsFoundIn logs tasks c.in_ok-found.found =
    subst (λ (ts : List Task). IsFoundIn logs ts c.in_ok-found.found) c.deref.ensures.value c.in_ok-found.ensures in
    let none : IsFoundIn logs tasks None =
    subst (λ (f : Option UnsoundSection). IsFoundIn logs tasks f) c.in_default.is there in
    let found : IsFoundIn c.args.profiles.now tasks None =
    subst (λ (ls : List Log). IsFoundIn ls tasks None) c.requires.order none in
    let count : c.len-first.result ≡ length tasks =
    first_of (search rules, omega (arith, c.len-first.ensures, c.in_ok-batch.batch.ok)) in
    record {
      before = subst (λ (n : ℕ). AreSoundBefore (c.loop-first.first + n) c.args.profiles.now c.args.cases.now
          c.args.sections.now) (sym count)
          (batch_sound c.args.profiles.now c.args.cases.now c.args.sections.now c.loop-first.first (length tasks) tasks
          (omega arith) c.in_ok-batch.ensures.tasks found c.loop-first.invariant.before);
      within = omega (arith, c.in_ok-batch.ensures.room, count);
    }

pub returns : goal.returns
returns g c =
    let end : c.loop-first.first ≡ length c.args.sections.now =
    omega (arith, c.loop-first-test.false, c.loop-first.invariant.within, c.requires.number) in
    subst (λ (n : ℕ). AreSoundBefore n c.args.profiles.now c.args.cases.now c.args.sections.now) end
    c.loop-first.invariant.before
