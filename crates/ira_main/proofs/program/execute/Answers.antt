use Rattle.std.proofs.Common.{◌≡◌, Err, List, [], ◌∷◌, ℕ, ap, inr, refl, ◌∙◌}
use Rattle.std.proofs.lemmas.Result.{err_from_is_err_and}
use Rattle.ira_event.specs.Sink.{SinkState}
use Rattle.ira_main_cli.specs.declared.words_fault.WordsFault.TheVariants as fault
use Rattle.ira_main_files.specs.CountingReader.{Reads}
use Rattle.ira_main_files.specs.Shelf.{Reading, Writing}
use Rattle.ira_main.specs.Outcome.{Outcome}
use Rattle.ira_main.specs.Serve.{Serves}
use Rattle.ira_main.specs.Serve.CommandOutcome.{certified, recorded, refused}
use Rattle.ira_main.specs.Serve.Serves.{with_words, without_words}
use Rattle.ira_main.specs.declared.program_fault.ProgramFault.TheVariants.{OutOfMemory}
use Rattle.ira_main.proofs.Delivering.{told, told_and_recorded}
use Rattle.ira_main.proofs.program.execute.Goals as goal

-- memory may run out before anything is done
out_of_memory : (A : Type 0) {S : Type 0} (reads : Reading S) (writes : Writing S) (words : List (List ℕ))
    (input : Reads) (shelf : S) (out : SinkState) (outcome : Outcome A)
    → outcome ≡ Err OutOfMemory → Serves A reads writes words input input shelf shelf out out outcome
out_of_memory A reads writes [] input shelf out outcome is = without_words refl refl (inr (refl, inr is))
out_of_memory A reads writes (w ∷ ws) input shelf out outcome is =
    with_words (λ none. cc) refl (refused fault.OutOfMemory tt refl refl is)

pub returns-in_err-clone-clause-executed : goal.returns-in_err-clone-clause-executed
returns-in_err-clone-clause-executed g c =
    let p = err_from_is_err_and c.from_residual-in_err-clone.result c.from_residual-in_err-clone.ensures.1 in
    out_of_memory _ _ _ _ _ _ _ _ (p.1 ∙ ap (λ f. Err f) p.2)

pub returns-in_err-waiting-clause-executed : goal.returns-in_err-waiting-clause-executed
returns-in_err-waiting-clause-executed g c =
    let p = err_from_is_err_and c.from_residual.result c.from_residual.ensures.1 in
    out_of_memory _ _ _ _ _ _ _ _ (p.1 ∙ ap (λ f. Err f) p.2)

pub returns-in-Check-clause-executed : goal.returns-in-Check-clause-executed
returns-in-Check-clause-executed g c =
    let left = c.in-Check.ensures.served in
    let made = left.0 in
    let first = made.first in
    let same = left.1 in
    with_words (λ none. cc) same.input_is (certified _ made same.shelf_is
    (told _ _ _ _ _ _ (rw same.shelf_is at c.check_files.ensures) (rw same.out_is at c.deliver.ensures)))

pub returns-clause-executed : goal.returns-clause-executed
returns-clause-executed g c =
    let left = c.in-Run.ensures.served in
    let made = left.0 in
    let first = made.first in
    let same = left.2 in
    with_words (λ none. cc) same.input_is (recorded _ made
    (told_and_recorded _ _ _ _ _ _ _ _ _ _ c.record_run_on_threads-reply.ensures
    (rw (same.shelf_is, same.out_is) at c.record_and_deliver.ensures)))
