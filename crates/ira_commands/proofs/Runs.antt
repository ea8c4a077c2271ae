-- What is told of a run.
use Rattle.std.proofs.Common.{◌≡◌, ◌∙◌, ◌<◌, ◌↔◌, ◌⊎◌, Bool, Err, IfOk, List, [], ◌∷◌, Ok, OnOk, Result, ap, arith, false}
use Rattle.std.proofs.Common.{get_or, inl, inr, length, refl, suc, true, zero, ℕ}
use Rattle.std.proofs.lemmas.List.{length-map}
use Rattle.std.proofs.lemmas.List.FromFn.{fill_by_all}
use Rattle.std.specs.Prelude.{◌≢◌, IfErr, IfSome, map, slice_get}
use Rattle.std.specs.List.{range_with_len}
use Rattle.ira_event.specs.RingSize.{IsRingSize}
use Rattle.ira_ring.specs.SeededRing.{setup_of}
use Rattle.ira_ring_setup.specs.Run.{Run}
use Rattle.ira_ring_setup.specs.Setup.{KeepsRules, Setup}
use Rattle.ira_ring_setup.specs.declared.run_fault.RunFault.{RunFault}
use Rattle.ira_ring_setup.specs.declared.run_fault.RunFault.TheVariants as fault
use Rattle.ira_commands.specs.AskedRun.{ring_of}
use Rattle.ira_commands.specs.Reply.{Reply}
use Rattle.ira_commands.specs.Run.{IsRunFault, IsRunOf, RunsRing, TellsRunResult}
use Rattle.ira_commands.specs.Run.RunsRing.{failed, ran}
use Rattle.ira_commands.specs.declared.asked_run.AskedRun.{AskedRun}

-- rows of which each is what its place gives
row_given : {V : Type 0} (see : V → List ℕ) (f : ℕ → List ℕ) (rows : List V)
    → ((place : ℕ) → IfSome (slice_get rows place) (λ row. see row ≡ f place)) → (k : ℕ) → k < length rows
    → get_or (map see rows) k [] ≡ f k
row_given see f [] given k within = absurd (omega arith)
row_given see f (row ∷ rows) given zero within = given 0
row_given see f (row ∷ rows) given (suc k) within =
    row_given see (λ place. f (suc place)) rows (λ place. given (suc place)) k (omega arith)

pub rows_given : {V : Type 0} (see : V → List ℕ) (f : ℕ → List ℕ) (rows : List V) (n : ℕ) → length rows ≡ n
    → ((place : ℕ) → IfSome (slice_get rows place) (λ row. see row ≡ f place))
    → map see rows ≡ map f (range_with_len 0 n)
rows_given see f rows n many given = fill_by_all f (map see rows) n [] (length-map rows see ∙ many)
    (λ k within. row_given see f rows given k (omega (arith, many)))

-- memory aside, why there is no run on one thread, or with threads
pub alone_fault : (s : Setup) (r : Result Run RunFault) → (r ≡ Err fault.Setup → ¬ (KeepsRules s))
    → IfErr r (λ f. (f ≡ fault.Setup) ⊎ (f ≡ fault.OutOfMemory))
    → IfErr r (λ f. f ≢ fault.OutOfMemory → IsRunFault true s f)
alone_fault s (Ok run) broken two = tt
alone_fault s (Err f) broken (inl setup) = λ other. record {
  broken = (λ e. broken (ap (λ x. Err x) e), λ breaks. setup);
  alone = λ _. setup;
  parts = (λ e. cc, λ e. cc);
  ends = λ e. cc;
  memory = other;
}
alone_fault s (Err f) broken (inr none) = λ other. absurd (other none)

pub threads_fault : (s : Setup) (r : Result Run RunFault) → (r ≡ Err fault.Setup) ↔ ¬ (KeepsRules s)
    → IfErr r (λ f. (f ≢ fault.Stranger) × (f ≢ fault.Double)) → r ≢ Err fault.NoEnd
    → IfErr r (λ f. f ≢ fault.OutOfMemory → IsRunFault false s f)
threads_fault s (Ok run) rules neither ends = tt
threads_fault s (Err f) rules neither ends = λ other. record {
  broken = (λ e. rules.0 (ap (λ x. Err x) e), λ breaks. (let same = rules.1 breaks in cc));
  alone = λ e. cc;
  parts = neither;
  ends = λ e. ends (ap (λ x. Err x) e);
  memory = other;
}

-- more terms than a number of 32 bits says are those of a setup that breaks the rules
pub many_terms : (s : Setup) → ¬ (s.terms < 4294967296) → IsRunFault false s fault.Setup
many_terms s many = record {
  broken = (λ _ (keeps : KeepsRules s). omega (arith, many, keeps.terms.1), λ breaks. refl);
  alone = λ e. cc;
  parts = (λ e. cc, λ e. cc);
  ends = λ e. cc;
  memory = λ e. cc;
}

-- it is a run of the ring, or why there is none
pub ring_run : {E : Type 0} (is_alone : Bool) (asked : AskedRun) (r : Result Run RunFault) (told : Result Reply E)
    → IsRingSize asked.nodes → OnOk r (KeepsRules (setup_of (ring_of asked)))
    → IfOk r (IsRunOf is_alone (setup_of (ring_of asked)))
    → IfErr r (λ f. f ≢ fault.OutOfMemory → IsRunFault is_alone (setup_of (ring_of asked)) f)
    → IfOk told (TellsRunResult r) → IfOk told (RunsRing is_alone asked)
ring_run is_alone asked r (Err e) size kept is why told = tt
ring_run is_alone asked (Ok run) (Ok reply) size kept is why told = ran size kept run is told
ring_run is_alone asked (Err fault.OutOfMemory) (Ok reply) size kept is why told = absurd told
ring_run is_alone asked (Err f) (Ok reply) size kept is why told = failed size f (why (λ e. cc)) told
