use Rattle.std.proofs.Common.{◌≡◌, ◌++◌, ◌<◌, ℕ, take, ap, ◌∙◌, append_assoc, arith}
use Rattle.std.proofs.lemmas.Bool.Decides.{nat_tests}
use Rattle.std.proofs.lemmas.List.{take-append-drop}
use Rattle.std.specs.Prelude.{Ok, List}
use Rattle.ira_event.specs.declared.sink.SinkFault.{SinkFault}
use Rattle.ira_event.specs.Sink.{failures_after}
use Rattle.ira_event.proofs.Writing.{Appends-append}
use Rattle.ira_event.proofs.write.write_bytes.Goals as goal

-- a push that took something is no failure
unfailed : (E : Type 0) (n : ℕ) (bs : List ℕ) (f : ℕ) → 0 < n → failures_after {E = E} (Ok n) bs f ≡ f
unfailed E n bs f h = grind (arith, nat_tests)

pub loop-rest-preserved : goal.loop-rest-preserved
loop-rest-preserved g c =
    let f = c.loop-rest.invariant.front in
    let xs = c.loop-rest.rest.now in
    let n = c.in-Ok.n in
    record {
      front = (
        f.0 ++ take n xs,
        append_assoc f.0 (take n xs) c.split_at.result.1.now ∙ ap (λ w. f.0 ++ (take n xs ++ w)) c.split_at.ensures.back
            ∙ ap (λ w. f.0 ++ w) (take-append-drop n xs) ∙ f.1,
        Appends-append _ _ _ _ _ f.2 c.in-Ok.ensures.bytes,
      );
      same = c.in-Ok.ensures.failures ∙ unfailed SinkFault n xs _ c.if-n-gt0.true ∙ c.loop-rest.invariant.same;
    }
