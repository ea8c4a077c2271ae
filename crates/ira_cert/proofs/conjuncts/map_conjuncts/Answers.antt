use Rattle.std.proofs.Common.{◌≡◌, [], ◌∷◌, ◌++◌, Ok, length, sym, subst, ap, arith, length-append}
use Rattle.ira_cert.specs.Queues.{AreFoundFor, IsFoundFor}
use Rattle.ira_cert.proofs.CaseQueues.{found_more}
use Rattle.ira_cert.proofs.conjuncts.map_conjuncts.Goals as goal

pub loop-place-init : goal.loop-place-init
loop-place-init g c = record {
  count = ap (λ xs. length xs) c.in_ok-found.ensures.items;
  different = λ l. absurd (omega arith);
  found = subst (λ all. AreFoundFor (λ n t. goal.F-post g c.args.find n (Ok t)) c.args.case.now all)
      (sym c.in_ok-found.ensures.items) (λ i found at. cc);
}

pub loop-place-preserved : goal.loop-place-preserved
loop-place-preserved g c =
    let items = c.loop-place.found.items in let found = c.in_ok-find_at.field-0 in
    let pushed : c.push.new.self.items ≡ items ++ found ∷ [] = c.in_ok-push.ensures.items in
    record {
      count = omega (
        arith,
        ap (λ xs. length xs) pushed,
        length-append items (found ∷ []),
        c.loop-place.invariant.count,
      );
      different = λ _. c.in_ok-find_at.ensures.different;
      found = subst (λ all. AreFoundFor (λ n t. goal.F-post g c.args.find n (Ok t)) c.args.case.now all) (sym pushed)
          (found_more (IsFoundFor (λ n t. goal.F-post g c.args.find n (Ok t)) c.args.case.now) items c.loop-place.place
          found (sym c.loop-place.invariant.count) c.loop-place.invariant.found c.in_ok-find_at.ensures.found);
    }

pub returns : goal.returns
returns g c = record {
  different = c.loop-place.invariant.different (omega (arith, c.get-nodes.ensures.valid));
  count = omega (arith, c.loop-place.invariant.count, c.get-nodes.ensures.value);
  found = c.loop-place.invariant.found;
}
