use Rattle.std.proofs.Common.{◌≡◌, ◌∙◌, ℕ, ◌++◌, ◌∷◌, [], inl, inr, Ok, length, sym, ap, subst, arith}
use Rattle.std.specs.Prelude.{slice_get}
use Rattle.std.proofs.lemmas.List.{length-append}
use Rattle.ira_order.proofs.Pushed.{found_in_push}
use Rattle.ira_cert.proofs.Exactly.{rising_differ}
use Rattle.ira_par.proofs.tables.find_all.Goals as goal

pub returns-clause-different : goal.returns-clause-different
returns-clause-different g c = rising_differ c.args.case.now c.len-count.ensures.valid.2.conjuncts_are.rising

pub loop-n-preserved : goal.loop-n-preserved
loop-n-preserved g c =
    let items = c.loop-n.found.items in let table = c.in_ok-find.field-0 in
    let pushed : c.push.new.self.items ≡ items ++ table ∷ [] = c.in_ok-push.ensures.items in
    record {
      count = omega (arith, ap length pushed, length-append items (table ∷ []), c.loop-n.invariant.count);
      each = λ k other at. elim (found_in_push items table k other (ap (λ ts. slice_get ts k) (sym pushed) ∙ at)) [
        | inl there ↦ c.loop-n.invariant.each k other there
        | inr last ↦
            subst (λ t. goal.F-post g c.args.find k (Ok t)) last.1
            (subst (λ (j : ℕ). goal.F-post g c.args.find j (Ok table)) (sym c.loop-n.invariant.count
            ∙ last.0) c.in_ok-find.ensures)
      ];
    }
