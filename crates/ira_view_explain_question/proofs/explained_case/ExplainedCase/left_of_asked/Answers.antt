use Rattle.std.proofs.Common.{◌≡◌, ℕ, List, Some, ap, arith, length, refl, slice_get, subst, sym}
use Rattle.std.proofs.lemmas.Option.{slice_get_read}
use Rattle.ira_event.specs.Log.{Log}
use Rattle.ira_pred.specs.Clause.{formula}
use Rattle.ira_cert.proofs.CaseQueues.{conjunct_there}
use Rattle.ira_view_explain_question.proofs.Candidates.{are_candidates, state_there}
use Rattle.ira_view_explain_question.proofs.explained_case.ExplainedCase.left_of_asked.Goals as goal
use Rattle.ira_view_explain_question.proofs.explained_case.ExplainedCase.left_of_asked.Goals.{in-None, in-Some}

pub state_after-requires : goal.state_after-requires
state_after-requires g c =
    let case = c.args.self.now in
    let logs = case.ring.now.asked.now.logs in
    let node = c.place-node.result in
    let xs = c.deref.result.now in
    let log = c.log-log.result.now in
    let p = c.in-Some.position.now in
    let lookup = c.in-Some.ensures.lookup in
    let at : slice_get logs node ≡ Some log =
    subst (λ (ls : List Log). slice_get ls node ≡ Some log) c.logs.ensures.value c.log-log.ensures.value in
    let are = are_candidates logs case.case.now c.args.clause node (formula c.clause.result.now) log xs
    c.place-node.ensures c.clause.ensures at (rw c.deref.ensures.value c.in_ok-candidates.ensures.list) in
    state_there logs case.case.now node c.made-gone.result p xs are
    (slice_get_read xs _ c.made-gone.result p refl lookup.3.0 lookup.1)

pub returns : goal.returns
returns g c =
    let case = c.args.self.now in
    let logs = case.ring.now.asked.now.logs in
    let node = c.place-node.result in
    let xs = c.deref.result.now in
    let log = c.log-log.result.now in
    let at : slice_get logs node ≡ Some log =
    subst (λ (ls : List Log). slice_get ls node ≡ Some log) c.logs.ensures.value c.log-log.ensures.value in
    let conjunct = conjunct_there case.case.now c.args.clause node c.place-node.ensures in (
      conjunct.0,
      conjunct.1,
      sym conjunct.2,
      record {
        positions = xs;
        candidates = are_candidates logs case.case.now c.args.clause node (formula c.clause.result.now) log xs
            c.place-node.ensures c.clause.ensures at (rw c.deref.ensures.value c.in_ok-candidates.ensures.list);
        count = omega (
          arith,
          c.saturating_sub.ensures,
          c.len.ensures,
          ap length c.deref.ensures.value,
          c.made-gone.ensures,
        );
        first = elim c.match-get.branch [
          | in-Some w ↦
              (let p = w.in-Some.position.now in
              let lookup = w.in-Some.ensures.lookup in
              let there = slice_get_read xs _ c.made-gone.result p refl lookup.3.0 lookup.1 in
              rw w.first-is
              (subst (λ (k : ℕ). slice_get xs k ≡ Some p) c.made-gone.ensures there, w.state_after.ensures))
          | in-None w ↦ rw w.first-is (omega (arith, w.in-None.ensures.lookup.3, c.made-gone.ensures))
        ];
      },
    )
