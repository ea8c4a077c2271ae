use Rattle.std.proofs.Common.{◌≡◌, ℕ, List, Some, inl, inr, slice_get, ap, subst, arith}
use Rattle.ira_event.specs.Log.{Log}
use Rattle.ira_elim.specs.CandidateClock.{CandidateClock, LearnsNothing}
use Rattle.ira_elim.proofs.NoNews.{learns_nothing}
use Rattle.ira_elim.proofs.candidate_clock.CandidateClock.advance.Goals as goal

pub returns-clause-quiet : goal.returns-clause-quiet
returns-clause-quiet g c =
    let logs = (g.C.HappenedBefore.logs_of c.args.ordered.now) in
    let here : c.self.inside.position ≡ c.args.self.now.position =
    ap (λ (s : CandidateClock). s.position) c.self.view_is in
    let log : slice_get logs c.args.place ≡ Some c.log-log.result.now =
    subst (λ (ls : List Log). slice_get ls c.args.place
    ≡ Some c.log-log.result.now) c.logs.ensures c.log-log.ensures.value in
    let order = c.requires.old.order in
    elim c.receives.ensures [
      | inl does ↦ inl does
      | inr quiet ↦ inr (subst (λ (p : ℕ). LearnsNothing logs c.args.place p c.args.position) here
          (learns_nothing logs order.1 order.2 c.args.place c.self.inside.position c.log-log.result.now c.args.position
          log (omega (arith, here, c.requires.onward)) quiet))
    ]
