use Rattle.std.proofs.Common.{◌≢◌, ◌∷◌, ◌++◌, [], ap, inl, inr, rules, subst, sym, ◌∙◌}
use Rattle.ira_event.specs.Log.{Log}
use Rattle.ira_event.specs.LogText.{head_of}
use Rattle.ira_audit.specs.RingAudit.{HasTaken, IsReading, StandFor}
use Rattle.ira_audit.proofs.KeptHeads.{stand_both, stand_head}
use Rattle.ira_event.specs.declared.log_fault.LogFault.TheVariants.{OutOfMemory}
use Rattle.ira_audit.proofs.LogTexts.{keeps_fault, keeps_first, keeps_log}
use Rattle.ira_audit.proofs.ring_audit.RingAudit.take.Goals as goal
use Rattle.ira_audit.proofs.ring_audit.RingAudit.take.Goals.{then-are_all_there+in_ok-clone-in-Ok, else-are_all_there}

pub returns-then-is_some-clause-ok : goal.returns-then-is_some-clause-ok
returns-then-is_some-clause-ok g c = λ texts taken.
    let kept = subst (λ a. HasTaken a texts) (sym c.self.view_is) taken in
    rw (← c.self.view_is) (
      kept.0,
      keeps_first texts (c.args.text.now ∷ []) kept.0 c.self.inside.fault c.if-is_some.ensures kept.1,
      kept.2,
    )

pub returns-in_ok-push-in-Ok-clause-ok : goal.returns-in_ok-push-in-Ok-clause-ok
returns-in_ok-push-in-Ok-clause-ok g c = λ texts taken.
    let kept = subst (λ a. HasTaken a texts) (sym c.self.view_is) taken in
    let read = subst (IsReading c.args.text.now) c.in-Ok.is c.read.ensures in
    let logs = c.self.inside.logs.items in
    let log = c.in-Ok.log in
    let all = keeps_log texts kept.0 c.self.inside.fault c.args.text.now log c.if-is_some.ensures kept.1 read in
    let stands : StandFor (logs ++ c.if-are_all_there.kept ∷ []) (kept.0 ++ log ∷ []) = elim c.if-are_all_there.branch [
      | then-are_all_there+in_ok-clone-in-Ok w ↦
          let there = c.are_all_there.ensures w.if-are_all_there.true in
          stand_head logs kept.0 c.if-are_all_there.kept log there.0 kept.2 (ap head_of w.kept-is
          ∙ w.without_events-kept.ensures) there.1 there.2
      | else-are_all_there w ↦ stand_both logs kept.0 (c.if-are_all_there.kept ∷ []) (log
          ∷ []) kept.2 (inl (ap (λ (l : Log). l ∷ []) w.kept-is))
    ] in
    rw c.in_ok-push-in-Ok.ensures.items (kept.0 ++ log ∷ [], all, stands)

pub returns-in-Err : goal.returns-in-Err
returns-in-Err g c =
    let f = c.in-Err.fault in
    let other : f ≢ OutOfMemory = search rules in
    record {
      ok = λ texts taken.
          let kept = subst (λ a. HasTaken a texts) (sym c.self.view_is) taken in
          let read = subst (IsReading c.args.text.now) c.in-Err.is c.read.ensures in
          elim read [
            | inl refused ↦ absurd (other refused)
            | inr fault ↦ (
              kept.0,
              keeps_fault texts kept.0 c.self.inside.fault c.args.text.now f c.if-is_some.ensures
                  kept.1 fault,
              kept.2,
            )
          ];
      err = tt;
    }
