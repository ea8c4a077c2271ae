use Rattle.std.proofs.Common.{◌≡◌, ◌+◌, ◌++◌, true, false, cond, sym, ap, subst, ◌∙◌, arith, replicate}
use Rattle.std.proofs.lemmas.List.{append-nil}
use Rattle.std.specs.Prelude.{is_some}
use Rattle.ira_event.specs.Messages.{sending}
use Rattle.ira_cand.specs.Profile.{TableAt}
use Rattle.ira_cand.proofs.Profiles.{both_pass, debt_decides, passes_by, table_on, table_skip}
use Rattle.ira_cand.proofs.profile.Profile.pick.Goals as goal
use Rattle.ira_cand.proofs.profile.Profile.pick.Goals.{
  then-free-owing+in_ok-push,
  then-free-owing-via-then-free-owing,
  then-free-owing-via-else-free-owing+then-sends_after-owing,
  else-free-owing+else-sends_after-owing,
}

pub returns-then-not-owing : goal.returns-then-not-owing
returns-then-not-owing g c = λ last f at n rest fit is so_far.
    let none : c.args.answers ≡ (false, false) =
    ap (λ a. (a, c.args.answers.1)) c.if-not-free.true ∙ ap (λ b. (false, b)) c.if-not-owing.true in
    subst (λ q. TableAt c.args.self.now last f rest q c.args.found.now.items) fit
    (table_skip c.args.self.now last f n at rest c.args.begin c.args.found.now.items (sym none ∙ is) so_far)

pub loop-p-init : goal.loop-p-init
loop-p-init g c = λ last f at n rest fit is so_far. (n, fit, so_far)

pub loop-p-preserved : goal.loop-p-preserved
loop-p-preserved g c = λ last f at n rest fit is so_far.
    let log = c.args.self.now in
    let free = c.args.answers.0 in
    let owing = c.args.answers.1 in
    let now = c.loop-p.invariant last f at n rest fit is so_far in
    let on = table_on log last f at rest c.loop-p.p c.args.end now.0 c.loop-p.found.items c.if-free-owing.found.items in
    elim c.if-free-owing.branch [
      | then-free-owing+in_ok-push w ↦
          (let more = ap (λ v. v.items) w.found-is ∙ w.in_ok-push.ensures.items in elim w.then-free-owing.branch [
            | then-free-owing-via-then-free-owing v ↦
                on true now.1 c.loop-p-test.true now.2
                (λ e there. both_pass free owing c.else-not-free.either v.if-free-owing.true (is_some (sending e))
                ∙ sym (passes_by f at free owing is (is_some (sending e)))) more
            | then-free-owing-via-else-free-owing+then-sends_after-owing v ↦
                on true now.1 c.loop-p-test.true now.2
                (λ e there. debt_decides free owing v.sends_after.result true v.if-free-owing.false
                v.if-sends_after-owing.true ∙ ap (λ o. cond o owing free) (v.sends_after.ensures e there)
                ∙ sym (passes_by f at free owing is (is_some (sending e)))) more
          ])
      | else-free-owing+else-sends_after-owing w ↦
          on false now.1 c.loop-p-test.true now.2
          (λ e there. debt_decides free owing w.sends_after.result false w.if-free-owing.false
          w.if-sends_after-owing.false ∙ ap (λ o. cond o owing free) (w.sends_after.ensures e there)
          ∙ sym (passes_by f at free owing is (is_some (sending e))))
          (ap (λ v. v.items) w.found-is ∙ sym (append-nil c.loop-p.found.items))
    ]

pub returns : goal.returns
returns g c = λ last f at n rest fit is so_far.
    let end = c.loop-p.invariant last f at n rest fit is so_far in
    let none : end.0 ≡ 0 = let at_end = end.1 in omega (arith, at_end) in
    subst (λ q. TableAt c.args.self.now last f rest q c.loop-p.found.items)
    (let at_end = end.1 in omega (arith, at_end, none))
    (subst (λ m. TableAt c.args.self.now last f (replicate m at ++ rest) c.loop-p.p c.loop-p.found.items) none end.2)
