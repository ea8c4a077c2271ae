use Rattle.std.proofs.Common.{inl, inr, [], ◌∷◌, arith, refl, sym}
use Rattle.std.proofs.lemmas.List.{append-nil}
use Rattle.ira_view_evidence.proofs.OriginLists.{listed}
use Rattle.ira_view_explain.specs.Refused.{AreOtherStops}
use Rattle.ira_view_page.specs.Parts.{none}
use Rattle.ira_view_page.proofs.Parts.{parts_all, parts_more}
use Rattle.ira_view_explain.proofs.steps_finding.other_stops.Goals as goal
use Rattle.ira_view_explain.proofs.steps_finding.other_stops.Goals.{then-stop-named+in_ok-push, else-stop-named}

pub loop-stop-init : goal.loop-stop-init
loop-stop-init g c = rw c.new-others.ensures.items none

pub loop-stop-preserved : goal.loop-stop-preserved
loop-stop-preserved g c =
    let before = c.loop-stop.others.items in
    let more =
    parts_more (AreOtherStops c.args.ordered.now c.args.named) c.args.faulty.now c.loop-stop.stop-index _ before in
    let here = listed c.args.faulty.now c.loop-stop.stop-index c.loop-stop-test.true in
    elim c.if-stop-named.branch [
      | then-stop-named+in_ok-push w ↦
          more (w.of.result ∷ []) _ here c.loop-stop.invariant
          (inr (λ same. absurd (omega (arith, w.if-stop-named.true, same)), w.of.result, refl, w.of.ensures))
          (rw (w.others-is, w.in_ok-push.ensures.items) refl)
      | else-stop-named w ↦
          more [] _ here c.loop-stop.invariant (inl (omega (arith, w.if-stop-named.false), refl))
          (rw w.others-is (sym (append-nil before)))
    ]

pub returns : goal.returns
returns g c =
    parts_all (AreOtherStops c.args.ordered.now c.args.named) c.args.faulty.now c.loop-stop.stop-index
    c.loop-stop.others.items c.loop-stop-test.false c.loop-stop.invariant
