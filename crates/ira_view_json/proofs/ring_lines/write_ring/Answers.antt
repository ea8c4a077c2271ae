use Rattle.std.proofs.Common.{◌≡◌, ◌∙◌, List, Option, Some, ap, inl, inr, refl, subst, sym, ℕ}
use Rattle.ira_view_json.specs.Line.{TookLines}
use Rattle.ira_view_json.specs.ShownAnswer.{AreTold}
use Rattle.ira_view_moment.specs.ChosenMoment.{cut_of}
use Rattle.std.specs.Prelude.{OnOk}
use Rattle.ira_view_json.proofs.LinesWritten.{ring_then}
use Rattle.ira_view_json.proofs.ring_lines.write_ring.Goals as goal

pub returns-in_ok-cut-in-AtEnd : goal.returns-in_ok-cut-in-AtEnd
returns-in_ok-cut-in-AtEnd g c =
    let logs = c.args.logs.now in
    let t = g.W.Sink.state c.write_answer.new.sink in
    let u = g.W.Sink.state c.write_cut.new.sink in
    let same : Some c.deref.result.now ≡ cut_of logs c.args.chosen.now =
    ap (λ (cut : List ℕ). Some cut) (c.deref.ensures.value ∙ c.in_ok-cut-in-AtEnd.ensures.value)
    ∙ sym (ap (cut_of logs) c.in-AtEnd.is) in
    ring_then logs _ c.args.answer.status _ _ (AreTold c.args.has_events logs (cut_of logs c.args.chosen.now))
    c.write_cut.result (g.W.Sink.state c.args.sink.now) t u c.in_ok-write_answer.ensures c.write_cut.ensures.wrote
    (subst (λ (cut : Option (List ℕ)). OnOk c.write_cut.result (TookLines (AreTold c.args.has_events logs cut) t u))
    same c.write_cut.ensures.told)

pub returns-in-AtCut : goal.returns-in-AtCut
returns-in-AtCut g c =
    let logs = c.args.logs.now in
    let t = g.W.Sink.state c.write_answer.new.sink in
    let u = g.W.Sink.state c.write_cut-in-AtCut.new.sink in
    let of : Some c.in-AtCut.cut.items ≡ cut_of logs c.args.chosen.now =
    elim c.in-AtCut.is [ inl at ↦ rw at refl | inr of ↦ rw of.2 refl ] in
    let same : Some c.deref-in-AtCut.result.now ≡ cut_of logs c.args.chosen.now =
    ap (λ (cut : List ℕ). Some cut) c.deref-in-AtCut.ensures.value ∙ of in
    ring_then logs _ c.args.answer.status _ _ (AreTold c.args.has_events logs (cut_of logs c.args.chosen.now))
    c.write_cut-in-AtCut.result (g.W.Sink.state c.args.sink.now) t u c.in_ok-write_answer.ensures
    c.write_cut-in-AtCut.ensures.wrote
    (subst
    (λ (cut : Option (List ℕ)). OnOk c.write_cut-in-AtCut.result (TookLines (AreTold c.args.has_events logs cut) t u))
    same c.write_cut-in-AtCut.ensures.told)
