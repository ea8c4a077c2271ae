use Rattle.std.proofs.Common.{◌≤◌, ◌∙◌, ap, arith, length}
use Rattle.std.specs.List.{flat_map}
use Rattle.std.proofs.lemmas.List.{take_all}
use Rattle.ira_view_page.proofs.Adding.{◌&◌, added_as, added_next}
use Rattle.ira_view_draw.specs.Marks.{mark_text}
use Rattle.ira_view_draw.proofs.marks.write_lane.Goals as goal

pub loop-mark-preserved : goal.loop-mark-preserved
loop-mark-preserved g c =
    added_next (mark_text c.args.grid.now.nodes c.args.grid.now.window c.args.place) c.deref-mark-items.result.now
    c.loop-mark.mark-index _ c.loop-mark-test.true c.loop-mark.invariant c.write_mark.ensures

pub returns : goal.returns
returns g c =
    let text = mark_text c.args.grid.now.nodes c.args.grid.now.window c.args.place in
    let items = c.deref-mark-items.result.now in
    let count : length items ≤ c.loop-mark.mark-index = omega (arith, c.loop-mark-test.false) in
    let marks = added_as
    (ap (flat_map text) (take_all c.loop-mark.mark-index items count)
    ∙ ap (flat_map text) c.deref-mark-items.ensures.value) c.loop-mark.invariant in
    c.open.ensures & c.words.ensures & c.number.ensures & c.words-2.ensures & marks & c.words-3.ensures
