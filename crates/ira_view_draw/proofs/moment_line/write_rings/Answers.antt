use Rattle.std.proofs.Common.{ℕ, subst}
use Rattle.ira_pred.specs.Case.{Conjunct}
use Rattle.ira_view_page.proofs.Adding.{added_at}
use Rattle.ira_view_page.specs.Page.{Added}
use Rattle.ira_view_draw.specs.MomentLine.{ring_text}
use Rattle.ira_view_draw.proofs.Lines.{place_at}
use Rattle.ira_view_draw.proofs.moment_line.write_rings.Goals as goal

pub loop-n-preserved : goal.loop-n-preserved
loop-n-preserved g c =
    let nodes = c.args.grid.now.nodes in
    let w = c.args.grid.now.window in
    let at = place_at _ _ c.place.ensures in
    let ring = subst (λ (p : ℕ). Added c.loop-n.out.page (ring_text nodes w c.args.column p) c.write_ring.new.out.page)
    at.2 c.write_ring.ensures in
    added_at (λ (asked : Conjunct). ring_text nodes w c.args.column asked.place) c.args.case.now c.loop-n.n at.0 at.1
    c.loop-n.invariant ring
