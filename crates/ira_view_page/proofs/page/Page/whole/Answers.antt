use Rattle.ira_view_page.proofs.Printables.{printable_is_text}
use Rattle.ira_view_page.proofs.page.Page.whole.Goals as goal

pub unreachable-requires : goal.unreachable-requires
unreachable-requires g c = c.in-Err.ensures.cases.0 (rw c.deref.ensures.value (printable_is_text _ c.self.invariant))
