use Rattle.std.proofs.Common.{◌≡◌, false, true}
use Rattle.ira_view_page.proofs.Printables.{printable_is_text}
use Rattle.ira_view_page.proofs.page_text.PageText.into_string.Goals as goal

pub unreachable-requires : goal.unreachable-requires
unreachable-requires g c =
    let refused : false ≡ true =
    c.in-Err.ensures.succeeds (printable_is_text c.self.inside.text.items c.self.invariant) in
    cc
