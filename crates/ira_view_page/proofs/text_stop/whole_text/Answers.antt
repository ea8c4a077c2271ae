use Rattle.std.proofs.Common.{refl}
use Rattle.ira_view_page.proofs.text_stop.whole_text.Goals as goal

pub returns : goal.returns
returns g c = (c.in_ok-from_str.field-0, refl, c.in_ok-from_str.ensures.ok)
