use Rattle.std.proofs.Common.{ap, refl}
use Rattle.ira_view_page.proofs.Adding.{added_as, finished}
use Rattle.ira_view_show.proofs.Leading.{none_missing}
use Rattle.ira_view_show.proofs.Lines.{began, ok_then}
use Rattle.ira_view_show.specs.Leaders.{missing_text}
use Rattle.ira_view_show.proofs.leaders.leader_missing.Goals as goal

pub returns : goal.returns
returns g c =
    let line = added_as (ap missing_text c.first_leader.ensures) (began c.new-page.ensures c.print_missing.ensures) in
    let text = finished c.finish.result refl line c.finish.ensures in
    record {
      text = text;
      none = ok_then _ _ c.finish.result (λ t is. none_missing c.args.moment.now t is) text;
    }
