use Rattle.std.proofs.Common.{◌∙◌, ap, length, map, sym, subst}
use Rattle.std.proofs.lemmas.List.{length-map}
use Rattle.ira_event.specs.Logs.{AreLogs}
use Rattle.ira_event.specs.Upgrade.{upgraded}
use Rattle.ira_event.proofs.Upgrades.{are_upgraded_logs}
use Rattle.ira_event.proofs.logs.Logs.upgrade.Goals as goal

pub invariant_of-result : goal.invariant_of-result
invariant_of-result g c =
    let logs = c.self.inside.logs.items in
    let news = c.in_ok-upgrade_each.ensures in (
      c.self.invariant.0 ∙ sym (length-map logs upgraded) ∙ ap length (sym news),
      subst AreLogs (sym news) (are_upgraded_logs logs c.self.invariant.1),
    )

pub returns : goal.returns
returns g c = c.in_ok-upgrade_each.ensures ∙ ap (map upgraded) c.self.view_is
