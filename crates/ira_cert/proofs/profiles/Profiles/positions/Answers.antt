use Rattle.std.proofs.Common.{◌≡◌, ◌∙◌, All, List, Some, ap, get_or, slice_get, subst, sym}
use Rattle.std.proofs.lemmas.Option.{slice_get-get_or}
use Rattle.ira_event.specs.Log.{Log}
use Rattle.ira_cert.specs.SharedTable.{IsTableOf}
use Rattle.ira_cert.proofs.profiles.Profiles.positions.Goals as goal

pub returns-in-Some : goal.returns-in-Some
returns-in-Some g c =
    let logs = c.args.self.now in
    let all = subst (λ (ls : List Log). All (IsTableOf ls) c.self.inside.shared.items) c.self.view_is c.self.invariant
    in
    rw c.shared.ensures (c.in-Some.ensures logs (rw c.deref.ensures.value all))

pub returns : goal.returns
returns g c =
    let logs = c.args.self.now in
    let log = c.index-log.result.now in
    let is : log ≡ get_or logs c.args.place log =
    c.index-log.ensures ∙ ap (λ (ls : List Log). get_or ls c.from.result log) c.self.view_is
    ∙ ap (λ i. get_or logs i log) c.from.ensures in
    let at : slice_get logs c.args.place ≡ Some log =
    slice_get-get_or logs c.args.place log c.requires ∙ ap (λ (x : Log). Some x) (sym is) in
    (log, at, rw c.own.ensures c.in_ok-table.ensures)
