use Rattle.std.proofs.Common.{◌≡◌, ◌∙◌, Some, ap, slice_get, subst, sym}
use Rattle.std.proofs.lemmas.List.Elements.{All-push}
use Rattle.std.proofs.lemmas.Option.{slice_get-get_or}
use Rattle.ira_event.specs.Log.{Log}
use Rattle.ira_cert.specs.SharedTable.{IsTableOf}
use Rattle.ira_cert.proofs.profiles.shared_tables.Goals as goal

pub loop-asked-preserved : goal.loop-asked-preserved
loop-asked-preserved g c =
    let logs = c.args.logs.now in
    let asked = c.asked-item.result in
    let lookup = c.in-Some.ensures.lookup in
    let at : slice_get logs asked.place ≡ Some c.in-Some.log.now =
    subst (λ i. slice_get logs i ≡ Some c.in-Some.log.now) c.from.ensures
    (slice_get-get_or logs c.from.result c.in-Some.log.now lookup.3.0
    ∙ ap (λ (x : Log). Some x) (sym lookup.1)) in
    let table : IsTableOf logs (record {
      place = asked.place;
      clause = asked.clause;
      positions =
          c.in_ok-positions.positions;
    }) =
    (c.in-Some.log.now, at, c.in_ok-positions.ensures) in
    rw c.in_ok-push.ensures.items (All-push (IsTableOf logs) c.loop-asked.tables.items _ c.loop-asked.invariant
    table)
