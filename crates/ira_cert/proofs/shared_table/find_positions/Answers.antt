use Rattle.std.proofs.Common.{◌≡◌, subst, sym}
use Rattle.std.proofs.lemmas.List.Elements.{All-get_or}
use Rattle.ira_pred.specs.Clause.{formula}
use Rattle.ira_cert.specs.SharedTable.{IsTableOf}
use Rattle.ira_cert.proofs.shared_table.find_positions.Goals as goal

pub returns-then-is_same_as : goal.returns-then-is_same_as
returns-then-is_same_as g c = λ logs all.
    let t = c.table-item.result in
    let clause : formula t.clause.now ≡ formula c.args.clause.now = c.is_same_as.ensures.0 c.if-is_same_as.true in
    let its : IsTableOf logs t =
    subst (IsTableOf logs) (sym c.table-item.is)
    (All-get_or (IsTableOf logs) c.args.tables.now c.loop-table.table-index t c.loop-table-test.true all) in
    rw (c.deref.ensures.value, ← clause, ← c.if-table-place.true) its
