use Rattle.std.proofs.Common.{◌≡◌, List, map, rules, set, subst, sym}
use Rattle.std.proofs.lemmas.List.Sorted.{answers_always}
use Rattle.ira_view_moment.specs.Drawing.{IsAdded, begun}
use Rattle.ira_view_moment.specs.Rounds.{AreInOrder, DrawnRound, drawn}
use Rattle.ira_view_moment.specs.declared.rounds.Round.{Round}
use Rattle.ira_view_moment.proofs.Added.{is_begun, is_joined}
use Rattle.ira_view_moment.proofs.rounds.Rounds.add.Goals as goal

pub returns-in_ok-add-in-Ok : goal.returns-in_ok-add-in-Ok
returns-in_ok-add-in-Ok g c =
    let items = c.self.inside.rounds.items in
    let view = c.self.view_is in
    let same : map drawn items ≡ c.args.self.now = cc in
    let found = c.in-Ok.ensures.position (λ r. (r.term, r.number)) (answers_always _ _ _ (λ f a r h called. search rules)) in
    subst (λ (old : List DrawnRound). IsAdded c.args.key.0 c.args.key.1 c.args.place c.args.id old
    (map drawn (set items c.in-Ok.at c.add.new.self))) same
    (is_joined c.args.key.0 c.args.key.1 c.args.place c.args.id items c.in-Ok.at c.index_mut.result.now c.add.new.self
    (rw c.deref.ensures.value at c.in-Ok.ensures.bound) c.index_mut.ensures.value (rw c.deref.ensures.value at found)
    c.in_ok-add-in-Ok.ensures)

pub returns-in_ok-insert-in-Err : goal.returns-in_ok-insert-in-Err
returns-in_ok-insert-in-Err g c =
    let items = c.self.inside.rounds.items in
    let view = c.self.view_is in
    let same : map drawn items ≡ c.args.self.now = cc in
    let parts = c.in-Err.ensures.position (λ r. (r.term, r.number)) (answers_always _ _ _ (λ f a r h called. search rules)) in
    let round : Round g.row.A.Denot = record {
      term = c.args.key.0;
      number = c.args.key.1;
      draws = c.in_ok-vec-in-Err.field-0;
      greatest = c.args.id;
      greatest_of = c.in_ok-vec-in-Err-2.field-0;
    } in
    let is : drawn round ≡ begun c.args.key.0 c.args.key.1 c.args.place c.args.id =
    (let first = c.in_ok-vec-in-Err.ensures.items in let second = c.in_ok-vec-in-Err-2.ensures.items in cc) in
    subst (λ (old : List DrawnRound). IsAdded c.args.key.0 c.args.key.1 c.args.place c.args.id old
    (map drawn c.insert.new.self.items)) same
    (subst (λ (new : List (Round g.row.A.Denot)). IsAdded c.args.key.0 c.args.key.1 c.args.place c.args.id
    (map drawn items) (map drawn new)) (sym c.in_ok-insert-in-Err.ensures.items)
    (is_begun c.args.key.0 c.args.key.1 c.args.place c.args.id items c.in-Err.at round
    (subst AreInOrder (sym same) c.requires) (rw c.deref.ensures.value at c.in-Err.ensures.bound)
    (rw c.deref.ensures.value at parts) is))
