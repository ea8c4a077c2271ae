use Rattle.std.proofs.Common.{length, ◌∙◌, subst, arith}
use Rattle.std.proofs.lemmas.Option.{slice_get_within, get_or_from_slice_get}
use Rattle.ira_par.specs.Share.{Share, IsFoundBy}
use Rattle.ira_par.proofs.First.{first_is_found}
use Rattle.ira_par.proofs.shares.judge_tasks.Goals as goal

pub returns : goal.returns
returns g c =
    let logs = g.C.HappenedBefore.logs_of c.args.ordered.now in let tasks = c.args.tasks.now in
    let olds = c.args.shares.now in let news = c.for_each_mut.new.s in
    first_is_found logs c.args.depth tasks news (c.for_each_mut.auto.s ∙ c.requires.count)
    (λ i share at.
    let changed = (c.for_each_mut.ensures i share (omega (
      arith,
      slice_get_within news i share at,
      c.for_each_mut.auto.s,
    ))).1 in
    subst (λ (s : Share). IsFoundBy logs c.args.depth i (length tasks) tasks s.found) (changed.left
    ∙ get_or_from_slice_get news i share share at) changed.call)
    c.first_found.result c.first_found.ensures
