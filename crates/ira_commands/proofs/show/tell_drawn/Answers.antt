use Rattle.ira_view.specs.ShownRing.{HasTooManyAt, IsPictureOf}
use Rattle.ira_audit.specs.declared.answer.Answer.TheVariants.{Yes}
use Rattle.ira_commands.proofs.Served.{if_ok}
use Rattle.ira_commands.proofs.Shown.{draws}
use Rattle.ira_commands.proofs.show.tell_drawn.Goals as goal

pub returns : goal.returns
returns g c =
    let ring = c.args.ring.now in
    let from = c.args.columns.from in
    let to = c.args.columns.to in
    if_ok c.tell_picture.result (λ reply told.
    draws Yes (IsPictureOf ring from to) (HasTooManyAt ring from to) c.picture-picture.result reply
    (if_ok c.picture-picture.result (λ text is. is.printable) c.picture-picture.ensures.drawing)
    c.picture-picture.ensures.drawing c.picture-picture.ensures.events told) c.tell_picture.ensures
