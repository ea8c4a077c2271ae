use Rattle.ira_view.specs.Texts.{texts_of}
use Rattle.ira_view.proofs.taken.judge_texts.Goals as goal

pub returns : goal.returns
returns g c = c.judge.ensures (texts_of c.args.texts.now) c.in_ok-take_texts.ensures
