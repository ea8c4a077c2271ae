use Rattle.ira_pred.proofs.Meanings.{round_exactly, id_exactly}
use Rattle.ira_pred.proofs.clause.Clause.+holds.Goals as goal

pub returns-in-Round-clause-meaning : goal.returns-in-Round-clause-meaning
returns-in-Round-clause-meaning g t c =
    rw (
      c.compares_some.ensures,
      c.round.ensures,
      c.in-Round.is,
    ) (round_exactly c.args.state.now.phase c.in-Round.rel c.in-Round.n)

pub returns-in-Id-clause-meaning : goal.returns-in-Id-clause-meaning
returns-in-Id-clause-meaning g t c =
    rw (
      c.compares_some-in-Id.ensures,
      c.id.ensures,
      c.in-Id.is,
    ) (id_exactly c.args.state.now.phase c.in-Id.rel c.in-Id.n)
