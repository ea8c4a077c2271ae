use Rattle.ira_elim.proofs.maker.decide_profiled.Goals as goal

pub returns : goal.returns
returns g c = c.of_decided.ensures c.args.profiles.now c.args.case.now c.in_ok-decide_into.ensures
