use Rattle.std.proofs.Common.{◌∙◌, sym, ap, arith}
use Rattle.std.specs.List.{list_any}
use Rattle.ira_ring_setup.specs.NodeEnd.{is_draws_spent}
use Rattle.ira_ring_alone.proofs.Seeded.{seeded_is, same_rules, lone_of_more, lone_of_same}
use Rattle.ira_ring_alone.proofs.seeded_run.run_seeded.Goals as goal

pub run_to_end-requires : goal.run_to_end-requires
run_to_end-requires g c = same_rules _ _ _ _ _ _ _ _ _ (seeded_is _ _ _ _ _ _) c.in_ok-few.ensures c.requires

pub returns-then-not-lack_draws : goal.returns-then-not-lack_draws
returns-then-not-lack_draws g c =
    lone_of_more _ _ _ _ _ _ _ _ _ _ c.in_ok-few.ensures (seeded_is _ _ _ _ _ _) (omega arith)
    (sym (c.lack_draws.ensures ∙ ap (list_any is_draws_spent) c.ends.ensures.value)
    ∙ c.if-not-lack_draws.true) c.in_ok-run.ensures

pub run_to_end-requires-2 : goal.run_to_end-requires-2
run_to_end-requires-2 g c = same_rules _ _ _ _ _ _ _ _ _ (seeded_is _ _ _ _ _ _) c.in_ok-all.ensures c.requires

pub returns : goal.returns
returns g c = lone_of_same _ _ _ _ _ _ _ _ _ c.in_ok-all.ensures (seeded_is _ _ _ _ _ _) c.in_ok-run_to_end.ensures
