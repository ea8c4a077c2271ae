use Rattle.std.proofs.Common.{◌≡◌, ◌∙◌, Bool, ap, length, map, rules, sym, tests}
use Rattle.std.proofs.lemmas.Iterator.{YieldsList-from_slice}
use Rattle.std.proofs.lemmas.Iterator.Search.{any_from_yields_List}
use Rattle.std.specs.Prelude.{nat_lt}
use Rattle.std.specs.List.{list_any}
use Rattle.ira_view_moment.specs.Rounds.{DrawnRound, drawn}
use Rattle.ira_view_moment.specs.declared.node_progress.NodeProgress.{NodeProgress}
use Rattle.ira_view_moment.specs.declared.rounds.Round.{Round}
use Rattle.ira_view_show.proofs.Lines.{list_any-map}
use Rattle.ira_view.proofs.run_features.features_of_run.Goals as goal

pub returns : goal.returns
returns g c =
    let rounds = c.as_slice-rounds.result.now in
    let same : map drawn rounds ≡ c.in_ok-rounds.rounds = search rules in
    let seen : (p : DrawnRound → Bool) (is : Bool) → is ≡ list_any (λ r. p (drawn r)) rounds
    → is ≡ list_any p c.in_ok-rounds.rounds =
    λ p is told. told ∙ sym (list_any-map p drawn rounds) ∙ ap (list_any p) same in
    let tie = any_from_yields_List (λ (r : Round g.row.A.Denot). nat_lt 1 (length r.greatest_of.items)) _ _ _
    c.any.ensures.ran (YieldsList-from_slice rounds (search rules)) (λ x b q k. search (rules, tests)) in
    let later = any_from_yields_List (λ (r : Round g.row.A.Denot). nat_lt 1 r.number) _ _ _
    c.any-2.ensures.ran (YieldsList-from_slice rounds (search rules)) (λ x b q k. search (rules, tests)) in
    let nodes = c.in_ok-moment.moment.nodes in
    rw c.if-not-is_asked.false (record {
      moment = c.in_ok-moment.moment;
      is_end = rw c.logs-logs.ensures.value at c.in_ok-moment.ensures;
      rounds = c.in_ok-rounds.rounds;
      drawn = rw c.logs-logs.ensures.value at c.in_ok-rounds.ensures;
      tie = seen (λ r. nat_lt 1 (length r.greatest_of)) _ tie;
      second_round = seen (λ r. nat_lt 1 r.number) _ later;
      second_term = any_from_yields_List (λ (p : NodeProgress). nat_lt 1 p.state.term) _ _ _ c.any-3.ensures.ran
          (YieldsList-from_slice nodes (search rules)) (λ x b q k. search (rules, tests));
      wake_up = rw c.logs-logs.ensures.value at c.has_wake_up.ensures;
      dropped = any_from_yields_List (λ (p : NodeProgress). nat_lt 0 p.dropped) _ _ _ c.any-4.ensures.ran
          (YieldsList-from_slice nodes (search rules)) (λ x b q k. search (rules, tests));
    })
