use Rattle.std.proofs.Common.{◌-◌, [], ◌∷◌, ◌++◌, ap, ◌∙◌, arith, rules}
use Rattle.ira_ring_setup.specs.Draws.{draws, id_of_word}
use Rattle.ira_ring_setup.proofs.Drawing.{draws-more, draws-all}
use Rattle.ira_ring_setup.proofs.draws.draw_list.Goals as goal

pub loop-preserved : goal.loop-preserved
loop-preserved g c = record {
  room = search rules;
  number = search rules;
  draws = draws-more c.args.nodes c.args.k c.loop.counter c.loop.words c.next_word.new.self c.loop.list.items
      c.push_reserved.new.self.items (draws c.args.nodes c.args.seed c.args.place c.args.k) c.next_word.result
      c.loop-test.true c.next_word.ensures (c.push_reserved.ensures.items
      ∙ ap (λ n. c.loop.list.items ++ id_of_word n c.next_word.result ∷ []) (c.from-in-loop.ensures
      ∙ c.get.ensures.value)) c.loop.invariant.draws;
}

pub returns : goal.returns
returns g c = draws-all c.args.nodes (c.args.k - c.loop.counter) c.loop.words c.loop.list.items
    (draws c.args.nodes c.args.seed c.args.place c.args.k) (omega arith) c.loop.invariant.draws
