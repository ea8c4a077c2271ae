use Rattle.std.proofs.Common.{◌≡◌, ◌∙◌, ap, arith}
use Rattle.ira_order.specs.Ring.{next}
use Rattle.ira_ring_setup.specs.Setup.{Setup}
use Rattle.ira_ring_alone.proofs.LoneTurns.{ids_left, turn_ended, turn_sent}
use Rattle.ira_ring_alone.proofs.lone_ring.LoneRing.turn.Goals as goal

pub go_on-requires : goal.go_on-requires
go_on-requires g c = record {
  ids = ids_left c.args.self.now.setup.now c.args.self.now.nodes.items c.args.i _ c.setup.inside.nodes _
      c.requires.rules c.requires.reached c.requires.place
      c.from.ensures (ap (λ (s : Setup). s.nodes) c.setup.view_is) c.index_mut.ensures.value;
  terms = omega (arith, c.requires.rules.terms.1, ap (λ (s : Setup). s.terms) c.setup.view_is);
}

pub returns-in_default-clause-turn : goal.returns-in_default-clause-turn
returns-in_default-clause-turn g c =
    turn_ended c.args.self.now.setup.now c.args.self.now.nodes.items c.args.i _ c.setup.inside.nodes c.setup.inside.cap
    c.setup.inside.terms _ _ _ c.requires.place c.from.ensures
    (ap (λ (s : Setup). s.nodes) c.setup.view_is) (ap (λ (s : Setup). s.cap) c.setup.view_is)
    (ap (λ (s : Setup). s.terms) c.setup.view_is) c.index_mut.ensures.value c.in_ok-load.ensures c.in_default.is

pub returns-clause-turn : goal.returns-clause-turn
returns-clause-turn g c =
    let to : c.successor-next.result ≡ next c.setup.inside.nodes c.args.i =
    c.successor-next.ensures.value ∙ ap (λ n. next n c.args.i) c.get.ensures.value in
    turn_sent c.args.self.now.setup.now c.args.self.now.nodes.items c.args.i _ c.setup.inside.nodes c.setup.inside.cap
    c.setup.inside.terms _ _ _ c.successor-next.result _ _ _ c.in-Some.load c.requires.rules c.requires.reached
    c.requires.place c.from.ensures
    (ap (λ (s : Setup). s.nodes) c.setup.view_is) (ap (λ (s : Setup). s.cap) c.setup.view_is)
    (ap (λ (s : Setup). s.terms) c.setup.view_is) c.index_mut.ensures.value c.in_ok-load.ensures c.in-Some.is to
    c.from-2.ensures c.index_mut-2.ensures.value c.in_ok-put.ensures
