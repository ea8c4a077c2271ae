use Rattle.std.proofs.Common.{sym, ◌∙◌, inl, inr, arith}
use Rattle.ira_ring_setup.specs.Terms.{IsLastLeader}
use Rattle.ira_ring_alone.proofs.LoneEnds.{ends_waiting, ends_spent, owing_goes_on, leading_goes_on}
use Rattle.ira_ring_alone.proofs.LoneNodes.{wants_yield}
use Rattle.ira_ring_alone.proofs.lone_node.LoneNode.end.Goals as goal

pub unreachable-requires : goal.unreachable-requires
unreachable-requires g c =
    let not_last : ¬ (IsLastLeader c.args.terms c.self.inside.state) =
    λ l. (let none = c.if-is_last_leader.ensures.1 l in cc) in
    elim c.in-Send.is [
      | inl owes ↦ owing_goes_on _ _ _ _ _ _ _ _ _ c.self.view_is (sym owes.1
          ∙ c.wanted.ensures.value) (omega arith) c.requires.1
      | inr leads ↦ elim leads [
        | inl yields ↦ leading_goes_on _ _ _ _ _ _ _ _ c.self.view_is
            (wants_yield _ _ _ (sym yields ∙ c.wanted.ensures.value)) not_last (omega arith) c.requires.1
        | inr nothing ↦ leading_goes_on _ _ _ _ _ _ _ _ c.self.view_is (c.wanted.ensures.nothing.0 nothing).0 not_last
            (omega arith) c.requires.1
      ]
    ]

pub returns-in-Draw : goal.returns-in-Draw
returns-in-Draw g c = λ n. ends_spent n _ _ _ _ _ _ _ c.self.view_is c.in-Draw.ensures.value (omega arith)

pub returns-in-Some : goal.returns-in-Some
returns-in-Some g c = λ n.
    ends_waiting n _ _ _ _ _ _ _ _ c.self.view_is c.in-Receipt.ensures.value (omega arith) c.in-Some.ensures.item.3.0
    c.in-Some.ensures.lookup
