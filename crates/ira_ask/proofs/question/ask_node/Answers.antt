use Rattle.std.proofs.Common.{◌≡◌, None, arith, inr, sym, ◌∙◌}
use Rattle.ira_ask.specs.Asked.{asked_at}
use Rattle.ira_ask.specs.Reading.{IsClauseText, place_at}
use Rattle.ira_ask.proofs.Nodes.{asked_node, clause_short, no_other, node_text, refused_node, refused_place}
use Rattle.ira_ask.proofs.question.ask_node.Goals as goal

pub returns-in_default : goal.returns-in_default
returns-in_default g c =
    let none : place_at c.args.sentence.now ≡ None = c.in_default.ensures in
    inr (refused_node c.args.nodes c.args.sentence.now c.requires (λ place clause e. let both = sym none ∙ e in
    absurd cc))

pub is_clause-requires : goal.is_clause-requires
is_clause-requires g c =
    clause_short c.args.sentence.now c.in-Some.place c.in-Some.clause.now c.requires c.in-Some.ensures

pub returns-then-not-branch : goal.returns-then-not-branch
returns-then-not-branch g c =
    let none : ¬ (IsClauseText c.in-Some.clause.now) =
    λ k. let t = c.in_ok-is_clause.ensures.1 k in let f = c.if-not-branch.true in cc (t, f) in
    inr (refused_node c.args.nodes c.args.sentence.now c.requires (λ place clause e.
    no_other c.args.sentence.now c.in-Some.place place c.in-Some.clause.now clause c.in-Some.ensures e none))

pub returns-then-place-from : goal.returns-then-place-from
returns-then-place-from g c =
    inr (refused_place c.args.nodes c.args.sentence.now c.in-Some.place c.in-Some.clause.now c.requires c.in-Some.ensures
    (c.in_ok-is_clause.ensures.0 c.if-not-branch.false) (omega (arith, c.if-place-from.true)))

pub returns : goal.returns
returns g c =
    let n = c.args.nodes in
    let p = c.in-Some.place in
    let is = c.in_ok-is_clause.ensures.0 c.if-not-branch.false in (
      asked_at n p is.0,
      asked_node n c.args.sentence.now p c.in-Some.clause.now c.requires c.in-Some.ensures is
          (omega (arith, c.if-place-from.false)) (omega arith),
      node_text n p is.0 c.in-Some.clause.now _ _ _ _ is.2 c.in_ok-text.ensures c.in_ok-extend_from_slice.ensures.items
          c.in_ok-push_line.ensures c.in_ok-extend_from_slice-2.ensures.items,
    )
