use Rattle.std.proofs.Common.{◌≡◌, ℕ, Some, slice_get, inl, inr, ap, below_more, get_or, length, refl, sym, ◌∙◌, arith}
use Rattle.std.proofs.lemmas.Option.{same_Some}
use Rattle.ira_elim.specs.PairSet.{Has}
use Rattle.ira_elim.specs.CandidateClock.{KnowsNext}
use Rattle.ira_elim.proofs.Places.{at_place}
use Rattle.ira_elim.proofs.Standing.{each_asked, found_at, is_within, long_counts}
use Rattle.ira_elim.proofs.elimination.add_eliminated_by.Goals as goal
use Rattle.ira_elim.proofs.elimination.add_eliminated_by.Goals.{then-counts-index, else-counts-index}

pub bounds-stands-from : goal.bounds-stands-from
bounds-stands-from g c = omega (
  arith,
  c.from.ensures,
  is_within c.args.stands.now c.args.asked.now c.args.other c.requires.asked c.requires.other,
)

pub offset_bounds-stands-from : goal.offset_bounds-stands-from
offset_bounds-stands-from g c =
    omega (
      arith,
      c.from.ensures,
      is_within c.args.stands.now c.args.asked.now c.args.other c.requires.asked c.requires.other,
    )

pub offset_bounds-stands-index : goal.offset_bounds-stands-index
offset_bounds-stands-index g c =
    let asked = c.args.asked.now in
    omega (
      arith,
      c.from-index.ensures,
      is_within c.args.stands.now asked (get_or asked c.loop-node.node-index 0) c.requires.asked
          (at_place asked c.loop-node.node-index c.loop-node-test.true),
    )

pub bounds-counts-index : goal.bounds-counts-index
bounds-counts-index g c =
    let stands = c.args.stands.now in let asked = c.args.asked.now in
    let other : slice_get stands c.args.other ≡ Some c.index-stands-from.result =
    found_at stands c.from.result c.args.other c.index-stands-from.result c.from.ensures
    (omega (arith, c.from.ensures, is_within stands asked c.args.other c.requires.asked c.requires.other))
    c.index-stands-from.is in
    let long = long_counts stands asked c.args.other c.index-stands-from.result c.requires.asked c.requires.other other
    in
    let few = is_within stands asked (get_or asked c.loop-node.node-index 0) c.requires.asked
    (at_place asked c.loop-node.node-index c.loop-node-test.true) in
    omega (arith, few, long, c.from-index.ensures, ap (λ xs. length xs) c.counts-counts.ensures)

pub bounds-stands-index : goal.bounds-stands-index
bounds-stands-index g c =
    let asked = c.args.asked.now in
    omega (
      arith,
      c.from-index.ensures,
      is_within c.args.stands.now asked (get_or asked c.loop-node.node-index 0) c.requires.asked
          (at_place asked c.loop-node.node-index c.loop-node-test.true),
    )

pub loop-node-preserved : goal.loop-node-preserved
loop-node-preserved g c =
    let stands = c.args.stands.now in let asked = c.args.asked.now in let so_far = c.loop-node.invariant in
    let i = get_or asked c.loop-node.node-index 0 in
    elim c.if-counts-index.branch [
      | then-counts-index w ↦
          let kept : (a b : ℕ) → Has c.loop-node.pairs a b → Has c.if-counts-index.pairs a b =
          λ a b has. rw w.pairs-is ((w.insert.ensures a b).1 (inl has)) in
          let here : Has c.if-counts-index.pairs i c.args.other =
          rw w.pairs-is ((w.insert.ensures i c.args.other).1 (inr (refl, refl))) in
          record {
            kept = λ a b has. kept a b (so_far.kept a b has);
            added = below_more (λ (k : ℕ). KnowsNext stands c.args.other (get_or asked k 0)
                → Has c.if-counts-index.pairs (get_or asked k 0) c.args.other) c.loop-node.node-index (λ k l knows.
                kept (get_or asked k 0) c.args.other (so_far.added k l knows)) (λ knows. here);
          }
      | else-counts-index w ↦
          let few = is_within stands asked i c.requires.asked
          (at_place asked c.loop-node.node-index c.loop-node-test.true) in
          let own : slice_get stands i ≡ Some c.index-stands-index.result =
          found_at stands c.from-index.result i c.index-stands-index.result c.from-index.ensures
          (omega (arith, c.from-index.ensures, few)) c.index-stands-index.is in
          let other : slice_get stands c.args.other ≡ Some c.index-stands-from.result =
          found_at stands c.from.result c.args.other c.index-stands-from.result c.from.ensures
          (omega (arith, c.from.ensures, is_within stands asked c.args.other c.requires.asked c.requires.other))
          c.index-stands-from.is in
          let none : ¬ (KnowsNext stands c.args.other i) = λ knows.
          let at : knows.0 ≡ c.index-stands-index.result = same_Some _ _ (sym knows.2 ∙ own) in
          let by : knows.1 ≡ c.index-stands-from.result = same_Some _ _ (sym knows.3 ∙ other) in
          let position : knows.0.position ≡ c.position.result = ap (λ s. s.position) at ∙ sym c.position.ensures in
          let count : get_or knows.1.counts i 0 ≡ get_or c.counts-counts.result.now c.from-index.result 0 =
          rw (by, c.counts-counts.ensures, c.from-index.ensures) refl in
          omega (arith, knows.4, position, count, w.if-counts-index.false)
          in
          record {
            kept = λ a b has. rw w.pairs-is (so_far.kept a b has);
            added = below_more (λ (k : ℕ). KnowsNext stands c.args.other (get_or asked k 0)
                → Has c.if-counts-index.pairs (get_or asked k 0) c.args.other) c.loop-node.node-index (λ k l knows.
                rw w.pairs-is (so_far.added k l knows)) (λ knows. absurd (none knows));
          }
    ]

pub returns-clause-added : goal.returns-clause-added
returns-clause-added g c =
    each_asked c.args.asked.now (λ (i : ℕ). KnowsNext c.args.stands.now c.args.other i
    → Has c.loop-node.pairs i c.args.other) (λ k l. c.loop-node.invariant.added k (omega arith))
