use Rattle.std.proofs.Common.{◌≡◌, ◌≢◌, ◌<◌, ◌≤◌, ℕ, List, inl, inr, Contains, below_more, get_or, subst, sym, arith}
use Rattle.std.proofs.lemmas.Bool.{cases_eq}
use Rattle.ira_order.specs.DirectDependencies.{distance}
use Rattle.ira_elim.proofs.Between.{distance_tells, farthest_tells}
use Rattle.ira_elim.proofs.Places.{at_place}
use Rattle.ira_elim.proofs.Standing.{each_asked}
use Rattle.ira_elim.proofs.elimination.nearest_place.Goals as goal
use Rattle.ira_elim.proofs.elimination.nearest_place.Goals.{then-links_between, else-links_between}

pub links_between-requires-clause-from : goal.links_between-requires-clause-from
links_between-requires-clause-from c =
    c.requires.places (get_or c.args.asked.now c.loop-other.other-index 0)
    (at_place c.args.asked.now c.loop-other.other-index c.loop-other-test.true)

pub loop-other-preserved : goal.loop-other-preserved
loop-other-preserved c =
    let n : ℕ = c.args.nodes in let j : ℕ = c.args.place in let asked : List ℕ = c.args.asked.now in
    let k : ℕ = c.loop-other.other-index in let so_far = c.loop-other.invariant in
    let member = at_place asked k c.loop-other-test.true in
    elim c.if-links_between.branch [
      | then-links_between w ↦
          let near : c.if-links_between.nearest ≡ get_or asked k 0 = w.nearest-is in
          let less : distance n (get_or asked k 0) j < distance n c.loop-other.nearest j =
          omega (arith, w.if-links_between.true, c.links_between.ensures, c.links_between-in-loop-other.ensures) in
          record {
            one = inr (subst (Contains asked) (sym near) member);
            least = below_more (λ (l : ℕ). distance n c.if-links_between.nearest j ≤ distance n (get_or asked l 0) j) k
                (λ l below. rw near (omega (arith, less, so_far.least l below))) (rw near (omega arith));
            within = rw near (c.requires.places (get_or asked k 0) member);
          }
      | else-links_between w ↦
          let near : c.if-links_between.nearest ≡ c.loop-other.nearest = w.nearest-is in
          let more : distance n c.loop-other.nearest j ≤ distance n (get_or asked k 0) j =
          omega (arith, w.if-links_between.false, c.links_between.ensures, c.links_between-in-loop-other.ensures) in
          record {
            one = rw near so_far.one;
            least = below_more (λ (l : ℕ). distance n c.if-links_between.nearest j ≤ distance n (get_or asked l 0) j) k
                (λ l below. rw near (so_far.least l below)) (rw near more);
            within = rw near so_far.within;
          }
    ]

pub returns : goal.returns
returns c =
    let n : ℕ = c.args.nodes in let j : ℕ = c.args.place in let near : ℕ = c.loop-other.nearest in
    let least : (i : ℕ) → Contains c.args.asked.now i → distance n near j ≤ distance n i j =
    each_asked c.args.asked.now (λ (k : ℕ). distance n near j ≤ distance n k j)
    (λ k l. c.loop-other.invariant.least k (omega arith)) in
    elim (cases_eq near j) [
      | inl same ↦ inl (
        same,
        λ i asked. farthest_tells n i j (c.requires.places i asked) c.requires.place
            (subst (λ (k : ℕ). distance n k j ≤ distance n i j) same (least i asked)),
      )
      | inr other ↦ elim c.loop-other.invariant.one [
        | inl none ↦ absurd (other none)
        | inr member ↦ inr (
          member,
          other,
          λ i asked ne apart.
              let differ : distance n i j ≢ distance n near j = λ e. apart
              (distance_tells n i near j (c.requires.places i asked) (c.requires.places near member) e) in
              omega (arith, least i asked, differ),
        )
      ]
    ]
