-- Pairs of a round and an ID, rounds first, and the ranks of nodes.
use Rattle.std.proofs.Common.{◌≡◌, ℕ, zero, suc, ◌+◌, ◌<◌, ◌≤◌, ◌⊎◌, inl, inr, refl, sym, ◌∙◌, subst, arith}
use Rattle.std.proofs.lemmas.Bool.{cases_eq, cases_lt}
use Rattle.ira_event.specs.declared.msg.Msg.{Msg}
use Rattle.ira_node.specs.declared.phase.Phase.{Phase}
use Rattle.ira_node.specs.declared.phase.Phase.TheVariants.{Choosing, Active, Passive, Leader, Yielding}
use Rattle.ira_node.specs.Msg.{IsGreater}
use Rattle.ira_election.proofs.Election.{IsAtMost, IsUnder, HasRank, Ranks}

pub at_most_refl : (r d x y : ℕ) → r ≡ x → d ≡ y → IsAtMost r d x y
at_most_refl r d x y p q = inr (p, omega arith)

pub at_most_trans : (a b c d e f : ℕ) → IsAtMost a b c d → IsAtMost c d e f → IsAtMost a b e f
at_most_trans a b c d e f p q = grind arith

pub at_most_same : (a b c d x y : ℕ) → a ≡ c → b ≡ d → IsAtMost c d x y → IsAtMost a b x y
at_most_same a b c d x y p q h = grind arith

pub under_trans : (a b c d e f : ℕ) → IsUnder a b c d → IsAtMost c d e f → IsUnder a b e f
under_trans a b c d e f p q = grind arith

pub most_under : (a b c d e f : ℕ) → IsAtMost a b c d → IsUnder c d e f → IsUnder a b e f
most_under a b c d e f p q = grind arith

pub under_most : (a b c d : ℕ) → IsUnder a b c d → IsAtMost a b c d
under_most a b c d p = grind arith

pub under_not : (a b c d : ℕ) → IsUnder a b c d → IsAtMost c d a b → ⊥
under_not a b c d p q = grind arith

pub greater_under : (m : Msg) (r d : ℕ) → IsGreater m r d → IsUnder r d m.round m.id
greater_under m r d g = grind arith

-- a node of a next round has no rank in this one
pub next_not : (r x y : ℕ) → IsAtMost (r + 1) 0 x y → x ≡ r → ⊥
next_not r x y p e = grind arith

at_most_or : (a b c d : ℕ) → IsAtMost a b c d ⊎ IsAtMost c d a b
at_most_or a b c d = elim (cases_lt a c) [
  | inl less ↦ inl (inl less)
  | inr ge ↦ elim (cases_lt c a) [
    | inl more ↦ inr (inl more)
    | inr le ↦ elim (cases_lt b d) [
      | inl less ↦ inl (inr (omega arith, omega arith))
      | inr more ↦ inr (inr (omega arith, omega arith))
    ]
  ]
]

-- ---- of phases

pub one_rank : (p : Phase) (u v x y : ℕ) → HasRank p u v → HasRank p x y → IsAtMost u v x y
one_rank (Choosing r) u v x y h k = at_most_refl u v x y (h.0 ∙ sym k.0) (h.1 ∙ sym k.1)
one_rank (Active r d) u v x y h k = at_most_refl u v x y (h.0 ∙ sym k.0) (h.1 ∙ sym k.1)
one_rank (Leader r d) u v x y h k = at_most_refl u v x y (h.0 ∙ sym k.0) (h.1 ∙ sym k.1)
one_rank Passive u v x y h k = absurd h
one_rank Yielding u v x y h k = absurd h

rank_or : (p : Phase) → ((x : ℕ) × (y : ℕ) × HasRank p x y) ⊎ ((u v : ℕ) → HasRank p u v → ⊥)
rank_or (Choosing r) = inl (r, 0, (refl, refl))
rank_or (Active r d) = inl (r, d, (refl, refl))
rank_or (Leader r d) = inl (r, d, (refl, refl))
rank_or Passive = inr (λ u v h. h)
rank_or Yielding = inr (λ u v h. h)

-- of the first k nodes none exceeds this one
pub record Highest (n : ℕ) (ph : ℕ → Phase) (k : ℕ) : Type 0 where
  pub a : ℕ
  pub x : ℕ
  pub y : ℕ
  pub ranks : Ranks n ph a x y
  pub above : (j u v : ℕ) → j < k → HasRank (ph j) u v → IsAtMost u v x y

pub highest : (n : ℕ) (ph : ℕ → Phase) (a x y : ℕ) → Ranks n ph a x y → (k : ℕ) → k ≤ n → Highest n ph k
highest n ph a x y first zero low =
    record { a = a; x = x; y = y; ranks = first; above = λ j u v lj h. absurd (omega arith) }
highest n ph a x y first (suc k) low =
    let w = highest n ph a x y first k (omega arith) in
    elim (rank_or (ph k)) [
      | inr none ↦ more w w.a w.x w.y w.ranks (λ u v h. absurd (none u v h)) (λ u v h. h)
      | inl here ↦ elim (at_most_or here.0 here.1 w.x w.y) [
        | inl le ↦ more w w.a w.x w.y w.ranks
            (λ u v h. at_most_trans u v here.0 here.1 w.x w.y (one_rank (ph k) u v here.0 here.1 h here.2) le)
            (λ u v h. h)
        | inr ge ↦ more w k here.0 here.1 (record { place = omega arith; rank = here.2 })
            (λ u v h. one_rank (ph k) u v here.0 here.1 h here.2)
            (λ u v h. at_most_trans u v w.x w.y here.0 here.1 h ge)
      ]
    ]
  where
    -- where the rank of node k is covered, and so is what the others' are at most
    more : (w : Highest n ph k) (a x y : ℕ) → Ranks n ph a x y → ((u v : ℕ) → HasRank (ph k) u v → IsAtMost u v x y)
        → ((u v : ℕ) → IsAtMost u v w.x w.y → IsAtMost u v x y) → Highest n ph (suc k)
    more w a x y ranks here before = record {
      a = a;
      x = x;
      y = y;
      ranks = ranks;
      above = λ j u v lj h. elim (cases_eq j k) [
        | inl e ↦ here u v (subst (λ (q : ℕ). HasRank (ph q) u v) e h)
        | inr ne ↦ before u v (w.above j u v (omega arith) h)
      ];
    }
