-- A turn of a node keeps an election guarded: no message comes home but to a node of at least its rank.
use Rattle.std.proofs.Common.{◌≡◌, ◌≢◌, ℕ, ◌+◌, ◌-◌, ◌<◌, ◌≤◌, ◌⊎◌, inl, inr, List, [], ◌∷◌, ◌++◌}
use Rattle.std.proofs.Common.{refl, sym, ◌∙◌, subst, arith}
use Rattle.std.proofs.lemmas.Bool.{cases_eq, cases_lt}
use Rattle.ira_event.specs.declared.msg.Msg.{Msg}
use Rattle.ira_node.specs.declared.phase.Phase.{Phase}
use Rattle.ira_node.specs.declared.phase.Phase.TheVariants.{Choosing, Active, Passive, Leader, Yielding}
use Rattle.ira_node.specs.Msg.{IsGreater, IsEqual}
use Rattle.ira_order.specs.Ring.{prev}
use Rattle.ira_election.proofs.Election.{IsAt, Has, IsAtMost, IsUnder, HasRank, IsReached, IsAlive, HasAhead, IsHeld}
use Rattle.ira_election.proofs.Election.{IsInFront, IsGuarded}
use Rattle.ira_election.proofs.Ranks.{at_most_refl, at_most_trans, at_most_same, under_trans, most_under, under_most}
use Rattle.ira_election.proofs.Ranks.{under_not, one_rank}
use Rattle.ira_election.proofs.Turns.{Turn, turn_draw, turn_pass, turn_give, turn_meet, turn_purge, turn_tie}
use Rattle.ira_election.proofs.Turns.{turn_win, IsRaised}
use Rattle.ira_election.proofs.Turns.{HasTurn, IsUnseen, Put, put_draw, put_raise, at_prev, at_next, one_node}
use Rattle.ira_election.proofs.Turns.{one_place, one_hop}
use Rattle.ira_election.proofs.Turns.{own_hop, first_hop, later_hop, home_at, hop_to, has_split, split_of, has_front}
use Rattle.ira_election.proofs.Turns.{lp, came, took, first_there, put_is, Old, splits}

-- ---- ranks

-- at least this rank, of a phase
abbrev Least : Phase → ℕ → ℕ → Type 0
Least p x y = (u : ℕ) × (v : ℕ) × HasRank p u v × IsAtMost x y u v

-- a rank stays or rises in a turn, or a greater message is received
rank_on : (n : ℕ) (p q : Phase) (taken put : List Msg) (u v : ℕ) → Turn n p q taken put → HasRank p u v
    → Least q u v ⊎ ((m0 : Msg) × (taken ≡ m0 ∷ []) × IsUnder u v m0.round m0.id)
rank_on n p q taken put u v (turn_draw r d m1 ep eq et eo er ed eh cl) h =
    let is : HasRank (Choosing r) u v = subst (λ (k : Phase). HasRank k u v) ep h in
    inl (r, d, subst (λ (k : Phase). HasRank k r d) (sym eq) (refl, refl), inr (is.0, omega (arith, is.1)))
rank_on n p q taken put u v (turn_pass m0 m1 ep eq et eo up dk) h =
    absurd (subst (λ (k : Phase). HasRank k u v) ep h)
rank_on n p q taken put u v (turn_give r d m0 m1 ep eq g et eo up dk) h =
    let is : HasRank (Active r d) u v = subst (λ (k : Phase). HasRank k u v) ep h in
    inr (m0, et, greater g is)
  where
    greater : IsGreater m0 r d → HasRank (Active r d) u v → IsUnder u v m0.round m0.id
    greater (inl g) is = inl (omega (arith, is.0))
    greater (inr g) is = inr (is.0 ∙ sym g.0, omega (arith, is.1, g.1))
rank_on n p q taken put u v (turn_meet r d m0 m1 ep eq g short et eo up dirt) h =
    inl (u, v, subst (λ (k : Phase). HasRank k u v) (ep ∙ sym eq) h, at_most_refl u v u v refl refl)
rank_on n p q taken put u v (turn_purge r d m0 ep eq less et eo) h =
    inl (u, v, subst (λ (k : Phase). HasRank k u v) (ep ∙ sym eq) h, at_most_refl u v u v refl refl)
rank_on n p q taken put u v (turn_tie r d m0 ep eq same whole dy et eo) h =
    let is : HasRank (Active r d) u v = subst (λ (k : Phase). HasRank k u v) ep h in
    inl (r + 1, 0, subst (λ (k : Phase). HasRank k (r + 1) 0) (sym eq) (refl, refl), inl (omega (arith, is.0)))
rank_on n p q taken put u v (turn_win r d m0 ep eq g hop c et eo) h =
    let is : HasRank (Active r d) u v = subst (λ (k : Phase). HasRank k u v) ep h in
    inl (r, d, subst (λ (k : Phase). HasRank k r d) (sym eq) (refl, refl), at_most_refl u v r d is.0 is.1)

-- a node that passes a message on has no greater rank than it
raise_rank : (p : Phase) (m0 : Msg) (n u v : ℕ)
    → ((x y : ℕ) → p ≡ Active x y → IsGreater m0 x y ⊎ (IsEqual m0 x y × (m0.hop < n)))
    → ((r : ℕ) → p ≡ Choosing r → ⊥) → ((x y : ℕ) → p ≡ Leader x y → ⊥) → HasRank p u v
    → IsAtMost u v m0.round m0.id
raise_rank (Choosing r) m0 n u v own nc nl h = absurd (nc r refl)
raise_rank (Leader r d) m0 n u v own nc nl h = absurd (nl r d refl)
raise_rank Passive m0 n u v own nc nl h = absurd h
raise_rank Yielding m0 n u v own nc nl h = absurd h
raise_rank (Active r d) m0 n u v own nc nl h = elim (own r d refl) [
  | inl g ↦ elim g [
    | inl more ↦ inl (omega (arith, h.0))
    | inr same ↦ inr (h.0 ∙ sym same.0, omega (arith, h.1, same.1))
  ]
  | inr s ↦ inr (h.0 ∙ sym s.0.0, omega (arith, h.1, s.0.1))
]

-- a node that passes a message on, and has no lesser rank, has it from one that hasn't gone the whole way
raise_short : (p : Phase) (m0 : Msg) (n u v : ℕ)
    → ((x y : ℕ) → p ≡ Active x y → IsGreater m0 x y ⊎ (IsEqual m0 x y × (m0.hop < n)))
    → ((r : ℕ) → p ≡ Choosing r → ⊥) → ((x y : ℕ) → p ≡ Leader x y → ⊥) → HasRank p u v
    → IsAtMost m0.round m0.id u v → m0.hop < n
raise_short (Choosing r) m0 n u v own nc nl h most = absurd (nc r refl)
raise_short (Leader r d) m0 n u v own nc nl h most = absurd (nl r d refl)
raise_short Passive m0 n u v own nc nl h most = absurd h
raise_short Yielding m0 n u v own nc nl h most = absurd h
raise_short (Active r d) m0 n u v own nc nl h most = elim (own r d refl) [
  | inr s ↦ s.1
  | inl g ↦ absurd (under_not u v m0.round m0.id (under g) most)
]
  where
    under : IsGreater m0 r d → IsUnder u v m0.round m0.id
    under (inl g) = inl (omega (arith, h.0))
    under (inr g) = inr (h.0 ∙ sym g.0, omega (arith, h.1, g.1))

-- ---- a node ahead of a message

-- it keeps its rank, is still ahead, and such ranks are such others
ahead_on : {n : ℕ} {ph : ℕ → Phase} {a hop : ℕ} {IsSuch : ℕ → ℕ → Type 0} (ph' : ℕ
    → Phase) (hop' : ℕ) (IsSuch' : ℕ → ℕ → Type 0)
    (s : HasAhead n ph a hop IsSuch) → ph' s.b ≡ ph s.b → hop' < s.h → (IsSuch s.u s.v → IsSuch' s.u s.v)
    → HasAhead n ph' a hop' IsSuch'
ahead_on ph' hop' IsSuch' s same low such = record {
  b = s.b;
  h = s.h;
  place = s.place;
  at = s.at;
  later = low;
  u = s.u;
  v = s.v;
  rank = subst (λ (p : Phase). HasRank p s.u s.v) (sym same) s.rank;
  such = such s.such;
}

held_on : {ph : ℕ → Phase} {a : ℕ} {m0 : Msg} (ph' : ℕ → Phase) (m : Msg) (h : IsHeld ph a m0) → ph' a ≡ ph a
    → m.round ≡ m0.round
    → m.id ≡ m0.id → IsHeld ph' a m
held_on {m0 = m0} ph' m h same r d = record {
  u = h.u;
  v = h.v;
  rank = subst (λ (p : Phase). HasRank p h.u h.v) (sym same) h.rank;
  most = at_most_same m.round m.id m0.round m0.id h.u h.v r d h.most;
}

-- ---- a turn

module _ {n i : ℕ} {ph ph' : ℕ → Phase} {Q Q' : ℕ → List Msg} (t : HasTurn n i ph ph' Q Q') (base' : IsAlive n ph' Q')
    (inv : IsGuarded n ph Q) where
  -- what is received is in front of a message that has yet to come there
  in_front : (j a g : ℕ) (m m0 : Msg) (before behind : List Msg) (old : Old t j m before behind) → j < n → a < n
      → IsAt n a j m.hop → t.taken ≡ m0 ∷ [] → IsAt n a (prev n i) g → m.hop ≤ g → IsInFront n Q a m.hop old.front m0
  in_front j a g m m0 before behind old lj la at et there low = elim (cases_lt m.hop g) [
    | inl far ↦ inr (prev n i, g, lp t, far, there, took t m0 et)
    | inr same ↦ inl (old.first m0 et (one_place n a j (prev n i) g la lj (lp t)
        (subst (λ (h : ℕ). IsAt n a j h) (omega arith) at) there))
  ]

  -- the node before one that it has yet to pass
  before_at : (a h hop : ℕ) → a < n → 1 ≤ hop → IsAt n a i h → hop < h → IsAt n a (prev n i) (h - 1)
  before_at a h hop la one at low =
      let ne : a ≢ i = λ e. omega (arith, own_hop n i h (subst (λ (k : ℕ). IsAt n k i h) e at)) in
      at_prev n a i (h - 1) la t.li ne (subst (λ (g : ℕ). IsAt n a i g) (omega arith) at)

  -- where a message is received that is greater than node i's rank, a node ahead of a lesser one has at least its rank,
  -- and that isn't node i
  beaten : (j a g u v : ℕ) (m m0 : Msg) (before behind : List Msg) (old : Old t j m before behind) → j < n → a < n
      → IsAt n a j m.hop → t.taken ≡ m0 ∷ [] → IsAt n a (prev n i) g → m.hop ≤ g → HasRank (ph i) u v
      → IsUnder u v m0.round m0.id → IsUnder m.round m.id m0.round m0.id
      → HasAhead n ph' a m.hop (IsAtMost m0.round m0.id)
  beaten j a g u v m m0 before behind old lj la at et there low own below above =
      let s = inv.fronts j m a old.front old.after m0 lj la old.parts at
      (in_front j a g m m0 before behind old lj la at et there low) above in
      let ne : s.b ≢ i = λ q. under_not u v m0.round m0.id below (at_most_trans m0.round m0.id s.u s.v u v s.such
      (one_rank (ph i) s.u s.v u v (subst (λ (k : ℕ). HasRank (ph k) s.u s.v) q s.rank) own)) in
      ahead_on ph' m.hop (IsAtMost m0.round m0.id) s (t.others s.b s.place ne) s.later (λ most. most)

  -- a rank that a node ahead has it keeps, or the message that beats it leaves another
  ranks_on : (j a : ℕ) (m : Msg) (before behind : List Msg) (x y : ℕ) (old : Old t j m before behind) → j < n → a < n
      → IsAt n a j m.hop → HasAhead n ph a m.hop (IsAtMost x y) → IsUnder m.round m.id x y
      → HasAhead n ph' a m.hop (IsAtMost x y)
  ranks_on j a m before behind x y old lj la at s under = elim (cases_eq s.b i) [
    | inr ne ↦ ahead_on ph' m.hop (IsAtMost x y) s (t.others s.b s.place ne) s.later (λ most. most)
    | inl e ↦
        let here : IsAt n a i s.h = subst (λ (k : ℕ). IsAt n a k s.h) e s.at in
        let own : HasRank (ph i) s.u s.v = subst (λ (k : ℕ). HasRank (ph k) s.u s.v) e s.rank in
        elim (rank_on n (ph i) (ph' i) t.taken t.put s.u s.v t.turn own) [
          | inl l ↦ record {
            b = i;
            h = s.h;
            place = t.li;
            at = here;
            later = s.later;
            u = l.0;
            v = l.1;
            rank = l.2;
            such = at_most_trans x y s.u s.v l.0 l.1 s.such l.3;
          }
          | inr g ↦
              let m0 = g.0 in
              let above : IsUnder m.round m.id m0.round m0.id =
              under_trans m.round m.id s.u s.v m0.round m0.id (under_trans m.round m.id x y s.u s.v under s.such)
              (under_most s.u s.v m0.round m0.id g.2) in
              let b = beaten j a (s.h - 1) s.u s.v m m0 before behind old lj la at g.1
              (before_at a s.h m.hop la at.0 here s.later) (omega (arith, s.later)) own g.2 above in
              ahead_on ph' m.hop (IsAtMost x y) b refl b.later (λ most.
              at_most_trans x y s.u s.v b.u b.v s.such
              (at_most_trans s.u s.v m0.round m0.id b.u b.v (under_most s.u s.v m0.round m0.id g.2) most))
        ]
  ]

  -- ---- what a turn puts

  module _ (m m0 : Msg) (et : t.taken ≡ m0 ∷ []) (up : IsRaised m0 m)
      (own : (x y : ℕ) → ph i ≡ Active x y → IsGreater m0 x y ⊎ (IsEqual m0 x y × (m0.hop < n)))
      (nc : (r : ℕ) → ph i ≡ Choosing r → ⊥) (nl : (x y : ℕ) → ph i ≡ Leader x y → ⊥) where
    -- it isn't node i's own
    not_own : (a : ℕ) → a < n → IsAt n a (prev n i) m0.hop → a ≢ i
    not_own a la at e =
        let home : IsAt n i (prev n i) m0.hop = subst (λ (k : ℕ). IsAt n k (prev n i) m0.hop) e at in
        let whole : m0.hop ≡ n = one_hop n i (prev n i) m0.hop n t.li (lp t) home (home_at n i t.li) in
        elim (inv.held (prev n i) m0 a (lp t) (took t m0 et) la at) [
          | inl h ↦ omega (
            arith,
            raise_short (ph i) m0 n h.u h.v own nc nl (subst (λ (k : ℕ). HasRank (ph k) h.u h.v) e h.rank) h.most,
            whole,
          )
          | inr b ↦ omega (arith, b.later, whole, b.at.1)
        ]

    -- a node of a greater rank isn't node i
    not_here : (b u v : ℕ) → HasRank (ph b) u v → IsUnder m0.round m0.id u v → b ≢ i
    not_here b u v rank under e =
        under_not m0.round m0.id u v under
        (raise_rank (ph i) m0 n u v own nc nl (subst (λ (k : ℕ). HasRank (ph k) u v) e rank))

    -- so the message has yet to pass it
    later_on : (a b h : ℕ) → a < n → b < n → IsAt n a i (m0.hop + 1) → IsAt n a b h → m0.hop < h → b ≢ i → m.hop < h
    later_on a b h la lb here far low ne = elim (cases_lt (m0.hop + 1) h) [
      | inl more ↦ omega (arith, up.hop)
      | inr last ↦ absurd (ne (one_place n a b i h la lb t.li far
          (subst (λ (g : ℕ). IsAt n a i g) (omega arith) here)))
    ]

    -- whose it is
    before_is : (a : ℕ) → a < n → IsAt n a i m.hop → IsAt n a (prev n i) m0.hop
    before_is a la at =
        let o = inv.origins (prev n i) m0 (lp t) (took t m0 et) in
        let there : IsAt n o.0 i m.hop = subst (λ (g : ℕ). IsAt n o.0 i g) (sym up.hop)
        (at_next n o.0 i m0.hop o.1 t.li (not_own o.0 o.1 o.2) o.2) in
        subst (λ (k : ℕ). IsAt n k (prev n i) m0.hop) (one_node n o.0 a i m.hop o.1 la t.li there at) o.2

    held_raised : (a : ℕ) → a < n → IsAt n a i m.hop → IsHeld ph' a m ⊎ HasAhead n ph' a m.hop (IsUnder m.round m.id)
    held_raised a la at =
        let before = before_is a la at in
        elim (inv.held (prev n i) m0 a (lp t) (took t m0 et) la before) [
          | inl h ↦ inl (held_on ph' m h (t.others a la (not_own a la before)) up.round up.id)
          | inr s ↦
              let nb = not_here s.b s.u s.v s.rank s.such in
              inr (ahead_on ph' m.hop (IsUnder m.round m.id) s (t.others s.b s.place nb)
              (later_on a s.b s.h la s.place (subst (λ (g : ℕ). IsAt n a i g) up.hop at) s.at s.later nb)
              (most_under m.round m.id m0.round m0.id s.u s.v
              (at_most_refl m.round m.id m0.round m0.id up.round up.id)))
        ]

    fronts_raised : (a : ℕ) (front : List Msg) (g : Msg) → a < n → IsAt n a i m.hop
        → ((o : Msg) → Has front o → Has (Q i) o) → IsInFront n Q' a m.hop front g
        → IsUnder m.round m.id g.round g.id → HasAhead n ph' a m.hop (IsAtMost g.round g.id)
    fronts_raised a front g la at were ahead under =
        let before = before_is a la at in
        let here : IsAt n a i (m0.hop + 1) = subst (λ (h : ℕ). IsAt n a i h) up.hop at in
        let old : IsInFront n Q a m0.hop [] g = elim ahead [
          | inl f ↦ inr (i, m0.hop + 1, t.li, omega arith, here, were g f)
          | inr w ↦ elim (came t w.0 g w.2 w.5) [
            | inl o ↦ inr (w.0, w.1, w.2, omega (arith, w.3, up.hop), w.4, o)
            | inr new ↦ absurd (omega (
              arith,
              w.3,
              one_hop n a i w.1 m.hop la t.li (subst (λ (k : ℕ). IsAt n a k w.1) new.0 w.4) at,
            ))
          ]
        ] in
        let above : IsUnder m0.round m0.id g.round g.id = most_under m0.round m0.id m.round m.id g.round g.id
        (at_most_refl m0.round m0.id m.round m.id (sym up.round) (sym up.id)) under in
        let s = inv.fronts (prev n i) m0 a [] (Q' (prev n i)) g (lp t) la (first_there t m0 et) before old above in
        let nb = not_here s.b s.u s.v s.rank (under_trans m0.round m0.id g.round g.id s.u s.v above s.such) in
        ahead_on ph' m.hop (IsAtMost g.round g.id) s (t.others s.b s.place nb)
        (later_on a s.b s.h la s.place here s.at s.later nb) (λ most. most)

  -- ---- the invariant after it

  origins' : (j : ℕ) (m : Msg) → j < n → Has (Q' j) m → (a : ℕ) × (a < n) × IsAt n a j m.hop
  origins' j m lj is = elim (came t j m lj is) [
    | inl old ↦ inv.origins j m lj old
    | inr new ↦ subst (λ (k : ℕ). (a : ℕ) × (a < n) × IsAt n a k m.hop) (sym new.0) (by_put (put_is t m new.1))
  ]
    where
      by_put : Put n (ph i) (ph' i) t.taken m → (a : ℕ) × (a < n) × IsAt n a i m.hop
      by_put (put_draw r d ep eq er ed eh cl) =
          (i, t.li, subst (λ (g : ℕ). IsAt n i i g) (sym eh) (omega arith, omega (arith, t.two), inl (omega arith)))
      by_put (put_raise m0 et up ends own nc nl dk) =
          let o = inv.origins (prev n i) m0 (lp t) (took t m0 et) in (
            o.0,
            o.1,
            subst (λ (g : ℕ). IsAt n o.0 i g) (sym up.hop)
                (at_next n o.0 i m0.hop o.1 t.li (not_own m m0 et up own nc nl o.0 o.1 o.2) o.2),
          )

  -- a message that was there is held, or beaten
  held_old : (j : ℕ) (m : Msg) (a : ℕ) (before behind : List Msg) → j < n → a < n → IsAt n a j m.hop
      → Old t j m before behind → IsHeld ph' a m ⊎ HasAhead n ph' a m.hop (IsUnder m.round m.id)
  held_old j m a before behind lj la at old =
      elim (inv.held j m a lj (has_split (Q j) m old.front old.after old.parts) la at) [
        | inl h ↦ elim (cases_eq a i) [
          | inr ne ↦ inl (held_on ph' m h (t.others a la ne) refl refl)
          | inl e ↦
              let own : HasRank (ph i) h.u h.v = subst (λ (k : ℕ). HasRank (ph k) h.u h.v) e h.rank in
              elim (rank_on n (ph i) (ph' i) t.taken t.put h.u h.v t.turn own) [
                | inl l ↦ inl (record {
                  u = l.0;
                  v = l.1;
                  rank = subst (λ (k : ℕ). HasRank (ph' k) l.0 l.1) (sym e) l.2;
                  most = at_most_trans m.round m.id h.u h.v l.0 l.1 h.most l.3;
                })
                | inr g ↦
                    let m0 = g.0 in
                    let home : IsAt n a (prev n i) n =
                    subst (λ (k : ℕ). IsAt n k (prev n i) n) (sym e) (home_at n i t.li) in
                    let above = most_under m.round m.id h.u h.v m0.round m0.id h.most g.2 in
                    let s = beaten j a n h.u h.v m m0 before behind old lj la at g.1 home at.1 own g.2 above in
                    inr (ahead_on ph' m.hop (IsUnder m.round m.id) s refl s.later
                    (under_trans m.round m.id m0.round m0.id s.u s.v above))
              ]
        ]
        | inr b ↦
            let most : HasAhead n ph a m.hop (IsAtMost b.u b.v) =
            ahead_on ph m.hop (IsAtMost b.u b.v) b refl b.later (λ under. at_most_refl b.u b.v b.u b.v refl refl) in
            let s = ranks_on j a m before behind b.u b.v old lj la at most b.such in
            inr (ahead_on ph' m.hop (IsUnder m.round m.id) s refl s.later
            (under_trans m.round m.id b.u b.v s.u s.v b.such))
      ]

  held' : (j : ℕ) (m : Msg) (a : ℕ) → j < n → Has (Q' j) m → a < n → IsAt n a j m.hop → IsHeld ph' a m
      ⊎ HasAhead n ph' a m.hop (IsUnder m.round m.id)
  held' j m a lj is la at =
      let s = split_of (Q' j) m is in
      elim (splits t j m s.0 s.1 lj s.2) [
        | inl old ↦ held_old j m a s.0 s.1 lj la at old
        | inr new ↦ by_put (subst (λ (k : ℕ). IsAt n a k m.hop) new.here at) (put_is t m new.put)
      ]
    where
      by_put : IsAt n a i m.hop → Put n (ph i) (ph' i) t.taken m
          → IsHeld ph' a m ⊎ HasAhead n ph' a m.hop (IsUnder m.round m.id)
      by_put here (put_draw r d ep eq er ed eh cl) =
          let own : a ≡ i = first_hop n a i la t.li (subst (λ (g : ℕ). IsAt n a i g) eh here) in
          inl (record {
            u = r;
            v = d;
            rank = subst (λ (k : ℕ). HasRank (ph' k) r d) (sym own)
                (subst (λ (p : Phase). HasRank p r d) (sym eq) (refl, refl));
            most = at_most_refl m.round m.id r d er ed;
          })
      by_put here (put_raise m0 et up ends own nc nl dk) = held_raised m m0 et up own nc nl a la here

  fronts' : (j : ℕ) (m : Msg) (a : ℕ) (front behind : List Msg) (g : Msg) → j < n → a < n → Q' j ≡ front ++ m ∷ behind
      → IsAt n a j m.hop → IsInFront n Q' a m.hop front g → IsUnder m.round m.id g.round g.id
      → HasAhead n ph' a m.hop (IsAtMost g.round g.id)
  fronts' j m a front behind g lj la parts at ahead under = elim (splits t j m front behind lj parts) [
    | inl old ↦ by_old old
    | inr new ↦ by_put (subst (λ (k : ℕ). IsAt n a k m.hop) new.here at) new.ahead (put_is t m new.put)
  ]
    where
      -- a message that was in front too
      by_both : (old : Old t j m front behind) (o : Msg) → IsInFront n Q a m.hop old.front o
          → IsUnder m.round m.id o.round o.id → HasAhead n ph' a m.hop (IsAtMost o.round o.id)
      by_both old o there above =
          ranks_on j a m front behind o.round o.id old lj la at
          (inv.fronts j m a old.front old.after o lj la old.parts at there above) above

      -- one that was put in front
      by_new : (old : Old t j m front behind) (h : ℕ) → m.hop < h → IsAt n a i h → Put n (ph i) (ph' i) t.taken g
          → HasAhead n ph' a m.hop (IsAtMost g.round g.id)
      by_new old h low far (put_draw r d ep eq er ed eh cl) = record {
        b = i;
        h = h;
        place = t.li;
        at = far;
        later = low;
        u = r;
        v = d;
        rank = subst (λ (p : Phase). HasRank p r d) (sym eq) (refl, refl);
        such = at_most_refl g.round g.id r d er ed;
      }
      by_new old h low far (put_raise m0 et up ends own nc nl dk) =
          let same : IsAtMost g.round g.id m0.round m0.id = at_most_refl g.round g.id m0.round m0.id up.round up.id in
          let s = by_both old m0
          (in_front j a (h - 1) m m0 front behind old lj la at et (before_at a h m.hop la at.0 far low) (omega arith))
          (under_trans m.round m.id g.round g.id m0.round m0.id under same) in
          ahead_on ph' m.hop (IsAtMost g.round g.id) s refl s.later
          (at_most_trans g.round g.id m0.round m0.id s.u s.v same)

      by_old : Old t j m front behind → HasAhead n ph' a m.hop (IsAtMost g.round g.id)
      by_old old = elim ahead [
        | inl f ↦ by_both old g (inl (old.ahead g f)) under
        | inr w ↦ elim (came t w.0 g w.2 w.5) [
          | inl o ↦ by_both old g (inr (w.0, w.1, w.2, w.3, w.4, o)) under
          | inr new ↦ by_new old w.1 w.3 (subst (λ (k : ℕ). IsAt n a k w.1) new.0 w.4) (put_is t g new.1)
        ]
      ]

      by_put : IsAt n a i m.hop → ((o : Msg) → Has front o → Has (Q i) o) → Put n (ph i) (ph' i) t.taken m
          → HasAhead n ph' a m.hop (IsAtMost g.round g.id)
      by_put here were (put_raise m0 et up ends own nc nl dk) =
          fronts_raised m m0 et up own nc nl a front g la here were ahead under
      by_put here were (put_draw r d ep eq er ed eh cl) =
          let own : a ≡ i = first_hop n a i la t.li (subst (λ (g : ℕ). IsAt n a i g) eh here) in
          let w : IsReached n ph' g.round g.id = elim ahead [
            | inl f ↦ base'.reached i g t.li (subst (λ (ks : List Msg). Has ks g) (sym t.moves.puts)
                (has_front (Q i) t.put g (were g f)))
            | inr w ↦ base'.reached w.0 g w.2 w.5
          ] in
          let ne : w.0 ≢ i = λ e.
          (let is : HasRank (Active r d) w.1 w.2 = subst (λ (p : Phase). HasRank p w.1 w.2) eq
          (subst (λ (k : ℕ). HasRank (ph' k) w.1 w.2) e w.3.rank) in
          under_not m.round m.id g.round g.id under (at_most_trans g.round g.id w.1 w.2 m.round m.id w.4
          (at_most_refl w.1 w.2 m.round m.id (is.0 ∙ sym er) (is.1 ∙ sym ed)))) in
          let h = hop_to n a w.0 la w.3.place in
          record {
            b = w.0;
            h = h.0;
            place = w.3.place;
            at = h.1;
            later = omega (arith, eh, later_hop n a w.0 h.0 la w.3.place (λ e. ne (sym e ∙ own)) h.1);
            u = w.1;
            v = w.2;
            rank = w.3.rank;
            such = w.4;
          }

  pub guard_keeps : IsGuarded n ph' Q'
  guard_keeps = record { origins = origins'; held = held'; fronts = fronts' }

-- what isn't seen keeps it
pub same_guarded : (n : ℕ) (ph ph' : ℕ → Phase) (Q Q' : ℕ → List Msg) → IsUnseen n ph ph' Q Q' → IsGuarded n ph Q
    → IsGuarded n ph' Q'
same_guarded n ph ph' Q Q' same inv = record {
  origins = λ j m lj is. inv.origins j m lj (subst (λ (ks : List Msg). Has ks m) (same.queues j lj) is);
  held = λ j m a lj is la at.
      elim (inv.held j m a lj (subst (λ (ks : List Msg). Has ks m) (same.queues j lj) is) la at) [
        | inl h ↦ inl (held_on ph' m h (same.phases a la) refl refl)
        | inr b ↦ inr (ahead_on ph' m.hop (IsUnder m.round m.id) b (same.phases b.b b.place) b.later (λ under. under))
      ];
  fronts = λ j m a front behind g lj la parts at ahead under.
      (let there : IsInFront n Q a m.hop front g = elim ahead [
        | inl f ↦ inl f
        | inr w ↦ inr (w.0, w.1, w.2, w.3, w.4, subst (λ (ks : List Msg). Has ks g) (same.queues w.0 w.2) w.5)
      ] in
      let s = inv.fronts j m a front behind g lj la (sym (same.queues j lj) ∙ parts) at there under in
      ahead_on ph' m.hop (IsAtMost g.round g.id) s (same.phases s.b s.place) s.later (λ most. most));
}
