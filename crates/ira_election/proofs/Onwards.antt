-- Who drew the greatest of a round isn't stopped: its message comes home, and it goes on to the next round or leads.
use Rattle.std.proofs.Common.{◌≡◌, ◌≢◌, ℕ, zero, suc, ◌+◌, ◌-◌, ◌<◌, ◌≤◌, ◌⊎◌, inl, inr, List, [], ◌∷◌, ◌++◌}
use Rattle.std.proofs.Common.{refl, sym, ◌∙◌, subst, ap, arith, append_assoc}
use Rattle.std.proofs.lemmas.Bool.{cases_eq, cases_lt}
use Rattle.ira_event.specs.declared.msg.Msg.{Msg}
use Rattle.ira_node.specs.declared.phase.Phase.{Phase}
use Rattle.ira_node.specs.declared.phase.Phase.TheVariants.{Choosing, Active, Passive, Leader, Yielding}
use Rattle.ira_node.specs.Msg.{IsEqual, IsLess}
use Rattle.ira_order.specs.Ring.{prev}
use Rattle.ira_election.proofs.Election.{IsAt, Has, IsAtMost, IsUnder, HasRank, IsAlive, IsOrderly}
use Rattle.ira_election.proofs.Ranks.{at_most_refl, at_most_trans, at_most_same, under_not}
use Rattle.ira_election.proofs.Turns.{Turn, turn_draw, turn_pass, turn_give, turn_meet, turn_purge, turn_tie}
use Rattle.ira_election.proofs.Turns.{turn_win, IsRaised, HasTurn, IsUnseen, Put, put_draw, put_raise, active_of}
use Rattle.ira_election.proofs.Turns.{not_leader, at_home, home_at, at_next, at_prev, one_place, one_hop, own_hop}
use Rattle.ira_election.proofs.Turns.{stays_passive, lp, came, put_is}
use Rattle.ira_election.proofs.Drawn.{IsTold, IsGrown, IsBack, HasBefore, Next, next_same, next_gives}
use Rattle.ira_election.proofs.Drawn.{next_ties, next_wins, next_is, back_one, back_none, back_to, chooses_later}

-- ---- definitions

-- nobody drew a greater ID in the round
abbrev pub IsBest : ℕ → (ℕ → ℕ → ℕ → Type 0) → ℕ → ℕ → Type 0
IsBest n D x y = (k e : ℕ) → k < n → D k x e → e ≤ y

-- at place k is message g, which is in front of that of node a, at place j after so many hops
abbrev pub IsFront : ℕ → (ℕ → List Msg) → ℕ → ℕ → ℕ → List Msg → ℕ → Msg → Type 0
IsFront n Q a j hop front k g =
    ((k ≡ j) × Has front g) ⊎ ((h : ℕ) × (hop < h) × IsAt n a k h × Has (Q k) g)

-- the message of node a, which has the pair, is on its way, and nothing that it has yet to meet is greater
pub record IsFree (n : ℕ) (ph : ℕ → Phase) (Q : ℕ → List Msg) (a x y : ℕ) : Type 0 where
  pub j : ℕ
  pub m : Msg
  pub front : List Msg
  pub behind : List Msg
  pub place : j < n
  pub parts : Q j ≡ front ++ m ∷ behind
  pub round : m.round ≡ x
  pub id : m.id ≡ y
  pub at : IsAt n a j m.hop
  pub lower : (k : ℕ) (g : Msg) → k < n → IsFront n Q a j m.hop front k g → IsAtMost g.round g.id x y
  -- no message of its round that is in front of it has passed node a
  pub unmet : (k : ℕ) (g : Msg) (b : ℕ) → k < n → IsFront n Q a j m.hop front k g → g.round ≡ x → IsBack n a b k
      → b + 2 ≤ g.hop → ⊥
  pub nodes : (b h u v : ℕ) → b < n → m.hop < h → IsAt n a b h → HasRank (ph b) u v → IsAtMost u v x y

-- what has become of node a, which drew the greatest of round x
pub data Goes (ph : ℕ → Phase) (D : ℕ → ℕ → ℕ → Type 0) (a x y : ℕ) : Type 0 where
  goes_active : ph a ≡ Active x y → Goes ph D a x y
  goes_leader : ph a ≡ Leader x y → Goes ph D a x y
  goes_chooses : ph a ≡ Choosing (x + 1) → Goes ph D a x y
  goes_on : (e : ℕ) → D a (x + 1) e → Goes ph D a x y

-- S j: node j begins in the election; N j: it doesn't
pub record IsGoing (n : ℕ) (ph : ℕ → Phase) (Q : ℕ → List Msg) (D L : ℕ → ℕ → ℕ → Type 0)
    (S N : ℕ → Type 0) : Type 0 where
  pub free : (a x y : ℕ) → a < n → ph a ≡ Active x y → IsBest n D x y → IsFree n ph Q a x y
  pub goes : (a x y : ℕ) → a < n → D a x y → IsBest n D x y → Goes ph D a x y
  pub positive : (a x : ℕ) → a < n → ph a ≡ Choosing x → 1 ≤ x
  pub rounds : (a x y : ℕ) → a < n → D a x y → 1 ≤ x
  pub still : (a x y : ℕ) → a < n → L a x y → ph a ≡ Leader x y
  pub begun : (a : ℕ) → a < n → S a → (ph a ≡ Choosing 1) ⊎ ((d : ℕ) × D a 1 d)
  pub never : (a : ℕ) → a < n → N a → (ph a ≡ Passive) × ((x y : ℕ) → D a x y → ⊥)

-- ---- of one node

few_taken : (n : ℕ) (p q : Phase) (taken put : List Msg) → Turn n p q taken put
    → (taken ≡ []) ⊎ ((m0 : Msg) × (taken ≡ m0 ∷ []))
few_taken n p q taken put (turn_draw r d m1 ep eq et eo er ed eh cl) = inl et
few_taken n p q taken put (turn_pass m0 m1 ep eq et eo up dk) = inr (m0, et)
few_taken n p q taken put (turn_give r d m0 m1 ep eq g et eo up dk) = inr (m0, et)
few_taken n p q taken put (turn_meet r d m0 m1 ep eq g short et eo up dirt) = inr (m0, et)
few_taken n p q taken put (turn_purge r d m0 ep eq g et eo) = inr (m0, et)
few_taken n p q taken put (turn_tie r d m0 ep eq g whole dy et eo) = inr (m0, et)
few_taken n p q taken put (turn_win r d m0 ep eq g hop c et eo) = inr (m0, et)

-- a node that chooses draws
pub record Draws (q : Phase) (put : List Msg) (x : ℕ) : Type 0 where
  pub id : ℕ
  pub m : Msg
  pub active : q ≡ Active x id
  pub puts : put ≡ m ∷ []
  pub round : m.round ≡ x
  pub its : m.id ≡ id
  pub hop : m.hop ≡ 1

draws_of : (n : ℕ) (p q : Phase) (taken put : List Msg) (x : ℕ) → Turn n p q taken put → p ≡ Choosing x
    → Draws q put x
draws_of n p q taken put x (turn_draw r d m1 ep eq et eo er ed eh cl) e =
    let z : Choosing r ≡ Choosing x = sym ep ∙ e in
    let rx : r ≡ x = cc in
    record {
      id = d;
      m = m1;
      active = eq ∙ ap (λ (u : ℕ). Active u d) rx;
      puts = eo;
      round = er ∙ rx;
      its = ed;
      hop = eh;
    }
draws_of n p q taken put x (turn_pass m0 m1 ep eq et eo up dk) e = (let z = sym ep ∙ e in absurd cc)
draws_of n p q taken put x (turn_give r d m0 m1 ep eq g et eo up dk) e = (let z = sym ep ∙ e in absurd cc)
draws_of n p q taken put x (turn_meet r d m0 m1 ep eq g short et eo up dirt) e = (let z = sym ep ∙ e in absurd cc)
draws_of n p q taken put x (turn_purge r d m0 ep eq g et eo) e = (let z = sym ep ∙ e in absurd cc)
draws_of n p q taken put x (turn_tie r d m0 ep eq g whole dy et eo) e = (let z = sym ep ∙ e in absurd cc)
draws_of n p q taken put x (turn_win r d m0 ep eq g hop c et eo) e = (let z = sym ep ∙ e in absurd cc)

-- how a node came by its rank: it had it, or drew, or its message came home
pub data Came (n : ℕ) (p : Phase) (q : Phase) (taken : List Msg) (u v : ℕ) : Type 0 where
  came_same : HasRank p u v → Came n p q taken u v
  came_draw : p ≡ Choosing u → q ≡ Active u v → Came n p q taken u v
  came_tie : (r d : ℕ) (m0 : Msg) → p ≡ Active r d → u ≡ r + 1 → v ≡ 0 → taken ≡ m0 ∷ [] → IsEqual m0 r d → m0.hop ≡ n
      → Came n p q taken u v

came_of : (n : ℕ) (p q : Phase) (taken put : List Msg) (u v : ℕ) → Turn n p q taken put → HasRank q u v
    → Came n p q taken u v
came_of n p q taken put u v (turn_draw r d m1 ep eq et eo er ed eh cl) h =
    let is : HasRank (Active r d) u v = subst (λ (k : Phase). HasRank k u v) eq h in
    came_draw (ep ∙ ap Choosing (sym is.0))
    (eq ∙ ap (λ (k : ℕ). Active k d) (sym is.0) ∙ ap (λ (k : ℕ). Active u k) (sym is.1))
came_of n p q taken put u v (turn_pass m0 m1 ep eq et eo up dk) h = absurd (subst (λ (k : Phase). HasRank k u v) eq h)
came_of n p q taken put u v (turn_give r d m0 m1 ep eq g et eo up dk) h =
    absurd (subst (λ (k : Phase). HasRank k u v) eq h)
came_of n p q taken put u v (turn_meet r d m0 m1 ep eq g short et eo up dirt) h =
    came_same (subst (λ (k : Phase). HasRank k u v) (eq ∙ sym ep) h)
came_of n p q taken put u v (turn_purge r d m0 ep eq g et eo) h =
    came_same (subst (λ (k : Phase). HasRank k u v) (eq ∙ sym ep) h)
came_of n p q taken put u v (turn_tie r d m0 ep eq g whole dy et eo) h =
    let is : HasRank (Choosing (r + 1)) u v = subst (λ (k : Phase). HasRank k u v) eq h in
    came_tie r d m0 ep is.0 is.1 et g whole
came_of n p q taken put u v (turn_win r d m0 ep eq g hop c et eo) h =
    let is : HasRank (Leader r d) u v = subst (λ (k : Phase). HasRank k u v) eq h in
    came_same (subst (λ (k : Phase). HasRank k u v) (sym ep) is)

-- a message of at least the rank of the node that takes it is put again, where it doesn't come home there
pub data Through (n : ℕ) (p q : Phase) (put : List Msg) (m : Msg) : Type 0 where
  through : (m1 : Msg) → put ≡ m1 ∷ [] → IsRaised m m1 → (p ≡ q → (x y : ℕ) → p ≡ Active x y → m.hop < n)
      → Through n p q put m
  through_home : m.hop ≡ n → (q ≡ p → ⊥) → Through n p q put m

through_of : (n : ℕ) (p q : Phase) (taken put : List Msg) (m : Msg) → Turn n p q taken put → taken ≡ m ∷ []
    → ((u v : ℕ) → HasRank p u v → IsAtMost u v m.round m.id) → Through n p q put m
through_of n p q taken put m (turn_draw r d m1 ep eq et eo er ed eh cl) e low =
    (let z : [] ≡ m ∷ [] = sym et ∙ e in absurd cc)
through_of n p q taken put m (turn_pass m0 m1 ep eq et eo up dk) e low =
    let z : m0 ∷ [] ≡ m ∷ [] = sym et ∙ e in
    let same : m0 ≡ m = cc in
    through m1 eo (subst (λ (k : Msg). IsRaised k m1) same up) (λ s x y a. (let w = sym ep ∙ a in absurd cc))
through_of n p q taken put m (turn_give r d m0 m1 ep eq g et eo up dk) e low =
    let z : m0 ∷ [] ≡ m ∷ [] = sym et ∙ e in
    let same : m0 ≡ m = cc in
    through m1 eo (subst (λ (k : Msg). IsRaised k m1) same up) (λ s x y a. (let w = sym ep ∙ s ∙ eq in absurd cc))
through_of n p q taken put m (turn_meet r d m0 m1 ep eq g short et eo up dirt) e low =
    let z : m0 ∷ [] ≡ m ∷ [] = sym et ∙ e in
    let same : m0 ≡ m = cc in
    through m1 eo (subst (λ (k : Msg). IsRaised k m1) same up)
    (λ s x y a. subst (λ (k : Msg). k.hop < n) same short)
through_of n p q taken put m (turn_purge r d m0 ep eq less et eo) e low =
    let z : m0 ∷ [] ≡ m ∷ [] = sym et ∙ e in
    let same : m0 ≡ m = cc in
    let most : IsAtMost r d m.round m.id = low r d (subst (λ (k : Phase). HasRank k r d) (sym ep) (refl, refl)) in
    let under : IsLess m r d = subst (λ (k : Msg). IsLess k r d) same less in
    absurd (under_not m.round m.id r d (as_under under) most)
  where
    as_under : IsLess m r d → IsUnder m.round m.id r d
    as_under (inl l) = inl l
    as_under (inr l) = inr l
through_of n p q taken put m (turn_tie r d m0 ep eq g whole dy et eo) e low =
    let z : m0 ∷ [] ≡ m ∷ [] = sym et ∙ e in
    let same : m0 ≡ m = cc in
    through_home (subst (λ (k : Msg). k.hop ≡ n) same whole)
    (λ s. (let w : Choosing (r + 1) ≡ Active r d = sym eq ∙ s ∙ ep in cc))
through_of n p q taken put m (turn_win r d m0 ep eq g hop c et eo) e low =
    let z : m0 ∷ [] ≡ m ∷ [] = sym et ∙ e in
    let same : m0 ≡ m = cc in
    through_home (subst (λ (k : Msg). k.hop ≡ n) same hop)
    (λ s. (let w : Leader r d ≡ Active r d = sym eq ∙ s ∙ ep in cc))

-- ---- a turn

module _ {n i : ℕ} {ph ph' : ℕ → Phase} {Q Q' : ℕ → List Msg} {D D' L L' : ℕ → ℕ → ℕ → Type 0} {S N : ℕ → Type 0}
    (t : HasTurn n i ph ph' Q Q') (g : IsGrown i (ph' i) D D' L L') (alive : IsAlive n ph Q)
    (told : IsTold n ph Q D L) (inv : IsGoing n ph Q D L S N) where
  best_was : (x y : ℕ) → IsBest n D' x y → IsBest n D x y
  best_was x y best k e lk drew = best k e lk (g.grow k x e drew)

  -- a message stays where it is, or is taken
  pub record Stays (j : ℕ) (front : List Msg) (m : Msg) : Type 0 where
    pub before : List Msg
    pub after : List Msg
    pub parts : Q' j ≡ before ++ m ∷ after
    pub were : (o : Msg) → Has before o → Has front o
    -- what is taken from its place was in front of it
    pub first : (m0 : Msg) → t.taken ≡ m0 ∷ [] → j ≡ prev n i → Has front m0

  stays_or : (j : ℕ) (front : List Msg) (m : Msg) (behind : List Msg) → j < n → Q j ≡ front ++ m ∷ behind
      → Stays j front m ⊎ ((j ≡ prev n i) × (t.taken ≡ m ∷ []))
  stays_or j front m behind lj parts = elim (cases_eq j (prev n i)) [
    | inr far ↦ elim (cases_eq j i) [
      | inl e ↦ inl (record {
        before = front;
        after = behind ++ t.put;
        parts = subst (λ (k : ℕ). Q' k ≡ front ++ m ∷ (behind ++ t.put)) (sym e) (t.moves.puts
            ∙ ap (λ (ks : List Msg). ks ++ t.put) (subst (λ (k : ℕ). Q k ≡ front ++ m ∷ behind) e parts)
            ∙ append_assoc front (m ∷ behind) t.put);
        were = λ o h. h;
        first = λ m0 et at. absurd (far at);
      })
      | inr ne ↦ inl (record {
        before = front;
        after = behind;
        parts = t.moves.rest j lj ne far ∙ parts;
        were = λ o h. h;
        first = λ m0 et at. absurd (far at);
      })
    ]
    | inl e ↦
        let here : t.taken ++ Q' (prev n i) ≡ front ++ m ∷ behind =
        sym t.moves.gets ∙ subst (λ (k : ℕ). Q k ≡ front ++ m ∷ behind) e parts in
        subst (λ (k : ℕ). Stays k front m ⊎ ((k ≡ prev n i) × (t.taken ≡ m ∷ []))) (sym e)
        (elim (few_taken n (ph i) (ph' i) t.taken t.put t.turn) [
          | inl none ↦ inl (record {
            before = front;
            after = behind;
            parts = ap (λ (ks : List Msg). ks ++ Q' (prev n i)) (sym none) ∙ here;
            were = λ o h. h;
            first = λ m0 et at. (let z : [] ≡ m0 ∷ [] = sym none ∙ et in absurd cc);
          })
          | inr one ↦ by_front front one.0 one.1 (ap (λ (ks : List Msg). ks ++ Q' (prev n i)) (sym one.1) ∙ here)
        ])
  ]
    where
      by_front : (front : List Msg) (m0 : Msg) → t.taken ≡ m0 ∷ [] → m0 ∷ Q' (prev n i) ≡ front ++ m ∷ behind
          → Stays (prev n i) front m ⊎ ((prev n i ≡ prev n i) × (t.taken ≡ m ∷ []))
      by_front [] m0 et e =
          let same : m0 ≡ m = cc in
          inr (refl, et ∙ ap (λ (k : Msg). k ∷ []) same)
      by_front (f ∷ fs) m0 et e =
          let same : m0 ≡ f = cc in
          let rest : Q' (prev n i) ≡ fs ++ m ∷ behind = cc in
          inl (record {
            before = fs;
            after = behind;
            parts = rest;
            were = λ o h. inr h;
            first = λ k ek at.
                (let z : m0 ∷ [] ≡ k ∷ [] = sym et ∙ ek in
                let q : m0 ≡ k = cc in
                inl (sym q ∙ same));
          })

  -- ---- a node that chooses is in the last round

  low_rank : (x y b u v : ℕ) → ph i ≡ Choosing x → IsBest n D x y → b < n → HasRank (ph b) u v → IsAtMost u v x y
  low_rank x y b u v chose best lb rank = by_phase (ph b) refl rank
    where
      one : 1 ≤ x
      one = inv.positive i x t.li chose

      by_before : (r : ℕ) → u ≡ r + 1 → (1 ≤ r → HasBefore n ph D b r) → u ≤ x
      by_before r up before = elim (cases_lt 0 r) [
        | inr none ↦ omega (arith, one, up)
        | inl more ↦
            let w = before (omega arith) in
            elim (w.settled.all i t.li) [
              | inl passive ↦ (let z = sym passive ∙ chose in absurd cc)
              | inr drew ↦ omega (arith, chooses_later x (told.stands i r w.id t.li drew) chose, up)
            ]
      ]

      less : (a : ℕ) → a ≤ x → (a ≡ x → v ≤ y) → IsAtMost a v x y
      less a low same = elim (cases_lt a x) [
        | inl l ↦ inl l
        | inr e ↦ (let q : a ≡ x = omega arith in inr (q, same q))
      ]

      by_drew : D b u v → IsAtMost u v x y
      by_drew drew =
          let pos = inv.rounds b u v lb drew in
          less u (by_before (u - 1) (omega arith) (λ more. told.before b (u - 1) v lb more
          (subst (λ (k : ℕ). D b k v) (omega arith) drew)))
          (λ q. best b v lb (subst (λ (k : ℕ). D b k v) q drew))

      by_phase : (p : Phase) → ph b ≡ p → HasRank p u v → IsAtMost u v x y
      by_phase Passive is h = absurd h
      by_phase Yielding is h = absurd h
      by_phase (Choosing r) is h =
          let pos = inv.positive b r lb is in
          less u (by_before (u - 1) (omega (arith, h.0, pos)) (λ more. told.chooses b (u - 1) lb more
          (is ∙ ap Choosing (omega (arith, h.0, pos))))) (λ q. omega (arith, h.1))
      by_phase (Active r d) is h =
          by_drew (subst (λ (k : ℕ). D b k v) (sym h.0) (subst (λ (k : ℕ). D b r k) (sym h.1)
          (told.active b r d lb is)))
      by_phase (Leader r d) is h =
          by_drew (subst (λ (k : ℕ). D b k v) (sym h.0) (subst (λ (k : ℕ). D b r k) (sym h.1)
          (told.led b r d lb (told.leader b r d lb is)).drew))

  drawn : (x y : ℕ) → ph i ≡ Choosing x → ph' i ≡ Active x y → IsBest n D' x y → IsFree n ph' Q' i x y
  drawn x y chose is best =
      let w : Draws (ph' i) t.put x = draws_of n (ph i) (ph' i) t.taken t.put x t.turn chose in
      let z : Active x w.id ≡ Active x y = sym w.active ∙ is in
      let iy : w.id ≡ y = cc in
      record {
        j = i;
        m = w.m;
        front = Q i;
        behind = [];
        place = t.li;
        parts = t.moves.puts ∙ ap (λ (ks : List Msg). Q i ++ ks) w.puts;
        round = w.round;
        id = w.its ∙ iy;
        at = subst (λ (h : ℕ). IsAt n i i h) (sym w.hop) (omega arith, omega (arith, t.two), inl (omega arith));
        lower = λ k o lk f.
            (let was = there w k o lk f in
            let r = alive.reached k o lk was in
            at_most_trans o.round o.id r.1 r.2 x y r.4
            (low_rank x y r.0 r.1 r.2 chose (best_was x y best) r.3.place r.3.rank));
        unmet = λ k o b lk f same back far.
            elim (told.passed k o i b lk (there w k o lk f) t.li back far) [
              | inl passive ↦ (let q = sym passive ∙ chose in cc)
              | inr drew ↦
                  let here : D i x o.id = subst (λ (u : ℕ). D i u o.id) same drew in
                  omega (arith, chooses_later x (told.stands i x o.id t.li here) chose)
            ];
        nodes = λ b h u v lb low at rank.
            (let ne : b ≢ i = λ e.
            omega (arith, w.hop, low, own_hop n i h (subst (λ (k : ℕ). IsAt n i k h) e at)) in
            low_rank x y b u v chose (best_was x y best) lb
            (subst (λ (p : Phase). HasRank p u v) (t.others b lb ne) rank));
      }
    where
      there : (w : Draws (ph' i) t.put x) (k : ℕ) (o : Msg) → k < n → IsFront n Q' i i w.m.hop (Q i) k o → Has (Q k) o
      there w k o lk (inl f) = subst (λ (u : ℕ). Has (Q u) o) (sym f.0) f.1
      there w k o lk (inr f) = elim (came t k o lk f.3) [
        | inl old ↦ old
        | inr new ↦ absurd (omega (
          arith,
          w.hop,
          f.1,
          own_hop n i f.0 (subst (λ (u : ℕ). IsAt n i u f.0) new.0 f.2),
        ))
      ]

  -- ---- a node that keeps its pair

  module _ (a x y : ℕ) (la : a < n) (f : IsFree n ph Q a x y) (best' : IsBest n D' x y) where
    -- what node i takes is in front of the message, where node i is ahead, or home
    in_front : (h : ℕ) (m0 : Msg) → t.taken ≡ m0 ∷ [] → IsAt n a (prev n i) h → f.m.hop ≤ h
        → (f.j ≡ prev n i → Has f.front m0) → IsFront n Q a f.j f.m.hop f.front (prev n i) m0
    in_front h m0 et at low first = elim (cases_lt f.m.hop h) [
      | inl more ↦ inr (
        h,
        more,
        at,
        subst (λ (ks : List Msg). Has ks m0) (sym t.moves.gets)
            (subst (λ (ts : List Msg). Has (ts ++ Q' (prev n i)) m0) (sym et) (inl refl)),
      )
      | inr same ↦
          let here : f.j ≡ prev n i = one_place n a f.j (prev n i) h la f.place (lp t)
          (subst (λ (k : ℕ). IsAt n a f.j k) (omega arith) f.at) at in
          inl (sym here, first here)
    ]

    -- the place before node i, which is ahead
    ahead : (h : ℕ) → IsAt n a i h → f.m.hop < h → (a ≢ i) × IsAt n a (prev n i) (h - 1)
    ahead h at low =
        let ne : a ≢ i = λ e.
        omega (arith, f.at.0, low, own_hop n i h (subst (λ (k : ℕ). IsAt n k i h) e at)) in
        (ne, at_prev n a i (h - 1) la t.li ne (subst (λ (k : ℕ). IsAt n a i k) (omega arith) at))

    module _ (s : Stays f.j f.front f.m) where
      taken_front : (h : ℕ) (m0 : Msg) → t.taken ≡ m0 ∷ [] → IsAt n a i h → f.m.hop < h
          → IsFront n Q a f.j f.m.hop f.front (prev n i) m0
      taken_front h m0 et at low =
          in_front (h - 1) m0 et (ahead h at low).1 (omega arith) (λ here. s.first m0 et here)

      draw_low : (r d h : ℕ) → ph i ≡ Choosing r → ph' i ≡ Active r d → IsAt n a i h → f.m.hop < h → IsAtMost r d x y
      draw_low r d h chose is at low =
          by_most (f.nodes i h r 0 t.li low at (subst (λ (p : Phase). HasRank p r 0) (sym chose) (refl, refl)))
        where
          by_most : IsAtMost r 0 x y → IsAtMost r d x y
          by_most (inl l) = inl l
          by_most (inr e) =
              inr (e.0, best' i d t.li (subst (λ (k : ℕ). D' i k d) e.0 (g.now r d is)))

      -- a message in front was so, or node i puts it
      data FrontWas (k : ℕ) (o : Msg) : Type 0 where
        front_was : IsFront n Q a f.j f.m.hop f.front k o → FrontWas k o
        front_new : (h : ℕ) → k ≡ i → Has t.put o → IsAt n a i h → f.m.hop < h → FrontWas k o

      front_of : (k : ℕ) (o : Msg) → k < n → IsFront n Q' a f.j f.m.hop s.before k o → FrontWas k o
      front_of k o lk (inl w) = front_was (inl (w.0, s.were o w.1))
      front_of k o lk (inr w) = elim (came t k o lk w.3) [
        | inl old ↦ front_was (inr (w.0, w.1, w.2, old))
        | inr new ↦ front_new w.0 new.0 new.1 (subst (λ (u : ℕ). IsAt n a u w.0) new.0 w.2) w.1
      ]

      lower_new : (o : Msg) (h : ℕ) → IsAt n a i h → f.m.hop < h → Put n (ph i) (ph' i) t.taken o
          → IsAtMost o.round o.id x y
      lower_new o h at low (put_draw r d ep eq er ed eh cl) =
          at_most_same o.round o.id r d x y er ed (draw_low r d h ep eq at low)
      lower_new o h at low (put_raise m0 et up ends own nc nl dk) =
          at_most_same o.round o.id m0.round m0.id x y up.round up.id
          (f.lower (prev n i) m0 (lp t) (taken_front h m0 et at low))

      unmet_new : (o : Msg) (h b : ℕ) → IsAt n a i h → f.m.hop < h → Put n (ph i) (ph' i) t.taken o → o.round ≡ x
          → IsBack n a b i → b + 2 ≤ o.hop → ⊥
      unmet_new o h b at low (put_draw r d ep eq er ed eh cl) same back far = omega arith
      unmet_new o h zero at low (put_raise m0 et up ends own nc nl dk) same back far =
          (ahead h at low).0 (back_none n a i la t.li back)
      unmet_new o h (suc b) at low (put_raise m0 et up ends own nc nl dk) same back far =
          f.unmet (prev n i) m0 b (lp t) (taken_front h m0 et at low) (sym up.round ∙ same)
          (back_one n a b i la t.li back) (omega (arith, up.hop))

      nodes_new : (h u v : ℕ) → IsAt n a i h → f.m.hop < h → Came n (ph i) (ph' i) t.taken u v → IsAtMost u v x y
      nodes_new h u v at low (came_same rank) = f.nodes i h u v t.li low at rank
      nodes_new h u v at low (came_draw chose is) = draw_low u v h chose is at low
      nodes_new h u v at low (came_tie r d m0 is up none et same whole) =
          by_most (f.nodes i h r d t.li low at (subst (λ (p : Phase). HasRank p r d) (sym is) (refl, refl)))
        where
          by_most : IsAtMost r d x y → IsAtMost u v x y
          by_most (inl l) = elim (cases_lt u x) [
            | inl less ↦ inl less
            | inr e ↦ inr (omega arith, omega arith)
          ]
          by_most (inr e) =
              let b = back_to n a i la t.li (ahead h at low).0 in
              absurd (f.unmet (prev n i) m0 b.0 (lp t) (taken_front h m0 et at low) (same.0 ∙ e.0) b.1
              (omega (arith, b.2, whole)))

      stays_free : IsFree n ph' Q' a x y
      stays_free = record {
        j = f.j;
        m = f.m;
        front = s.before;
        behind = s.after;
        place = f.place;
        parts = s.parts;
        round = f.round;
        id = f.id;
        at = f.at;
        lower = λ k o lk w. by_lower k o lk (front_of k o lk w);
        unmet = λ k o b lk w same back far. by_unmet k o b lk (front_of k o lk w) same back far;
        nodes = λ b h u v lb low at rank. elim (cases_eq b i) [
          | inr ne ↦ f.nodes b h u v lb low at (subst (λ (p : Phase). HasRank p u v) (t.others b lb ne) rank)
          | inl e ↦ nodes_new h u v (subst (λ (k : ℕ). IsAt n a k h) e at) low
              (came_of n (ph i) (ph' i) t.taken t.put u v t.turn
              (subst (λ (k : ℕ). HasRank (ph' k) u v) e rank))
        ];
      }
        where
          by_lower : (k : ℕ) (o : Msg) → k < n → FrontWas k o → IsAtMost o.round o.id x y
          by_lower k o lk (front_was w) = f.lower k o lk w
          by_lower k o lk (front_new h here puts at low) = lower_new o h at low (put_is t o puts)

          by_unmet : (k : ℕ) (o : Msg) (b : ℕ) → k < n → FrontWas k o → o.round ≡ x → IsBack n a b k → b + 2 ≤ o.hop → ⊥
          by_unmet k o b lk (front_was w) same back far = f.unmet k o b lk w same back far
          by_unmet k o b lk (front_new h here puts at low) same back far =
              unmet_new o h b at low (put_is t o puts) same (subst (λ (u : ℕ). IsBack n a b u) here back) far

    -- node i takes the message itself
    module _ (here : f.j ≡ prev n i) (et : t.taken ≡ f.m ∷ []) (keeps : ph a ≡ Active x y) (kept : ph' a ≡ Active x y)
      where
        at_i : IsAt n a (prev n i) f.m.hop
        at_i = subst (λ (k : ℕ). IsAt n a k f.m.hop) here f.at

        low_i : (u v : ℕ) → HasRank (ph i) u v → IsAtMost u v f.m.round f.m.id
        low_i u v rank = elim (cases_eq a i) [
          | inl e ↦
              let own : HasRank (Active x y) u v = subst (λ (p : Phase). HasRank p u v) keeps
              (subst (λ (k : ℕ). HasRank (ph k) u v) (sym e) rank) in
              at_most_refl u v f.m.round f.m.id (own.0 ∙ sym f.round) (own.1 ∙ sym f.id)
          | inr ne ↦
              at_most_trans u v x y f.m.round f.m.id
              (f.nodes i (f.m.hop + 1) u v t.li (omega arith) (at_next n a i f.m.hop la t.li ne at_i) rank)
              (at_most_refl x y f.m.round f.m.id (sym f.round) (sym f.id))
        ]

        goes_free : Through n (ph i) (ph' i) t.put f.m → IsFree n ph' Q' a x y
        goes_free (through_home whole other) =
            let home : a ≡ i = at_home n a i la t.li (subst (λ (h : ℕ). IsAt n a (prev n i) h) whole at_i) in
            absurd (other (sym (subst (λ (k : ℕ). ph k ≡ Active x y) home keeps
            ∙ sym (subst (λ (k : ℕ). ph' k ≡ Active x y) home kept))))
        goes_free (through m1 eo up short) =
            let ne : a ≢ i = λ e.
            (let old = subst (λ (k : ℕ). ph k ≡ Active x y) e keeps in
            omega (
              arith,
              short (old ∙ sym (subst (λ (k : ℕ). ph' k ≡ Active x y) e kept)) x y old,
              one_hop n i (prev n i) f.m.hop n t.li (lp t)
                  (subst (λ (k : ℕ). IsAt n k (prev n i) f.m.hop) e at_i) (home_at n i t.li),
            )) in
            let at1 : IsAt n a i m1.hop = subst (λ (h : ℕ). IsAt n a i h) (sym up.hop)
            (at_next n a i f.m.hop la t.li ne at_i) in
            let was : (k : ℕ) (o : Msg) → k < n → IsFront n Q' a i m1.hop (Q i) k o
            → IsFront n Q a f.j f.m.hop f.front k o = λ k o lk w. was_front m1 up at1 k o lk w in
            record {
              j = i;
              m = m1;
              front = Q i;
              behind = [];
              place = t.li;
              parts = t.moves.puts ∙ ap (λ (ks : List Msg). Q i ++ ks) eo;
              round = up.round ∙ f.round;
              id = up.id ∙ f.id;
              at = at1;
              lower = λ k o lk w. f.lower k o lk (was k o lk w);
              unmet = λ k o b lk w same back far. f.unmet k o b lk (was k o lk w) same back far;
              nodes = λ b h u v lb low at rank.
                  (let nb : b ≢ i = λ e.
                  omega (arith, low, one_hop n a i h m1.hop la t.li (subst (λ (k : ℕ). IsAt n a k h) e at) at1) in
                  f.nodes b h u v lb (omega (arith, low, up.hop)) at
                  (subst (λ (p : Phase). HasRank p u v) (t.others b lb nb) rank));
            }
          where
            was_front : (m1 : Msg) → IsRaised f.m m1 → IsAt n a i m1.hop → (k : ℕ) (o : Msg) → k < n
                → IsFront n Q' a i m1.hop (Q i) k o → IsFront n Q a f.j f.m.hop f.front k o
            was_front m1 up at1 k o lk (inl w) = inr (
              m1.hop,
              omega (arith, up.hop),
              subst (λ (u : ℕ). IsAt n a u m1.hop) (sym w.0) at1,
              subst (λ (u : ℕ). Has (Q u) o) (sym w.0) w.1,
            )
            was_front m1 up at1 k o lk (inr w) = elim (came t k o lk w.3) [
              | inl old ↦ inr (w.0, omega (arith, w.1, up.hop), w.2, old)
              | inr new ↦ absurd (omega (
                arith,
                w.1,
                one_hop n a i w.0 m1.hop la t.li (subst (λ (u : ℕ). IsAt n a u w.0) new.0 w.2) at1,
              ))
            ]

    keeps_free : ph a ≡ Active x y → ph' a ≡ Active x y → IsFree n ph' Q' a x y
    keeps_free keeps kept = elim (stays_or f.j f.front f.m f.behind f.place f.parts) [
      | inl s ↦ stays_free s
      | inr e ↦ goes_free e.0 e.1 keeps kept
          (through_of n (ph i) (ph' i) t.taken t.put f.m t.turn e.1 (low_i e.0 e.1 keeps kept))
    ]

  -- ---- afterwards

  free' : (a x y : ℕ) → a < n → ph' a ≡ Active x y → IsBest n D' x y → IsFree n ph' Q' a x y
  free' a x y la is best = elim (cases_eq a i) [
    | inr ne ↦
        let old = sym (t.others a la ne) ∙ is in
        keeps_free a x y la (inv.free a x y la old (best_was x y best)) best old is
    | inl e ↦
        let here : ph' i ≡ Active x y = subst (λ (k : ℕ). ph' k ≡ Active x y) e is in
        subst (λ (k : ℕ). IsFree n ph' Q' k x y) (sym e)
        (elim (active_of n (ph i) (ph' i) t.taken t.put x y t.turn here) [
          | inl old ↦ keeps_free i x y t.li (inv.free i x y t.li old (best_was x y best)) best old here
          | inr new ↦ drawn x y new.0 here best
        ])
  ]

  -- it receives no greater message
  no_greater : (x y : ℕ) (m0 : Msg) → IsFree n ph Q i x y → IsBest n D' x y → t.taken ≡ m0 ∷ []
      → IsUnder x y m0.round m0.id → ⊥
  no_greater x y m0 f best et under = elim (stays_or f.j f.front f.m f.behind f.place f.parts) [
    | inl s ↦
        under_not x y m0.round m0.id under (f.lower (prev n i) m0 (lp t)
        (in_front i x y t.li f best n m0 et (home_at n i t.li) f.at.1 (λ here. s.first m0 et here)))
    | inr e ↦
        let z : f.m ∷ [] ≡ m0 ∷ [] = sym e.1 ∙ et in
        let same : f.m ≡ m0 = cc in
        under_not x y m0.round m0.id under (at_most_refl m0.round m0.id x y
        (ap (λ (k : Msg). k.round) (sym same) ∙ f.round) (ap (λ (k : Msg). k.id) (sym same) ∙ f.id))
  ]

  goes_own : (x y : ℕ) → IsBest n D' x y → Goes ph D i x y → Goes ph' D' i x y
  goes_own x y best (goes_on e drew) = goes_on e (g.grow i (x + 1) e drew)
  goes_own x y best (goes_leader is) = absurd (not_leader n (ph i) (ph' i) t.taken t.put x y t.turn is)
  goes_own x y best (goes_chooses is) =
      let w : Draws (ph' i) t.put (x + 1) = draws_of n (ph i) (ph' i) t.taken t.put (x + 1) t.turn is in
      goes_on w.id (g.now (x + 1) w.id w.active)
  goes_own x y best (goes_active is) = by_next (next_is n (ph i) (ph' i) t.taken t.put x y t.turn is)
    where
      by_next : Next n (ph' i) t.taken x y → Goes ph' D' i x y
      by_next (next_same q) = goes_active q
      by_next (next_wins q) = goes_leader q
      by_next (next_ties m0 q et same whole) = goes_chooses q
      by_next (next_gives m0 q et under) =
          absurd (no_greater x y m0 (inv.free i x y t.li is (best_was x y best)) best et under)

  goes_other : (a x y : ℕ) → ph' a ≡ ph a → Goes ph D a x y → Goes ph' D' a x y
  goes_other a x y same (goes_active is) = goes_active (same ∙ is)
  goes_other a x y same (goes_leader is) = goes_leader (same ∙ is)
  goes_other a x y same (goes_chooses is) = goes_chooses (same ∙ is)
  goes_other a x y same (goes_on e drew) = goes_on e (g.grow a (x + 1) e drew)

  goes' : (a x y : ℕ) → a < n → D' a x y → IsBest n D' x y → Goes ph' D' a x y
  goes' a x y la drew best = elim (g.new a x y drew) [
    | inr now ↦ subst (λ (k : ℕ). Goes ph' D' k x y) (sym now.0) (goes_active now.1)
    | inl old ↦ elim (cases_eq a i) [
      | inr ne ↦ goes_other a x y (t.others a la ne) (inv.goes a x y la old (best_was x y best))
      | inl e ↦ subst (λ (k : ℕ). Goes ph' D' k x y) (sym e)
          (goes_own x y best (subst (λ (k : ℕ). Goes ph D k x y) e (inv.goes a x y la old (best_was x y best))))
    ]
  ]

  -- a node that chooses afterwards did so before, or is in a later round
  positive_own : (x : ℕ) → ph' i ≡ Choosing x → 1 ≤ x
  positive_own x is = by_came (came_of n (ph i) (ph' i) t.taken t.put x 0 t.turn
      (subst (λ (p : Phase). HasRank p x 0) (sym is) (refl, refl)))
    where
      by_phase : (p : Phase) → ph i ≡ p → HasRank p x 0 → 1 ≤ x
      by_phase Passive e h = absurd h
      by_phase Yielding e h = absurd h
      by_phase (Choosing r) e h = omega (arith, h.0, inv.positive i r t.li e)
      by_phase (Active r d) e h = omega (arith, h.0, inv.rounds i r d t.li (told.active i r d t.li e))
      by_phase (Leader r d) e h =
          omega (arith, h.0, inv.rounds i r d t.li (told.led i r d t.li (told.leader i r d t.li e)).drew)

      by_came : Came n (ph i) (ph' i) t.taken x 0 → 1 ≤ x
      by_came (came_same rank) = by_phase (ph i) refl rank
      by_came (came_draw p q) = (let z : Active x 0 ≡ Choosing x = sym q ∙ is in absurd cc)
      by_came (came_tie r d m0 p up none et same whole) = omega arith

  rounds_own : (x y : ℕ) → ph' i ≡ Active x y → 1 ≤ x
  rounds_own x y is = elim (active_of n (ph i) (ph' i) t.taken t.put x y t.turn is) [
    | inl old ↦ inv.rounds i x y t.li (told.active i x y t.li old)
    | inr new ↦ inv.positive i x t.li new.0
  ]

  pub turn_going : IsGoing n ph' Q' D' L' S N
  turn_going = record {
    free = free';
    goes = goes';
    positive = λ a x la is. elim (cases_eq a i) [
      | inl e ↦ positive_own x (subst (λ (k : ℕ). ph' k ≡ Choosing x) e is)
      | inr ne ↦ inv.positive a x la (sym (t.others a la ne) ∙ is)
    ];
    rounds = λ a x y la drew. elim (g.new a x y drew) [
      | inl old ↦ inv.rounds a x y la old
      | inr now ↦ rounds_own x y now.1
    ];
    still = λ a x y la leads. elim (g.leads a x y leads) [
      | inr now ↦ subst (λ (k : ℕ). ph' k ≡ Leader x y) (sym now.0) now.1
      | inl old ↦ elim (cases_eq a i) [
        | inr ne ↦ t.others a la ne ∙ inv.still a x y la old
        | inl e ↦ absurd (not_leader n (ph i) (ph' i) t.taken t.put x y t.turn
            (subst (λ (k : ℕ). ph k ≡ Leader x y) e (inv.still a x y la old)))
      ]
    ];
    begun = λ a la s. elim (inv.begun a la s) [
      | inr drew ↦ inr (drew.0, g.grow a 1 drew.0 drew.1)
      | inl chose ↦ elim (cases_eq a i) [
        | inr ne ↦ inl (t.others a la ne ∙ chose)
        | inl e ↦
            let w : Draws (ph' i) t.put 1 = draws_of n (ph i) (ph' i) t.taken t.put 1 t.turn
            (subst (λ (k : ℕ). ph k ≡ Choosing 1) e chose) in
            inr (w.id, subst (λ (k : ℕ). D' k 1 w.id) (sym e) (g.now 1 w.id w.active))
      ]
    ];
    never = λ a la no.
        (let w = inv.never a la no in
        let quiet : ph' a ≡ Passive = elim (cases_eq a i) [
          | inr ne ↦ t.others a la ne ∙ w.0
          | inl e ↦ subst (λ (k : ℕ). ph' k ≡ Passive) (sym e) (stays_passive n (ph i) (ph' i) t.taken t.put t.turn
              (subst (λ (k : ℕ). ph k ≡ Passive) e w.0))
        ] in (
          quiet,
          λ x y drew. elim (g.new a x y drew) [
            | inl old ↦ w.1 x y old
            | inr now ↦
                (let z : Active x y ≡ Passive = sym now.1 ∙ subst (λ (k : ℕ). ph' k ≡ Passive) now.0 quiet in cc)
          ],
        ));
  }

-- ---- where nothing is seen

module _ {n : ℕ} {ph ph' : ℕ → Phase} {Q Q' : ℕ → List Msg} {D D' L L' : ℕ → ℕ → ℕ → Type 0} {S N : ℕ → Type 0}
    (same : IsUnseen n ph ph' Q Q') (inv : IsGoing n ph Q D L S N) (to : (j r d : ℕ) → j < n → D j r d → D' j r d)
    (from : (j r d : ℕ) → j < n → D' j r d → D j r d) (led_from : (j r d : ℕ) → j < n → L' j r d → L j r d) where
  best_same : (x y : ℕ) → IsBest n D' x y → IsBest n D x y
  best_same x y best k e lk drew = best k e lk (to k x e lk drew)

  front_same : (a j hop : ℕ) (front : List Msg) (k : ℕ) (o : Msg) → k < n → IsFront n Q' a j hop front k o
      → IsFront n Q a j hop front k o
  front_same a j hop front k o lk (inl w) = inl w
  front_same a j hop front k o lk (inr w) =
      inr (w.0, w.1, w.2, subst (λ (ks : List Msg). Has ks o) (same.queues k lk) w.3)

  free_same : (a x y : ℕ) → IsFree n ph Q a x y → IsFree n ph' Q' a x y
  free_same a x y f = record {
    j = f.j;
    m = f.m;
    front = f.front;
    behind = f.behind;
    place = f.place;
    parts = same.queues f.j f.place ∙ f.parts;
    round = f.round;
    id = f.id;
    at = f.at;
    lower = λ k o lk w. f.lower k o lk (front_same a f.j f.m.hop f.front k o lk w);
    unmet = λ k o b lk w is back far. f.unmet k o b lk (front_same a f.j f.m.hop f.front k o lk w) is back far;
    nodes = λ b h u v lb low at rank.
        f.nodes b h u v lb low at (subst (λ (p : Phase). HasRank p u v) (same.phases b lb) rank);
  }

  goes_same : (a x y : ℕ) → a < n → Goes ph D a x y → Goes ph' D' a x y
  goes_same a x y la (goes_active is) = goes_active (same.phases a la ∙ is)
  goes_same a x y la (goes_leader is) = goes_leader (same.phases a la ∙ is)
  goes_same a x y la (goes_chooses is) = goes_chooses (same.phases a la ∙ is)
  goes_same a x y la (goes_on e drew) = goes_on e (to a (x + 1) e la drew)

  pub same_going : IsGoing n ph' Q' D' L' S N
  same_going = record {
    free = λ a x y la is best. free_same a x y (inv.free a x y la (sym (same.phases a la) ∙ is) (best_same x y best));
    goes = λ a x y la drew best. goes_same a x y la (inv.goes a x y la (from a x y la drew) (best_same x y best));
    positive = λ a x la is. inv.positive a x la (sym (same.phases a la) ∙ is);
    rounds = λ a x y la drew. inv.rounds a x y la (from a x y la drew);
    still = λ a x y la leads. same.phases a la ∙ inv.still a x y la (led_from a x y la leads);
    begun = λ a la s. elim (inv.begun a la s) [
      | inl chose ↦ inl (same.phases a la ∙ chose)
      | inr drew ↦ inr (drew.0, to a 1 drew.0 la drew.1)
    ];
    never = λ a la no.
        (let w = inv.never a la no in
        (same.phases a la ∙ w.0, λ x y drew. w.1 x y (from a x y la drew)));
  }

-- ---- what is so of a term in which a node has led

pub record IsEnded (n : ℕ) (D L : ℕ → ℕ → ℕ → Type 0) (S N : ℕ → Type 0) : Type 0 where
  pub next : (i x y : ℕ) → i < n → L i x y → (j r e : ℕ) → j < n → r < x → D j r e → IsBest n D r e
      → (f : ℕ) × D j (r + 1) f
  pub all : (i x y : ℕ) → i < n → L i x y → (j : ℕ) → j < n → S j → (e : ℕ) × D j 1 e
  pub none : (j x y : ℕ) → j < n → N j → D j x y → ⊥
  pub rounds : (j x y : ℕ) → j < n → D j x y → 1 ≤ x

pub going_ended : {n : ℕ} {ph : ℕ → Phase} {Q : ℕ → List Msg} {D L : ℕ → ℕ → ℕ → Type 0} {S N : ℕ → Type 0}
    → IsOrderly n ph Q → IsGoing n ph Q D L S N → IsEnded n D L S N
going_ended {n} {ph} {Q} {D} {L} {S} {N} orderly inv = record {
  next = λ i x y li leads j r e lj low drew best.
      by_goes i x y (inv.still i x y li leads) (λ b lb ne. (orderly.ends i x y li (inv.still i x y li leads)).others b lb
      ne) j r e lj low (inv.goes j r e lj drew best);
  all = λ i x y li leads j lj s. elim (inv.begun j lj s) [
    | inr drew ↦ drew
    | inl chose ↦ elim (cases_eq j i) [
      | inl q ↦ (let z : Choosing 1 ≡ Leader x y = sym (subst (λ (k : ℕ). ph k ≡ Choosing 1) q chose)
          ∙ inv.still i x y li leads in absurd cc)
      | inr ne ↦ (let z : Choosing 1 ≡ Passive = sym chose
          ∙ (orderly.ends i x y li (inv.still i x y li leads)).others j lj ne in absurd cc)
    ]
  ];
  none = λ j x y lj no drew. (inv.never j lj no).1 x y drew;
  rounds = inv.rounds;
}
  where
    other : (i x y j r : ℕ) (p : Phase) → ph i ≡ Leader x y → ((b : ℕ) → b < n → b ≢ i → ph b ≡ Passive) → j < n
        → ph j ≡ p → (p ≡ Passive → ⊥) → (p ≡ Leader x y → ⊥) → ⊥
    other i x y j r p leads others lj is np nl = elim (cases_eq j i) [
      | inl q ↦ nl (sym is ∙ subst (λ (k : ℕ). ph k ≡ Leader x y) (sym q) leads)
      | inr ne ↦ np (sym is ∙ others j lj ne)
    ]

    by_goes : (i x y : ℕ) → ph i ≡ Leader x y → ((b : ℕ) → b < n → b ≢ i → ph b ≡ Passive) → (j r e : ℕ) → j < n → r < x
        → Goes ph D j r e → (f : ℕ) × D j (r + 1) f
    by_goes i x y leads others j r e lj low (goes_on f drew) = (f, drew)
    by_goes i x y leads others j r e lj low (goes_active is) =
        absurd (other i x y j r (Active r e) leads others lj is (λ q. (let z : ⊥ = cc in z)) (λ q. (let z : ⊥ = cc in z)))
    by_goes i x y leads others j r e lj low (goes_chooses is) =
        absurd (other i x y j r (Choosing (r + 1)) leads others lj is (λ q. (let z : ⊥ = cc in z))
        (λ q. (let z : ⊥ = cc in z)))
    by_goes i x y leads others j r e lj low (goes_leader is) =
        absurd (other i x y j r (Leader r e) leads others lj is (λ q. (let z : ⊥ = cc in z))
        (λ q. (let same : r ≡ x = cc in omega arith)))

pub ended_on : {n : ℕ} {D D' L L' : ℕ → ℕ → ℕ → Type 0} {S N : ℕ → Type 0}
    → ((j r d : ℕ) → j < n → D j r d → D' j r d) → ((j r d : ℕ) → j < n → D' j r d → D j r d)
    → ((j r d : ℕ) → j < n → L' j r d → L j r d) → IsEnded n D L S N → IsEnded n D' L' S N
ended_on to from led_from ended = record {
  next = λ i x y li leads j r e lj low drew best.
      (let w = ended.next i x y li (led_from i x y li leads) j r e lj low (from j r e lj drew)
      (λ k f lk h. best k f lk (to k r f lk h)) in
      (w.0, to j (r + 1) w.0 lj w.1));
  all = λ i x y li leads j lj s.
      (let w = ended.all i x y li (led_from i x y li leads) j lj s in (w.0, to j 1 w.0 lj w.1));
  none = λ j x y lj no drew. ended.none j x y lj no (from j x y lj drew);
  rounds = λ j x y lj drew. ended.rounds j x y lj (from j x y lj drew);
}
