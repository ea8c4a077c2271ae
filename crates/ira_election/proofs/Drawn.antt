-- What nodes drew in an election, and what it decides: each turn keeps it.
use Rattle.std.proofs.Common.{◌≡◌, ◌≢◌, ℕ, zero, suc, ◌+◌, ◌-◌, ◌<◌, ◌≤◌, ◌⊎◌, inl, inr, true, false, List, [], ◌∷◌}
use Rattle.std.proofs.Common.{refl, sym, ◌∙◌, subst, ap, arith}
use Rattle.std.proofs.lemmas.Bool.{cases_eq, cases_lt}
use Rattle.ira_event.specs.declared.msg.Msg.{Msg}
use Rattle.ira_node.specs.declared.phase.Phase.{Phase}
use Rattle.ira_node.specs.declared.phase.Phase.TheVariants.{Choosing, Active, Passive, Leader}
use Rattle.ira_node.specs.Msg.{IsEqual}
use Rattle.ira_order.specs.Ring.{prev}
use Rattle.ira_election.proofs.Election.{Has, IsUnder, HasRank, Ranks, IsReached, IsAlive, IsOrderly, IsGuarded}
use Rattle.ira_election.proofs.Ranks.{under_trans, greater_under, at_most_refl}
use Rattle.ira_election.proofs.Turns.{Turn, turn_draw, turn_pass, turn_give, turn_meet, turn_purge, turn_tie}
use Rattle.ira_election.proofs.Turns.{turn_win, HasTurn, IsUnseen, Put, put_draw, put_raise, active_of}
use Rattle.ira_election.proofs.Turns.{stays_passive, not_leader, win_of, Win, lp, came, took, put_is}
use Rattle.ira_election.proofs.Alive.{Change, changes}

-- ---- definitions

-- some node has a greater rank
abbrev pub IsExceeded : ℕ → (ℕ → Phase) → ℕ → ℕ → Type 0
IsExceeded n ph r d = (j : ℕ) × (x : ℕ) × (y : ℕ) × Ranks n ph j x y × IsUnder r d x y

-- D j r d: node j drew ID d in round r. All others have given in or drawn in the round, and none a greater one than d
pub record IsSettled (n : ℕ) (ph : ℕ → Phase) (D : ℕ → ℕ → ℕ → Type 0) (r d : ℕ) : Type 0 where
  pub all : (j : ℕ) → j < n → (ph j ≡ Passive) ⊎ D j r d
  pub most : (j e : ℕ) → j < n → D j r e → e ≤ d

-- what has become of node i, which drew d in round r: it gave in to a greater pair, has its pair, or is in a later
-- round, and the round is settled
pub data Stands (n : ℕ) (ph : ℕ → Phase) (D : ℕ → ℕ → ℕ → Type 0) (i r d : ℕ) : Type 0 where
  stands_passive : ph i ≡ Passive → IsExceeded n ph r d → Stands n ph D i r d
  stands_active : ph i ≡ Active r d → Stands n ph D i r d
  stands_leader : ph i ≡ Leader r d → Stands n ph D i r d
  stands_later : (x y : ℕ) → HasRank (ph i) x y → r < x → IsSettled n ph D r d → Stands n ph D i r d

-- node i came to the next round
pub record HasBefore (n : ℕ) (ph : ℕ → Phase) (D : ℕ → ℕ → ℕ → Type 0) (i r : ℕ) : Type 0 where
  pub id : ℕ
  pub drew : D i r id
  pub settled : IsSettled n ph D r id
  -- another one drew the same
  pub b : ℕ
  pub place : b < n
  pub other : b ≢ i
  pub also : D b r id

-- node i won the round with d: each other one drew less
pub record IsWon (n : ℕ) (ph : ℕ → Phase) (D : ℕ → ℕ → ℕ → Type 0) (i r d : ℕ) : Type 0 where
  pub drew : D i r d
  pub all : (j : ℕ) → j < n → (ph j ≡ Passive) ⊎ D j r d
  pub less : (j e : ℕ) → j < n → j ≢ i → D j r e → e < d

-- node b is k places before node j
abbrev pub IsBack : ℕ → ℕ → ℕ → ℕ → Type 0
IsBack n b k j = (b + k ≡ j) ⊎ (b + k ≡ j + n)

-- of n nodes with these phases, and these messages on their way from each; L j r d: node j led with its pair
pub record IsTold (n : ℕ) (ph : ℕ → Phase) (Q : ℕ → List Msg) (D L : ℕ → ℕ → ℕ → Type 0) : Type 0 where
  pub active : (i r d : ℕ) → i < n → ph i ≡ Active r d → D i r d
  pub stands : (i r d : ℕ) → i < n → D i r d → Stands n ph D i r d
  pub one : (i r d e : ℕ) → i < n → D i r d → D i r e → d ≡ e
  pub chooses : (i r : ℕ) → i < n → 1 ≤ r → ph i ≡ Choosing (r + 1) → HasBefore n ph D i r
  pub before : (i r d : ℕ) → i < n → 1 ≤ r → D i (r + 1) d → HasBefore n ph D i r
  -- the nodes that a message has passed gave in, or drew its pair themselves
  pub passed : (j : ℕ) (m : Msg) (b k : ℕ) → j < n → Has (Q j) m → b < n → IsBack n b k j → k + 2 ≤ m.hop
      → (ph b ≡ Passive) ⊎ D b m.round m.id
  -- and one of those that a dirty one has passed drew its pair
  pub met : (j : ℕ) (m : Msg) → j < n → Has (Q j) m → m.dirty ≡ true
      → (b : ℕ) × (k : ℕ) × (b < n) × IsBack n b k j × (k + 2 ≤ m.hop) × D b m.round m.id
  pub led : (i r d : ℕ) → i < n → L i r d → IsWon n ph D i r d
  pub leader : (i r d : ℕ) → i < n → ph i ≡ Leader r d → L i r d

-- what of it doesn't rest on where the nodes are
pub record IsSaid (n : ℕ) (D L : ℕ → ℕ → ℕ → Type 0) : Type 0 where
  pub one : (i r d e : ℕ) → i < n → D i r d → D i r e → d ≡ e
  pub before : (i r d : ℕ) → i < n → 1 ≤ r → D i (r + 1) d → (e : ℕ) × D i r e × ((j x : ℕ) → j < n → D j r x → x ≤ e) × ((b : ℕ) × (b < n) × (b ≢ i) × D b r e)
  pub led : (i r d : ℕ) → i < n → L i r d → D i r d × ((j e : ℕ) → j < n → j ≢ i → D j r e → e < d)

-- with one event more, by which node i comes to a phase
pub record IsGrown (i : ℕ) (p : Phase) (D D' L L' : ℕ → ℕ → ℕ → Type 0) : Type 0 where
  pub grow : (j r d : ℕ) → D j r d → D' j r d
  pub new : (j r d : ℕ) → D' j r d → D j r d ⊎ ((j ≡ i) × (p ≡ Active r d))
  pub now : (r d : ℕ) → p ≡ Active r d → D' i r d
  pub leads : (j r d : ℕ) → L' j r d → L j r d ⊎ ((j ≡ i) × (p ≡ Leader r d))
  pub led : (j r d : ℕ) → L j r d → L' j r d
  pub wins : (r d : ℕ) → p ≡ Leader r d → L' i r d

-- ---- of one node

no_rank : (p : Phase) (x y : ℕ) → p ≡ Passive → HasRank p x y → ⊥
no_rank p x y e h = subst (λ (q : Phase). HasRank q x y) e h

module _ {n : ℕ} {ph : ℕ → Phase} {D : ℕ → ℕ → ℕ → Type 0} {i r d : ℕ} where
  gave_in : Stands n ph D i r d → ph i ≡ Passive → IsExceeded n ph r d
  gave_in (stands_passive e above) is = above
  gave_in (stands_active e) is = (let z = sym e ∙ is in absurd cc)
  gave_in (stands_leader e) is = (let z = sym e ∙ is in absurd cc)
  gave_in (stands_later x y rank low settled) is = absurd (no_rank (ph i) x y is rank)

  -- it chooses in later rounds alone
  pub chooses_later : (x : ℕ) → Stands n ph D i r d → ph i ≡ Choosing x → r < x
  chooses_later x (stands_passive e above) is = (let z = sym e ∙ is in absurd cc)
  chooses_later x (stands_active e) is = (let z = sym e ∙ is in absurd cc)
  chooses_later x (stands_leader e) is = (let z = sym e ∙ is in absurd cc)
  chooses_later x (stands_later u v rank low settled) is =
      let h : HasRank (Choosing x) u v = subst (λ (q : Phase). HasRank q u v) is rank in
      omega (arith, h.0)

  not_choosing : Stands n ph D i r d → ph i ≡ Choosing r → ⊥
  not_choosing stands is = omega (arith, chooses_later r stands is)

  -- what a node that drew in the round has as a rank: its pair, or a later round, which is settled then
  has_rank : (x y : ℕ) → Stands n ph D i r d → HasRank (ph i) x y
      → ((x ≡ r) × (y ≡ d)) ⊎ IsSettled n ph D r d
  has_rank x y (stands_passive e above) rank = absurd (no_rank (ph i) x y e rank)
  has_rank x y (stands_active e) rank = inl (subst (λ (q : Phase). HasRank q x y) e rank)
  has_rank x y (stands_leader e) rank = inl (subst (λ (q : Phase). HasRank q x y) e rank)
  has_rank x y (stands_later u v h low settled) rank = inr settled

-- a message comes to a node before it came to those before: k places before node i
pub back_one : (n b k i : ℕ) → b < n → i < n → IsBack n b (suc k) i → IsBack n b k (prev n i)
back_one n b k zero lb li at = grind arith
back_one n b k (suc i) lb li at = grind arith

pub back_none : (n b i : ℕ) → b < n → i < n → IsBack n b 0 i → b ≡ i
back_none n b i lb li at = grind arith

-- each other node is less than n - 1 places before the one before node i
pub back_to : (n b i : ℕ) → b < n → i < n → b ≢ i → (k : ℕ) × IsBack n b k (prev n i) × (k + 2 ≤ n)
back_to n b zero lb li ne = (n - 1 - b, inl (omega arith), omega arith)
back_to n b (suc i) lb li ne = elim (cases_lt i b) [
  | inl past ↦ (i + n - b, inr (omega arith), omega arith)
  | inr low ↦ (i - b, inl (omega arith), omega arith)
]

-- a node that is less than n - 1 places before the one before node i isn't node i
back_other : (n b k i : ℕ) → b < n → i < n → IsBack n b k (prev n i) → k + 2 ≤ n → b ≢ i
back_other n b k zero lb li at low = λ e. grind arith
back_other n b k (suc i) lb li at low = λ e. grind arith

-- a place more before the next node
back_more : (n b k i : ℕ) → b < n → i < n → k + 2 ≤ n → IsBack n b k (prev n i) → IsBack n b (suc k) i
back_more n b k zero lb li low at = grind arith
back_more n b k (suc i) lb li low at = grind arith

-- a rank stays or rises in a turn, or the node gives in to a greater message
rank_next : (n : ℕ) (p q : Phase) (taken put : List Msg) (u v : ℕ) → Turn n p q taken put → HasRank p u v
    → ((x : ℕ) × (y : ℕ) × HasRank q x y × (u ≤ x))
    ⊎ ((q ≡ Passive) × ((m0 : Msg) × (taken ≡ m0 ∷ []) × IsUnder u v m0.round m0.id))
rank_next n p q taken put u v (turn_draw r d m1 ep eq et eo er ed eh cl) h =
    let is : HasRank (Choosing r) u v = subst (λ (k : Phase). HasRank k u v) ep h in
    inl (r, d, subst (λ (k : Phase). HasRank k r d) (sym eq) (refl, refl), omega (arith, is.0))
rank_next n p q taken put u v (turn_pass m0 m1 ep eq et eo up dk) h = absurd (no_rank p u v ep h)
rank_next n p q taken put u v (turn_give r d m0 m1 ep eq g et eo up dk) h =
    let is : HasRank (Active r d) u v = subst (λ (k : Phase). HasRank k u v) ep h in
    let under : IsUnder r d m0.round m0.id = greater_under m0 r d g in
    inr (
      eq,
      (
        m0,
        et,
        subst (λ (x : ℕ). IsUnder x v m0.round m0.id) (sym is.0)
            (subst (λ (y : ℕ). IsUnder r y m0.round m0.id) (sym is.1) under),
      ),
    )
rank_next n p q taken put u v (turn_meet r d m0 m1 ep eq g short et eo up dirt) h =
    inl (u, v, subst (λ (k : Phase). HasRank k u v) (ep ∙ sym eq) h, omega arith)
rank_next n p q taken put u v (turn_purge r d m0 ep eq less et eo) h =
    inl (u, v, subst (λ (k : Phase). HasRank k u v) (ep ∙ sym eq) h, omega arith)
rank_next n p q taken put u v (turn_tie r d m0 ep eq same whole dy et eo) h =
    let is : HasRank (Active r d) u v = subst (λ (k : Phase). HasRank k u v) ep h in
    inl (r + 1, 0, subst (λ (k : Phase). HasRank k (r + 1) 0) (sym eq) (refl, refl), omega (arith, is.0))
rank_next n p q taken put u v (turn_win r d m0 ep eq g hop c et eo) h =
    let is : HasRank (Active r d) u v = subst (λ (k : Phase). HasRank k u v) ep h in
    inl (r, d, subst (λ (k : Phase). HasRank k r d) (sym eq) (refl, refl), omega (arith, is.0))

-- what an active node comes to, where its message has come home, and where it goes on
pub data Next (n : ℕ) (q : Phase) (taken : List Msg) (r d : ℕ) : Type 0 where
  next_same : q ≡ Active r d → Next n q taken r d
  next_gives : (m0 : Msg) → q ≡ Passive → taken ≡ m0 ∷ [] → IsUnder r d m0.round m0.id → Next n q taken r d
  next_ties : (m0 : Msg) → q ≡ Choosing (r + 1) → taken ≡ m0 ∷ [] → IsEqual m0 r d → m0.hop ≡ n → Next n q taken r d
  next_wins : q ≡ Leader r d → Next n q taken r d

pub next_is : (n : ℕ) (p q : Phase) (taken put : List Msg) (r d : ℕ) → Turn n p q taken put → p ≡ Active r d
    → Next n q taken r d
next_is n p q taken put x y (turn_draw r d m1 ep eq et eo er ed eh cl) e = (let z = sym ep ∙ e in absurd cc)
next_is n p q taken put x y (turn_pass m0 m1 ep eq et eo up dk) e = (let z = sym ep ∙ e in absurd cc)
next_is n p q taken put x y (turn_give r d m0 m1 ep eq g et eo up dk) e =
    let z : Active r d ≡ Active x y = sym ep ∙ e in
    let rx : r ≡ x = cc in
    let dy : d ≡ y = cc in
    next_gives m0 eq et (subst (λ (u : ℕ). IsUnder u y m0.round m0.id) rx
    (subst (λ (u : ℕ). IsUnder r u m0.round m0.id) dy (greater_under m0 r d g)))
next_is n p q taken put x y (turn_meet r d m0 m1 ep eq g short et eo up dirt) e = next_same (eq ∙ sym ep ∙ e)
next_is n p q taken put x y (turn_purge r d m0 ep eq g et eo) e = next_same (eq ∙ sym ep ∙ e)
next_is n p q taken put x y (turn_tie r d m0 ep eq g whole dy et eo) e =
    let z : Active r d ≡ Active x y = sym ep ∙ e in
    let rx : r ≡ x = cc in
    let dy : d ≡ y = cc in
    next_ties m0 (eq ∙ ap (λ (u : ℕ). Choosing (u + 1)) rx) et (g.0 ∙ rx, g.1 ∙ dy) whole
next_is n p q taken put x y (turn_win r d m0 ep eq g hop c et eo) e =
    let z : Active r d ≡ Active x y = sym ep ∙ e in
    let rx : r ≡ x = cc in
    let dy : d ≡ y = cc in
    next_wins (eq ∙ ap (λ (u : ℕ). Leader u d) rx ∙ ap (λ (u : ℕ). Leader x u) dy)

-- a node that chooses a later round had its message home in the one before
pub record Tie (n : ℕ) (p : Phase) (taken : List Msg) (r : ℕ) : Type 0 where
  pub id : ℕ
  pub m0 : Msg
  pub was : p ≡ Active r id
  pub same : IsEqual m0 r id
  pub whole : m0.hop ≡ n
  pub dirt : m0.dirty ≡ true
  pub takes : taken ≡ m0 ∷ []

pub tie_of : (n : ℕ) (p q : Phase) (taken put : List Msg) (r : ℕ) → Turn n p q taken put → q ≡ Choosing (r + 1)
    → Tie n p taken r
tie_of n p q taken put x (turn_draw r d m1 ep eq et eo er ed eh cl) e = (let z = sym eq ∙ e in absurd cc)
tie_of n p q taken put x (turn_pass m0 m1 ep eq et eo up dk) e = (let z = sym eq ∙ e in absurd cc)
tie_of n p q taken put x (turn_give r d m0 m1 ep eq g et eo up dk) e = (let z = sym eq ∙ e in absurd cc)
tie_of n p q taken put x (turn_meet r d m0 m1 ep eq g short et eo up dirt) e = (let z = sym eq ∙ e in absurd cc)
tie_of n p q taken put x (turn_purge r d m0 ep eq g et eo) e = (let z = sym eq ∙ e in absurd cc)
tie_of n p q taken put x (turn_win r d m0 ep eq g hop c et eo) e = (let z = sym eq ∙ e in absurd cc)
tie_of n p q taken put x (turn_tie r d m0 ep eq g whole dy et eo) e =
    let z : Choosing (r + 1) ≡ Choosing (x + 1) = sym eq ∙ e in
    let up : r + 1 ≡ x + 1 = cc in
    let rx : r ≡ x = omega arith in
    record {
      id = d;
      m0 = m0;
      was = ep ∙ ap (λ (u : ℕ). Active u d) rx;
      same = (g.0 ∙ rx, g.1);
      whole = whole;
      dirt = dy;
      takes = et;
    }

-- ---- a turn

module _ {n i : ℕ} {ph ph' : ℕ → Phase} {Q Q' : ℕ → List Msg} {D D' L L' : ℕ → ℕ → ℕ → Type 0}
    (t : HasTurn n i ph ph' Q Q') (g : IsGrown i (ph' i) D D' L L') (alive : IsAlive n ph Q)
    (orderly' : IsOrderly n ph' Q') (guarded : IsGuarded n ph Q) (inv : IsTold n ph Q D L) where
  change : Change n ph ph' Q Q'
  change = changes t alive

  passive_on : (b : ℕ) → b < n → ph b ≡ Passive → ph' b ≡ Passive
  passive_on b lb is = elim (cases_eq b i) [
    | inl e ↦ subst (λ (k : ℕ). ph' k ≡ Passive) (sym e) (stays_passive n (ph i) (ph' i) t.taken t.put t.turn
        (subst (λ (k : ℕ). ph k ≡ Passive) e is))
    | inr ne ↦ t.others b lb ne ∙ is
  ]

  -- a rank that is exceeded stays so
  reached_on : (r d x y : ℕ) → IsUnder r d x y → IsReached n ph x y → IsExceeded n ph' r d
  reached_on r d x y under w =
      let u = change.node_up w.0 w.1 w.2 w.3 in
      (u.0, u.1, u.2, u.3, under_trans r d w.1 w.2 u.1 u.2 (under_trans r d x y w.1 w.2 under w.4) u.4)

  exceeded_on : (r d : ℕ) → IsExceeded n ph r d → IsExceeded n ph' r d
  exceeded_on r d w = reached_on r d w.1 w.2 w.4 (w.0, w.1, w.2, w.3, at_most_refl w.1 w.2 w.1 w.2 refl refl)

  -- who is active now was so, or chose
  was : (r d : ℕ) → ph' i ≡ Active r d → D i r d ⊎ (ph i ≡ Choosing r)
  was r d is = elim (active_of n (ph i) (ph' i) t.taken t.put r d t.turn is) [
    | inl old ↦ inl (inv.active i r d t.li old)
    | inr new ↦ inr new.0
  ]

  -- in a round in which all gave in or drew d nobody draws any more
  closed : (r d j e : ℕ) → ((k : ℕ) → k < n → (ph k ≡ Passive) ⊎ D k r d) → j < n → D' j r e → D j r e
  closed r d j e all lj drew = elim (g.new j r e drew) [
    | inl old ↦ old
    | inr now ↦ subst (λ (k : ℕ). D k r e) (sym now.0) (elim (was r e now.1) [
      | inl old ↦ old
      | inr chose ↦ elim (all i t.li) [
        | inl passive ↦ (let z = sym passive ∙ chose in absurd cc)
        | inr d_i ↦ absurd (not_choosing (inv.stands i r d t.li d_i) chose)
      ]
    ])
  ]

  all_on : (r d : ℕ) → ((k : ℕ) → k < n → (ph k ≡ Passive) ⊎ D k r d) → (k : ℕ) → k < n → (ph' k ≡ Passive) ⊎ D' k r d
  all_on r d all k lk = elim (all k lk) [
    | inl passive ↦ inl (passive_on k lk passive)
    | inr drew ↦ inr (g.grow k r d drew)
  ]

  settled_on : (r d : ℕ) → IsSettled n ph D r d → IsSettled n ph' D' r d
  settled_on r d s = record {
    all = all_on r d s.all;
    most = λ j e lj drew. s.most j e lj (closed r d j e s.all lj drew);
  }

  before_on : (j r : ℕ) → HasBefore n ph D j r → HasBefore n ph' D' j r
  before_on j r b = record {
    id = b.id;
    drew = g.grow j r b.id b.drew;
    settled = settled_on r b.id b.settled;
    b = b.b;
    place = b.place;
    other = b.other;
    also = g.grow b.b r b.id b.also;
  }

  -- where node i's message comes home, the round is settled
  module _ (r d : ℕ) (m0 : Msg) (is : ph i ≡ Active r d) (et : t.taken ≡ m0 ∷ []) (same : IsEqual m0 r d)
      (whole : m0.hop ≡ n) where
    home_all : (j : ℕ) → j < n → (ph j ≡ Passive) ⊎ D j r d
    home_all j lj = elim (cases_eq j i) [
      | inl e ↦ inr (subst (λ (k : ℕ). D k r d) (sym e) (inv.active i r d t.li is))
      | inr ne ↦
          let k = back_to n j i lj t.li ne in
          elim (inv.passed (prev n i) m0 j k.0 (lp t) (took t m0 et) lj k.1 (omega (arith, k.2, whole))) [
            | inl passive ↦ inl passive
            | inr drew ↦ inr (subst (λ (u : ℕ). D j u d) same.0 (subst (λ (u : ℕ). D j m0.round u) same.1 drew))
          ]
    ]

    home_most : (j e : ℕ) → j < n → D j r e → e ≤ d
    home_most j e lj drew = elim (home_all j lj) [
      | inr drew_d ↦ omega (arith, inv.one j r d e lj drew_d drew)
      | inl passive ↦
          let w = gave_in (inv.stands j r e lj drew) passive in
          elim (home_all w.0 w.3.place) [
            | inl gone ↦ absurd (no_rank (ph w.0) w.1 w.2 gone w.3.rank)
            | inr drew_d ↦
                elim (has_rank w.1 w.2 (inv.stands w.0 r d w.3.place drew_d) w.3.rank) [
                  | inr settled ↦ settled.most j e lj drew
                  | inl pair ↦ less w.1 w.2 pair.0 pair.1 w.4
                ]
          ]
    ]
      where
        less : (x y : ℕ) → x ≡ r → y ≡ d → IsUnder r e x y → e ≤ d
        less x y xr yd (inl low) = absurd (omega arith)
        less x y xr yd (inr under) = omega (arith, under.1)

    home : IsSettled n ph D r d
    home = record { all = home_all; most = home_most }

  -- ---- afterwards

  active' : (j r d : ℕ) → j < n → ph' j ≡ Active r d → D' j r d
  active' j r d lj is = elim (cases_eq j i) [
    | inl e ↦ subst (λ (k : ℕ). D' k r d) (sym e) (g.now r d (subst (λ (k : ℕ). ph' k ≡ Active r d) e is))
    | inr ne ↦ g.grow j r d (inv.active j r d lj (sym (t.others j lj ne) ∙ is))
  ]

  stands_other : (j r d : ℕ) → j < n → ph' j ≡ ph j → Stands n ph D j r d → Stands n ph' D' j r d
  stands_other j r d lj same (stands_passive e above) = stands_passive (same ∙ e) (exceeded_on r d above)
  stands_other j r d lj same (stands_active e) = stands_active (same ∙ e)
  stands_other j r d lj same (stands_leader e) = stands_leader (same ∙ e)
  stands_other j r d lj same (stands_later x y rank low settled) =
      stands_later x y (subst (λ (q : Phase). HasRank q x y) (sym same) rank) low (settled_on r d settled)

  stands_own : (r d : ℕ) → Stands n ph D i r d → Stands n ph' D' i r d
  stands_own r d (stands_passive e above) = stands_passive (passive_on i t.li e) (exceeded_on r d above)
  stands_own r d (stands_leader e) = absurd (not_leader n (ph i) (ph' i) t.taken t.put r d t.turn e)
  stands_own r d (stands_active e) = by_next (next_is n (ph i) (ph' i) t.taken t.put r d t.turn e)
    where
      by_next : Next n (ph' i) t.taken r d → Stands n ph' D' i r d
      by_next (next_same is) = stands_active is
      by_next (next_wins is) = stands_leader is
      by_next (next_gives m0 is et under) =
          stands_passive is (reached_on r d m0.round m0.id under (alive.reached (prev n i) m0 (lp t) (took t m0 et)))
      by_next (next_ties m0 is et same whole) =
          stands_later (r + 1) 0 (subst (λ (q : Phase). HasRank q (r + 1) 0) (sym is) (refl, refl)) (omega arith)
          (settled_on r d (home r d m0 e et same whole))
  stands_own r d (stands_later x y rank low settled) =
      elim (rank_next n (ph i) (ph' i) t.taken t.put x y t.turn rank) [
        | inl up ↦ stands_later up.0 up.1 up.2 (omega (arith, up.3)) (settled_on r d settled)
        | inr gives ↦
            let m0 = gives.1.0 in
            stands_passive gives.0 (reached_on r d m0.round m0.id (under_later r d x y m0.round m0.id low gives.1.2)
            (alive.reached (prev n i) m0 (lp t) (took t m0 gives.1.1)))
      ]
    where
      under_later : (r d x y u v : ℕ) → r < x → IsUnder x y u v → IsUnder r d u v
      under_later r d x y u v low under = grind arith

  stands' : (j r d : ℕ) → j < n → D' j r d → Stands n ph' D' j r d
  stands' j r d lj drew = elim (g.new j r d drew) [
    | inr now ↦ subst (λ (k : ℕ). Stands n ph' D' k r d) (sym now.0) (stands_active now.1)
    | inl old ↦ elim (cases_eq j i) [
      | inr ne ↦ stands_other j r d lj (t.others j lj ne) (inv.stands j r d lj old)
      | inl e ↦ subst (λ (k : ℕ). Stands n ph' D' k r d) (sym e)
          (stands_own r d (subst (λ (k : ℕ). Stands n ph D k r d) e (inv.stands j r d lj old)))
    ]
  ]

  one_new : (r d e : ℕ) → ph' i ≡ Active r d → D i r e → d ≡ e
  one_new r d e is old = elim (was r d is) [
    | inl drew ↦ inv.one i r d e t.li drew old
    | inr chose ↦ absurd (not_choosing (inv.stands i r e t.li old) chose)
  ]

  one' : (j r d e : ℕ) → j < n → D' j r d → D' j r e → d ≡ e
  one' j r d e lj x y = elim (g.new j r d x) [
    | inl old ↦ elim (g.new j r e y) [
      | inl also ↦ inv.one j r d e lj old also
      | inr now ↦ sym (one_new r e d now.1 (subst (λ (k : ℕ). D k r d) now.0 old))
    ]
    | inr now ↦ elim (g.new j r e y) [
      | inl old ↦ one_new r d e now.1 (subst (λ (k : ℕ). D k r e) now.0 old)
      | inr also ↦ (let z : Active r d ≡ Active r e = sym now.1 ∙ also.1 in cc)
    ]
  ]

  chooses' : (j r : ℕ) → j < n → 1 ≤ r → ph' j ≡ Choosing (r + 1) → HasBefore n ph' D' j r
  chooses' j r lj one is = elim (cases_eq j i) [
    | inr ne ↦ before_on j r (inv.chooses j r lj one (sym (t.others j lj ne) ∙ is))
    | inl e ↦
        let tie = tie_of n (ph i) (ph' i) t.taken t.put r t.turn (subst (λ (k : ℕ). ph' k ≡ Choosing (r + 1)) e is) in
        let w = inv.met (prev n i) tie.m0 (lp t) (took t tie.m0 tie.takes) tie.dirt in
        subst (λ (k : ℕ). HasBefore n ph' D' k r) (sym e) (before_on i r (record {
          id = tie.id;
          drew = inv.active i r tie.id t.li tie.was;
          settled = home r tie.id tie.m0 tie.was tie.takes tie.same tie.whole;
          b = w.0;
          place = w.2;
          other = back_other n w.0 w.1 i w.2 t.li w.3 (omega (arith, w.4, tie.whole));
          also = subst (λ (u : ℕ). D w.0 u tie.id) tie.same.0 (subst (λ (u : ℕ). D w.0 tie.m0.round u) tie.same.1 w.5);
        }))
  ]

  before' : (j r d : ℕ) → j < n → 1 ≤ r → D' j (r + 1) d → HasBefore n ph' D' j r
  before' j r d lj one drew = elim (g.new j (r + 1) d drew) [
    | inl old ↦ before_on j r (inv.before j r d lj one old)
    | inr now ↦ subst (λ (k : ℕ). HasBefore n ph' D' k r) (sym now.0) (elim (was (r + 1) d now.1) [
      | inl old ↦ before_on i r (inv.before i r d t.li one old)
      | inr chose ↦ before_on i r (inv.chooses i r t.li one chose)
    ])
  ]

  passed_on : (b r d : ℕ) → b < n → (ph b ≡ Passive) ⊎ D b r d → (ph' b ≡ Passive) ⊎ D' b r d
  passed_on b r d lb (inl passive) = inl (passive_on b lb passive)
  passed_on b r d lb (inr drew) = inr (g.grow b r d drew)

  passed' : (j : ℕ) (m : Msg) (b k : ℕ) → j < n → Has (Q' j) m → b < n → IsBack n b k j → k + 2 ≤ m.hop
      → (ph' b ≡ Passive) ⊎ D' b m.round m.id
  passed' j m b k lj is lb at low = elim (came t j m lj is) [
    | inl old ↦ passed_on b m.round m.id lb (inv.passed j m b k lj old lb at low)
    | inr new ↦ by_put k (subst (λ (x : ℕ). IsBack n b k x) new.0 at) low (put_is t m new.1)
  ]
    where
      by_put : (k : ℕ) → IsBack n b k i → k + 2 ≤ m.hop → Put n (ph i) (ph' i) t.taken m
          → (ph' b ≡ Passive) ⊎ D' b m.round m.id
      by_put k here low (put_draw r d ep eq er ed eh cl) = absurd (omega arith)
      by_put zero here low (put_raise m0 et up ends own nc nl dk) =
          subst (λ (x : ℕ). (ph' x ≡ Passive) ⊎ D' x m.round m.id) (sym (back_none n b i lb t.li here)) (elim ends [
            | inl passive ↦ inl passive
            | inr active ↦ inr (g.now m.round m.id active.0)
          ])
      by_put (suc k) here low (put_raise m0 et up ends own nc nl dk) =
          passed_on b m.round m.id lb (subst (λ (x : ℕ). (ph b ≡ Passive) ⊎ D b x m.id) (sym up.round)
          (subst (λ (x : ℕ). (ph b ≡ Passive) ⊎ D b m0.round x) (sym up.id)
          (inv.passed (prev n i) m0 b k (lp t) (took t m0 et) lb (back_one n b k i lb t.li here)
          (omega (arith, up.hop)))))

  met' : (j : ℕ) (m : Msg) → j < n → Has (Q' j) m → m.dirty ≡ true
      → (b : ℕ) × (k : ℕ) × (b < n) × IsBack n b k j × (k + 2 ≤ m.hop) × D' b m.round m.id
  met' j m lj is dirt = elim (came t j m lj is) [
    | inl old ↦
        let w = inv.met j m lj old dirt in
        (w.0, w.1, w.2, w.3, w.4, g.grow w.0 m.round m.id w.5)
    | inr new ↦ subst (λ (x : ℕ). (b : ℕ) × (k : ℕ) × (b < n) × IsBack n b k x × (k + 2 ≤ m.hop) × D' b m.round m.id)
        (sym new.0) (by_put (put_is t m new.1))
  ]
    where
      by_put : Put n (ph i) (ph' i) t.taken m
          → (b : ℕ) × (k : ℕ) × (b < n) × IsBack n b k i × (k + 2 ≤ m.hop) × D' b m.round m.id
      by_put (put_draw r d ep eq er ed eh cl) = (let z : true ≡ false = sym dirt ∙ cl in absurd cc)
      by_put (put_raise m0 et up ends own nc nl dk) = elim (dk dirt) [
        | inr here ↦ (
          i,
          0,
          t.li,
          inl (omega arith),
          omega (arith, up.hop, (guarded.origins (prev n i) m0 (lp t) (took t m0 et)).2.0),
          g.now m.round m.id here,
        )
        | inl before ↦
            let w = inv.met (prev n i) m0 (lp t) (took t m0 et) before in
            let most = (guarded.origins (prev n i) m0 (lp t) (took t m0 et)).2.1 in (
              w.0,
              suc w.1,
              w.2,
              back_more n w.0 w.1 i w.2 t.li (omega (arith, w.4, most)) w.3,
              omega (arith, w.4, up.hop),
              subst (λ (u : ℕ). D' w.0 u m.id) (sym up.round) (subst (λ (u : ℕ). D' w.0 m0.round u) (sym up.id)
                  (g.grow w.0 m0.round m0.id w.5)),
            )
      ]

  led' : (j r d : ℕ) → j < n → L' j r d → IsWon n ph' D' j r d
  led' j r d lj leads = elim (g.leads j r d leads) [
    | inl old ↦
        let w = inv.led j r d lj old in
        record {
          drew = g.grow j r d w.drew;
          all = all_on r d w.all;
          less = λ k e lk ne drew. w.less k e lk ne (closed r d k e w.all lk drew);
        }
    | inr now ↦
        let win : Win n (ph i) t.taken t.put r d = win_of n (ph i) (ph' i) t.taken t.put r d t.turn now.1 in
        let over = orderly'.ends i r d t.li now.1 in
        subst (λ (k : ℕ). IsWon n ph' D' k r d) (sym now.0) (record {
          drew = g.grow i r d (inv.active i r d t.li win.was);
          all = all_on r d (home_all r d win.m0 win.was win.took win.same win.hop);
          less = λ k e lk ne drew.
              let w = gave_in (stands' k r e lk drew) (over.others k lk ne) in
              elim (cases_eq w.0 i) [
                | inr far ↦ absurd (no_rank (ph' w.0) w.1 w.2 (over.others w.0 w.3.place far) w.3.rank)
                | inl here ↦
                    let rank : HasRank (Leader r d) w.1 w.2 = subst (λ (q : Phase). HasRank q w.1 w.2) now.1
                    (subst (λ (x : ℕ). HasRank (ph' x) w.1 w.2) here w.3.rank) in
                    less w.1 w.2 e rank.0 rank.1 w.4
              ];
        })
  ]
    where
      less : (x y e : ℕ) → x ≡ r → y ≡ d → IsUnder r e x y → e < d
      less x y e xr yd (inl low) = absurd (omega arith)
      less x y e xr yd (inr under) = omega (arith, under.1)

  leader' : (j r d : ℕ) → j < n → ph' j ≡ Leader r d → L' j r d
  leader' j r d lj is = elim (cases_eq j i) [
    | inl e ↦ subst (λ (k : ℕ). L' k r d) (sym e) (g.wins r d (subst (λ (k : ℕ). ph' k ≡ Leader r d) e is))
    | inr ne ↦ g.led j r d (inv.leader j r d lj (sym (t.others j lj ne) ∙ is))
  ]

  pub turn_told : IsTold n ph' Q' D' L'
  turn_told = record {
    active = active';
    stands = stands';
    one = one';
    chooses = chooses';
    before = before';
    passed = passed';
    met = met';
    led = led';
    leader = leader';
  }

-- ---- where nothing is seen

module _ {n : ℕ} {ph ph' : ℕ → Phase} {Q Q' : ℕ → List Msg} {D D' L L' : ℕ → ℕ → ℕ → Type 0}
    (same : IsUnseen n ph ph' Q Q') (inv : IsTold n ph Q D L) (to : (j r d : ℕ) → j < n → D j r d → D' j r d)
    (from : (j r d : ℕ) → j < n → D' j r d → D j r d) (led_to : (j r d : ℕ) → j < n → L j r d → L' j r d)
    (led_from : (j r d : ℕ) → j < n → L' j r d → L j r d) where
  all_same : (r d : ℕ) → ((k : ℕ) → k < n → (ph k ≡ Passive) ⊎ D k r d) → (k : ℕ) → k < n → (ph' k ≡ Passive) ⊎ D' k r d
  all_same r d all k lk = elim (all k lk) [
    | inl passive ↦ inl (same.phases k lk ∙ passive)
    | inr drew ↦ inr (to k r d lk drew)
  ]

  settled_same : (r d : ℕ) → IsSettled n ph D r d → IsSettled n ph' D' r d
  settled_same r d s = record {
    all = all_same r d s.all;
    most = λ j e lj drew. s.most j e lj (from j r e lj drew);
  }

  before_same : (j r : ℕ) → j < n → HasBefore n ph D j r → HasBefore n ph' D' j r
  before_same j r lj b = record {
    id = b.id;
    drew = to j r b.id lj b.drew;
    settled = settled_same r b.id b.settled;
    b = b.b;
    place = b.place;
    other = b.other;
    also = to b.b r b.id b.place b.also;
  }

  rank_same : (j x y : ℕ) → j < n → HasRank (ph j) x y → HasRank (ph' j) x y
  rank_same j x y lj rank = subst (λ (q : Phase). HasRank q x y) (sym (same.phases j lj)) rank

  exceeded_same : (r d : ℕ) → IsExceeded n ph r d → IsExceeded n ph' r d
  exceeded_same r d w = (
    w.0,
    w.1,
    w.2,
    record { place = w.3.place; rank = rank_same w.0 w.1 w.2 w.3.place w.3.rank },
    w.4,
  )

  stands_same : (j r d : ℕ) → j < n → Stands n ph D j r d → Stands n ph' D' j r d
  stands_same j r d lj (stands_passive e above) = stands_passive (same.phases j lj ∙ e) (exceeded_same r d above)
  stands_same j r d lj (stands_active e) = stands_active (same.phases j lj ∙ e)
  stands_same j r d lj (stands_leader e) = stands_leader (same.phases j lj ∙ e)
  stands_same j r d lj (stands_later x y rank low settled) =
      stands_later x y (rank_same j x y lj rank) low (settled_same r d settled)

  pub same_told : IsTold n ph' Q' D' L'
  same_told = record {
    active = λ j r d lj is. to j r d lj (inv.active j r d lj (sym (same.phases j lj) ∙ is));
    stands = λ j r d lj drew. stands_same j r d lj (inv.stands j r d lj (from j r d lj drew));
    one = λ j r d e lj x y. inv.one j r d e lj (from j r d lj x) (from j r e lj y);
    chooses = λ j r lj one is. before_same j r lj (inv.chooses j r lj one (sym (same.phases j lj) ∙ is));
    before = λ j r d lj one drew. before_same j r lj (inv.before j r d lj one (from j (r + 1) d lj drew));
    passed = λ j m b k lj is lb at low.
        elim (inv.passed j m b k lj (subst (λ (ks : List Msg). Has ks m) (same.queues j lj) is) lb at low) [
          | inl passive ↦ inl (same.phases b lb ∙ passive)
          | inr drew ↦ inr (to b m.round m.id lb drew)
        ];
    met = λ j m lj is dirt.
        (let w = inv.met j m lj (subst (λ (ks : List Msg). Has ks m) (same.queues j lj) is) dirt in
        (w.0, w.1, w.2, w.3, w.4, to w.0 m.round m.id w.2 w.5));
    led = λ j r d lj leads.
        (let w = inv.led j r d lj (led_from j r d lj leads) in
        record {
          drew = to j r d lj w.drew;
          all = all_same r d w.all;
          less = λ k e lk ne drew. w.less k e lk ne (from k r e lk drew);
        });
    leader = λ j r d lj is. led_to j r d lj (inv.leader j r d lj (sym (same.phases j lj) ∙ is));
  }

pub told_said : {n : ℕ} {ph : ℕ → Phase} {Q : ℕ → List Msg} {D L : ℕ → ℕ → ℕ → Type 0} → IsTold n ph Q D L
    → IsSaid n D L
told_said told = record {
  one = told.one;
  before = λ i r d li one drew.
      (let b = told.before i r d li one drew in (b.id, b.drew, (λ j x lj h. b.settled.most j x lj h), (b.b, b.place, b.other, b.also)));
  led = λ i r d li leads. (let w = told.led i r d li leads in (w.drew, λ j e lj ne drew. w.less j e lj ne drew));
}

pub said_on : {n : ℕ} {D D' L L' : ℕ → ℕ → ℕ → Type 0} → ((j r d : ℕ) → j < n → D j r d → D' j r d)
    → ((j r d : ℕ) → j < n → D' j r d → D j r d) → ((j r d : ℕ) → j < n → L' j r d → L j r d) → IsSaid n D L
    → IsSaid n D' L'
said_on to from led_from said = record {
  one = λ i r d e li x y. said.one i r d e li (from i r d li x) (from i r e li y);
  before = λ i r d li one drew.
      (let b = said.before i r d li one (from i (r + 1) d li drew) in (
        b.0,
        to i r b.0 li b.1,
        (λ j x lj h. b.2 j x lj (from j r x lj h)),
        (b.3.0, b.3.1, b.3.2, to b.3.0 r b.0 b.3.1 b.3.3),
      ));
  led = λ i r d li leads.
      (let w = said.led i r d li (led_from i r d li leads) in
      (to i r d li w.0, λ j e lj ne drew. w.1 j e lj ne (from j r e lj drew)));
}
