-- A turn of a node keeps an election alive: no rank is lost, and no message but where another's, or a node's, is as
-- great.
use Rattle.std.proofs.Common.{◌≡◌, ◌≢◌, ℕ, ◌+◌, ◌<◌, ◌⊎◌, inl, inr, List, [], ◌∷◌, refl, sym, ◌∙◌, subst, ap, arith}
use Rattle.std.proofs.lemmas.Bool.{cases_eq}
use Rattle.ira_event.specs.declared.msg.Msg.{Msg}
use Rattle.ira_node.specs.declared.phase.Phase.{Phase}
use Rattle.ira_node.specs.declared.phase.Phase.TheVariants.{Choosing, Active, Passive, Leader}
use Rattle.ira_node.specs.Msg.{IsGreater}
use Rattle.ira_order.specs.Ring.{prev}
use Rattle.ira_election.proofs.Election.{IsAt, Has, IsAtMost, HasRank, Ranks, IsReached, IsTop, IsOnItsWay, IsAlive}
use Rattle.ira_election.proofs.Ranks.{at_most_refl, at_most_trans, at_most_same, under_most, under_not, greater_under}
use Rattle.ira_election.proofs.Ranks.{next_not}
use Rattle.ira_election.proofs.Turns.{at_home, at_next, not_home, one_of, none_of, HasTurn, IsUnseen, IsRaised, Turn}
use Rattle.ira_election.proofs.Turns.{turn_draw, turn_pass, turn_give, turn_meet, turn_purge, turn_tie, turn_win}
use Rattle.ira_election.proofs.Turns.{lp, came, lost, took, made}

-- ---- changes

-- from phases ph and messages Q to ph' and Q'
pub record Change (n : ℕ) (ph ph' : ℕ → Phase) (Q Q' : ℕ → List Msg) : Type 0 where
  -- no rank is lost
  pub node_up : (j x y : ℕ) → Ranks n ph j x y → IsReached n ph' x y
  -- no message comes that no node's rank is at least
  pub msg_up : (i : ℕ) (m : Msg) → i < n → Has (Q' i) m → IsReached n ph m.round m.id ⊎ IsReached n ph' m.round m.id
  -- nor goes but where another message's, or a node's, is
  pub msg_down : (i : ℕ) (m : Msg) → i < n → Has (Q i) m
      → ((k : ℕ) × (o : Msg) × (k < n) × Has (Q' k) o × IsAtMost m.round m.id o.round o.id)
      ⊎ IsReached n ph' m.round m.id
  -- an active node whose pair nothing exceeds was that before, and still has its message on its way, or has it now
  pub own : (a x y : ℕ) → a < n → ph' a ≡ Active x y → IsTop n ph' Q' x y
      → ((ph a ≡ Active x y) × (IsOnItsWay n Q a x y → IsOnItsWay n Q' a x y)) ⊎ IsOnItsWay n Q' a x y

module _ {n : ℕ} {ph ph' : ℕ → Phase} {Q Q' : ℕ → List Msg} (c : Change n ph ph' Q Q') where
  further : (r d : ℕ) → IsReached n ph r d → IsReached n ph' r d
  further r d w =
      let u = c.node_up w.0 w.1 w.2 w.3 in
      (u.0, u.1, u.2, u.3, at_most_trans r d w.1 w.2 u.1 u.2 w.4 u.4)

  -- what nothing exceeds now nothing exceeded before
  pub lower : (x y : ℕ) → IsTop n ph' Q' x y → IsTop n ph Q x y
  lower x y top = record {
    messages = λ i m li h. elim (c.msg_down i m li h) [
      | inl k ↦ at_most_trans m.round m.id k.1.round k.1.id x y k.4 (top.messages k.0 k.1 k.2 k.3)
      | inr u ↦ at_most_trans m.round m.id u.1 u.2 x y u.4 (top.nodes u.0 u.1 u.2 u.3)
    ];
    nodes = λ j r d h. (let u = c.node_up j r d h in at_most_trans r d u.1 u.2 x y u.4 (top.nodes u.0 u.1 u.2 u.3));
  }

  pub kept : IsAlive n ph Q → IsAlive n ph' Q'
  kept inv = record {
    some = (let u = c.node_up inv.some.0 inv.some.1 inv.some.2 inv.some.3 in (u.0, u.1, u.2, u.3));
    reached = λ i m li h. elim (c.msg_up i m li h) [
      | inl w ↦ further m.round m.id w
      | inr u ↦ u
    ];
    own = λ a x y la pa top. elim (c.own a x y la pa top) [
      | inl t ↦ t.1 (inv.own a x y la t.0 (lower x y top))
      | inr t ↦ t
    ];
  }

round_of : (m o : Msg) → m ≡ o → m.round ≡ o.round
round_of m o e = ap (λ (q : Msg). q.round) e

id_of : (m o : Msg) → m ≡ o → m.id ≡ o.id
id_of m o e = ap (λ (q : Msg). q.id) e

way_in : (n : ℕ) (Q Q' : ℕ → List Msg) (a x y : ℕ) (t : IsOnItsWay n Q a x y) → Has (Q' t.i) t.m → IsOnItsWay n Q' a x y
way_in n Q Q' a x y t h =
    record { i = t.i; m = t.m; place = t.place; has = h; round = t.round; id = t.id; at = t.at }

-- what isn't seen changes nothing
pub unseen : (n : ℕ) (ph ph' : ℕ → Phase) (Q Q' : ℕ → List Msg) → IsUnseen n ph ph' Q Q' → IsAlive n ph Q
    → Change n ph ph' Q Q'
unseen n ph ph' Q Q' same inv = record {
  node_up = λ j x y h. (
    j,
    x,
    y,
    record {
      place = h.place;
      rank = subst (λ (p : Phase). HasRank p x y) (sym (same.phases j h.place)) h.rank;
    },
    at_most_refl x y x y refl refl,
  );
  msg_up = λ j m lj h. inl (inv.reached j m lj (subst (λ (ks : List Msg). Has ks m) (same.queues j lj) h));
  msg_down = λ j m lj h. inl (
    j,
    m,
    lj,
    subst (λ (ks : List Msg). Has ks m) (sym (same.queues j lj)) h,
    at_most_refl m.round m.id m.round m.id refl refl,
  );
  own = λ a x y la pa top. inl (
    sym (same.phases a la) ∙ pa,
    λ t.
        way_in n Q Q' a x y t (subst (λ (ks : List Msg). Has ks t.m) (sym (same.queues t.i t.place)) t.has),
  );
}

-- ---- a turn

module _ {n i : ℕ} {ph ph' : ℕ → Phase} {Q Q' : ℕ → List Msg} (t : HasTurn n i ph ph' Q Q') (inv : IsAlive n ph Q) where
  ranks_at : (j x y : ℕ) → ph' j ≡ ph j → Ranks n ph j x y → Ranks n ph' j x y
  ranks_at j x y same h = record {
    place = h.place;
    rank = subst (λ (p : Phase). HasRank p x y) (sym same) h.rank;
  }

  -- the rank of the one node is covered, and so is that of each
  up_by : ((x y : ℕ) → HasRank (ph i) x y → IsReached n ph' x y) → (j x y : ℕ) → Ranks n ph j x y → IsReached n ph' x y
  up_by here j x y h = elim (cases_eq j i) [
    | inl e ↦ here x y (subst (λ (k : ℕ). HasRank (ph k) x y) e h.rank)
    | inr ne ↦ (j, x, y, ranks_at j x y (t.others j h.place ne) h, at_most_refl x y x y refl refl)
  ]

  -- as where its pair stays, or is at most this one
  up_to : (p : Phase) (u v : ℕ) → ph i ≡ p → Ranks n ph' i u v → ((x y : ℕ) → HasRank p x y → IsAtMost x y u v)
      → (j x y : ℕ) → Ranks n ph j x y → IsReached n ph' x y
  up_to p u v old new most =
      up_by (λ x y h. (i, u, v, new, most x y (subst (λ (p : Phase). HasRank p x y) old h)))

  up_same : ph' i ≡ ph i → (j x y : ℕ) → Ranks n ph j x y → IsReached n ph' x y
  up_same here = up_by (λ x y h. (
    i,
    x,
    y,
    ranks_at i x y here (record { place = t.li; rank = h }),
    at_most_refl x y x y refl refl,
  ))

  ranks_new : (p : Phase) (x y : ℕ) → ph' i ≡ p → HasRank p x y → Ranks n ph' i x y
  ranks_new p x y new h = record { place = t.li; rank = subst (λ (p : Phase). HasRank p x y) (sym new) h }

  -- a message that stays
  stays : (j : ℕ) (o : Msg) → j < n → Has (Q' j) o
      → ((k : ℕ) × (m : Msg) × (k < n) × Has (Q' k) m × IsAtMost o.round o.id m.round m.id)
      ⊎ IsReached n ph' o.round o.id
  stays j o lj h = inl (j, o, lj, h, at_most_refl o.round o.id o.round o.id refl refl)

  -- an active node is node i, which is active with its pair, or was so before
  was_active : (p : Phase) (a x y : ℕ) → ph' i ≡ p → a < n → ph' a ≡ Active x y
      → ((a ≡ i) × (p ≡ Active x y)) ⊎ ((a ≢ i) × (ph a ≡ Active x y))
  was_active p a x y new la pa = elim (cases_eq a i) [
    | inl e ↦ inl (e, sym new ∙ subst (λ (k : ℕ). ph' k ≡ Active x y) e pa)
    | inr ne ↦ inr (ne, sym (t.others a la ne) ∙ pa)
  ]

  -- a node that chose is active
  drawing : (r d : ℕ) (m : Msg) → ph i ≡ Choosing r → ph' i ≡ Active r d → t.taken ≡ [] → t.put ≡ m ∷ [] → m.round ≡ r
      → m.id ≡ d → m.hop ≡ 1 → Change n ph ph' Q Q'
  drawing r d m old new et eo mr md mh =
      let rank : Ranks n ph' i r d = ranks_new (Active r d) r d new (refl, refl) in
      let forth : (j : ℕ) (o : Msg) → j < n → Has (Q j) o → Has (Q' j) o = λ j o lj h.
      elim (lost t j o lj h) [ inl b ↦ b | inr k ↦ absurd (none_of o t.taken et k.1) ] in
      record {
        node_up = up_to (Choosing r) r d old rank (λ x y is. inr (is.0, omega (arith, is.1)));
        msg_up = λ j o lj h. elim (came t j o lj h) [
          | inl b ↦ inl (inv.reached j o lj b)
          | inr k ↦
              let is = one_of m o t.put eo k.1 in
              inr (i, r, d, rank, at_most_refl o.round o.id r d (round_of o m is ∙ mr) (id_of o m is ∙ md))
        ];
        msg_down = λ j o lj h. stays j o lj (forth j o lj h);
        own = λ a x y la pa top. elim (was_active (Active r d) a x y new la pa) [
          | inl same ↦
              let both = same.1 in
              let rx : r ≡ x = cc in
              let dy : d ≡ y = cc in
              inr (record {
                i = i;
                m = m;
                place = t.li;
                has = made t m eo;
                round = mr ∙ rx;
                id = md ∙ dy;
                at = (omega arith, omega (arith, t.two), inl (omega (arith, same.0)));
              })
          | inr far ↦ inl (far.1, λ w. way_in n Q Q' a x y w (forth w.i w.m w.place w.has))
        ];
      }

  module _ (m0 : Msg) (et : t.taken ≡ m0 ∷ []) where
    was : Has (Q (prev n i)) m0
    was = took t m0 et

    gone : (j : ℕ) (o : Msg) → j < n → Has (Q j) o → Has (Q' j) o ⊎ ((j ≡ prev n i) × (o ≡ m0))
    gone j o lj h = elim (lost t j o lj h) [
      | inl b ↦ inl b
      | inr k ↦ inr (k.0, one_of m0 o t.taken et k.1)
    ]

    -- it is passed on
    passing : (m1 : Msg) → t.put ≡ m1 ∷ [] → IsRaised m0 m1 → ((j x y : ℕ) → Ranks n ph j x y → IsReached n ph' x y)
        → ((a x y : ℕ) → a < n → ph' a ≡ Active x y → (ph a ≡ Active x y) × ((a ≢ i) ⊎ (m0.hop < n)))
        → Change n ph ph' Q Q'
    passing m1 eo up reach who =
        let here = made t m1 eo in
        record {
          node_up = reach;
          msg_up = λ j o lj h. elim (came t j o lj h) [
            | inl b ↦ inl (inv.reached j o lj b)
            | inr k ↦
                let is = one_of m1 o t.put eo k.1 in
                let w = inv.reached (prev n i) m0 (lp t) was in
                inl (
                  w.0,
                  w.1,
                  w.2,
                  w.3,
                  at_most_same o.round o.id m0.round m0.id w.1 w.2 (round_of o m1 is ∙ up.round)
                      (id_of o m1 is ∙ up.id) w.4,
                )
          ];
          msg_down = λ j o lj h. elim (gone j o lj h) [
            | inl b ↦ stays j o lj b
            | inr k ↦ inl (
              i,
              m1,
              t.li,
              here,
              at_most_refl o.round o.id m1.round m1.id (round_of o m0 k.1 ∙ sym up.round) (id_of o m0 k.1 ∙ sym up.id),
            )
          ];
          own = λ a x y la pa top.
              let is = who a x y la pa in
              inl (
                is.0,
                λ w. elim (gone w.i w.m w.place w.has) [
                  | inl b ↦ way_in n Q Q' a x y w b
                  | inr k ↦
                      let at0 : IsAt n a (prev n i) m0.hop = subst (λ (q : Msg). IsAt n a (prev n i) q.hop) k.1
                      (subst (λ (j : ℕ). IsAt n a j w.m.hop) k.0 w.at) in
                      let ne : a ≢ i = elim is.1 [
                        | inl ne ↦ ne
                        | inr short ↦ λ e.
                            not_home n i m0.hop t.li short (subst (λ (j : ℕ). IsAt n j (prev n i) m0.hop) e at0)
                      ] in
                      record {
                        i = i;
                        m = m1;
                        place = t.li;
                        has = here;
                        round = up.round ∙ round_of m0 w.m (sym k.1) ∙ w.round;
                        id = up.id ∙ id_of m0 w.m (sym k.1) ∙ w.id;
                        at = subst (λ (h : ℕ). IsAt n a i h) (sym up.hop) (at_next n a i m0.hop la t.li ne at0);
                      }
                ],
              );
        }

    -- it goes no further
    dropping : t.put ≡ [] → ((j x y : ℕ) → Ranks n ph j x y → IsReached n ph' x y) → IsReached n ph' m0.round m0.id
        → ((a x y : ℕ) → a < n → ph' a ≡ Active x y → IsTop n ph' Q' x y
        → (ph a ≡ Active x y) × (IsAt n a (prev n i) m0.hop → m0.round ≡ x → m0.id ≡ y → ⊥))
        → Change n ph ph' Q Q'
    dropping eo up covered who = record {
      node_up = up;
      msg_up = λ j o lj h. elim (came t j o lj h) [
        | inl b ↦ inl (inv.reached j o lj b)
        | inr k ↦ absurd (none_of o t.put eo k.1)
      ];
      msg_down = λ j o lj h. elim (gone j o lj h) [
        | inl b ↦ stays j o lj b
        | inr k ↦ inr (subst (λ (q : Msg). IsReached n ph' q.round q.id) (sym k.1) covered)
      ];
      own = λ a x y la pa top.
          let is = who a x y la pa top in
          inl (
            is.0,
            λ w. elim (gone w.i w.m w.place w.has) [
              | inl b ↦ way_in n Q Q' a x y w b
              | inr k ↦ absurd (is.1 (subst (λ (q : Msg). IsAt n a (prev n i) q.hop) k.1
                  (subst (λ (j : ℕ). IsAt n a j w.m.hop) k.0 w.at)) (round_of m0 w.m (sym k.1) ∙ w.round)
                  (id_of m0 w.m (sym k.1) ∙ w.id))
            ],
          );
    }

    -- a node that gives in to it doesn't have it, so another has at least its rank
    giving_in : (r d : ℕ) (m1 : Msg) → ph i ≡ Active r d → ph' i ≡ Passive → IsGreater m0 r d → t.put ≡ m1 ∷ []
        → IsRaised m0 m1 → Change n ph ph' Q Q'
    giving_in r d m1 old new great eo up =
        let w = inv.reached (prev n i) m0 (lp t) was in
        let below = greater_under m0 r d great in
        let far : w.0 ≢ i = λ e.
        (let is : HasRank (Active r d) w.1 w.2 = subst (λ (p : Phase). HasRank p w.1 w.2) old
        (subst (λ (k : ℕ). HasRank (ph k) w.1 w.2) e w.3.rank) in
        under_not r d m0.round m0.id below
        (at_most_trans m0.round m0.id w.1 w.2 r d w.4 (at_most_refl w.1 w.2 r d is.0 is.1))) in
        passing m1 eo up (up_by (λ x y h.
        let is : HasRank (Active r d) x y = subst (λ (p : Phase). HasRank p x y) old h in (
          w.0,
          w.1,
          w.2,
          ranks_at w.0 w.1 w.2 (t.others w.0 w.3.place far) w.3,
          at_most_trans x y m0.round m0.id w.1 w.2
              (at_most_same x y r d m0.round m0.id is.0 is.1 (under_most r d m0.round m0.id below)) w.4,
        ))) (λ a x y la pa. elim (was_active Passive a x y new la pa) [
          | inl same ↦ (let both = same.1 in absurd cc)
          | inr other ↦ (other.1, inl other.0)
        ])

  by_turn : Turn n (ph i) (ph' i) t.taken t.put → Change n ph ph' Q Q'
  by_turn (turn_draw r d m1 ep eq et eo er ed eh cl) = drawing r d m1 ep eq et eo er ed eh
  by_turn (turn_pass m0 m1 ep eq et eo up dk) =
      passing m0 et m1 eo up (up_same (eq ∙ sym ep)) (λ a x y la pa. elim (was_active Passive a x y eq la pa) [
        | inl same ↦ (let both = same.1 in absurd cc)
        | inr other ↦ (other.1, inl other.0)
      ])
  by_turn (turn_give r d m0 m1 ep eq g et eo up dk) = giving_in m0 et r d m1 ep eq g eo up
  by_turn (turn_meet r d m0 m1 ep eq g short et eo up dirt) =
      passing m0 et m1 eo up (up_same (eq ∙ sym ep)) (λ a x y la pa. elim (was_active (Active r d) a x y eq la pa) [
        | inl same ↦ (subst (λ (k : ℕ). ph k ≡ Active x y) (sym same.0) (ep ∙ same.1), inr short)
        | inr other ↦ (other.1, inl other.0)
      ])
  by_turn (turn_purge r d m0 ep eq less et eo) =
      let rank : Ranks n ph' i r d = ranks_new (Active r d) r d eq (refl, refl) in
      dropping m0 et eo (up_same (eq ∙ sym ep)) (i, r, d, rank, under_most m0.round m0.id r d less)
      (λ a x y la pa top.
      let not : IsAt n a (prev n i) m0.hop → m0.round ≡ x → m0.id ≡ y → ⊥ = λ at mx my.
      under_not m0.round m0.id r d less (at_most_trans r d x y m0.round m0.id (top.nodes i r d rank)
      (at_most_refl x y m0.round m0.id (sym mx) (sym my))) in
      elim (was_active (Active r d) a x y eq la pa) [
        | inl same ↦ (subst (λ (k : ℕ). ph k ≡ Active x y) (sym same.0) (ep ∙ same.1), not)
        | inr other ↦ (other.1, not)
      ])
  by_turn (turn_tie r d m0 ep eq same whole dy et eo) =
      let rank : Ranks n ph' i (r + 1) 0 = ranks_new (Choosing (r + 1)) (r + 1) 0 eq (refl, refl) in
      dropping m0 et eo (up_to (Active r d) (r + 1) 0 ep rank (λ x y is. inl (omega (arith, is.0))))
      (i, r + 1, 0, rank, inl (omega (arith, same.0)))
      (λ a x y la pa top. elim (was_active (Choosing (r + 1)) a x y eq la pa) [
        | inl here ↦ (let both = here.1 in absurd cc)
        | inr other ↦ (
          other.1,
          λ at mx my. next_not r x y (top.nodes i (r + 1) 0 rank) (sym mx ∙ same.0),
        )
      ])
  by_turn (turn_win r d m0 ep eq same hop clean et eo) =
      let rank : Ranks n ph' i r d = ranks_new (Leader r d) r d eq (refl, refl) in
      dropping m0 et eo (up_to (Active r d) r d ep rank (λ x y is. at_most_refl x y r d is.0 is.1))
      (i, r, d, rank, at_most_refl m0.round m0.id r d same.0 same.1)
      (λ a x y la pa top. elim (was_active (Leader r d) a x y eq la pa) [
        | inl here ↦ (let both = here.1 in absurd cc)
        | inr other ↦ (
          other.1,
          λ at mx my. other.0 (at_home n a i la t.li (subst (λ (h : ℕ). IsAt n a (prev n i) h) hop at)),
        )
      ])

  pub changes : Change n ph ph' Q Q'
  changes = by_turn t.turn
