-- A turn of a node keeps an election orderly.
use Rattle.std.proofs.Common.{◌≡◌, ◌≢◌, ℕ, ◌+◌, ◌-◌, ◌<◌, ◌≤◌, ◌⊎◌, inl, inr, false, true, List, [], ◌∷◌, ◌++◌}
use Rattle.std.proofs.Common.{refl, sym, ◌∙◌, subst, ap, arith}
use Rattle.std.proofs.lemmas.Bool.{cases_eq, cases_lt}
use Rattle.ira_event.specs.declared.msg.Msg.{Msg}
use Rattle.ira_node.specs.declared.phase.Phase.{Phase}
use Rattle.ira_node.specs.declared.phase.Phase.TheVariants.{Choosing, Active, Passive, Leader}
use Rattle.ira_node.specs.Msg.{IsGreater}
use Rattle.ira_order.specs.Ring.{prev}
use Rattle.ira_election.proofs.Election.{IsAt, Has, IsAtMost, HasRank, Ranks, IsTop, IsAlive, IsForeign, IsAhead}
use Rattle.ira_election.proofs.Election.{HasOrigin, IsDecided, IsOrderly}
use Rattle.ira_election.proofs.Ranks.{at_most_refl, at_most_trans, under_not, greater_under, next_not}
use Rattle.ira_election.proofs.Turns.{HasTurn, IsUnseen, Put, put_draw, put_raise, Win, win_of, active_of, next_of}
use Rattle.ira_election.proofs.Turns.{not_leader, stays_passive, takes_or_chooses, at_next, at_prev, not_home, one_node}
use Rattle.ira_election.proofs.Turns.{one_place, one_hop}
use Rattle.ira_election.proofs.Turns.{own_hop, first_hop, later_hop, home_at, hop_to, has_split, has_none, none_of}
use Rattle.ira_election.proofs.Turns.{lp, came, took, first_there, put_is, Old, splits}

module _ {n i : ℕ} {ph ph' : ℕ → Phase} {Q Q' : ℕ → List Msg} (t : HasTurn n i ph ph' Q Q')
    (lower : (x y : ℕ) → IsTop n ph' Q' x y → IsTop n ph Q x y) (inv : IsOrderly n ph Q) (base : IsAlive n ph Q) where
  some_hop : (m0 : Msg) (x y : ℕ) → t.taken ≡ m0 ∷ [] → m0.round ≡ x → m0.id ≡ y → IsTop n ph Q x y → 1 ≤ m0.hop
  some_hop m0 x y et mr mi top = (inv.origins (prev n i) m0 x y (lp t) (took t m0 et) mr mi top).at.0

  -- nothing that is received is greater than what nothing exceeds
  no_greater : (x y : ℕ) → IsTop n ph Q x y → (m0 : Msg) → t.taken ≡ m0 ∷ [] → IsGreater m0 x y → ⊥
  no_greater x y top m0 et g =
      under_not x y m0.round m0.id (greater_under m0 x y g) (top.messages (prev n i) m0 (lp t) (took t m0 et))

  no_later : (x y : ℕ) → IsTop n ph' Q' x y → ph' i ≡ Choosing (x + 1) → ⊥
  no_later x y top is =
      next_not x x y (top.nodes i (x + 1) 0 (record {
        place = t.li;
        rank = subst (λ (p : Phase). HasRank p (x + 1) 0) (sym is) (refl, refl);
      })) refl

  keeps_pair : (x y : ℕ) → IsTop n ph' Q' x y → ph i ≡ Active x y → (ph' i ≡ Active x y) ⊎ (ph' i ≡ Leader x y)
  keeps_pair x y top is =
      next_of n (ph i) (ph' i) t.taken t.put x y t.turn is (no_greater x y (lower x y top)) (no_later x y top)

  -- ---- a clean message has passed passive nodes alone

  passive_on : (b : ℕ) → b < n → ph b ≡ Passive → ph' b ≡ Passive
  passive_on b lb is = elim (cases_eq b i) [
    | inl e ↦ subst (λ (k : ℕ). ph' k ≡ Passive) (sym e) (stays_passive n (ph i) (ph' i) t.taken t.put t.turn
        (subst (λ (k : ℕ). ph k ≡ Passive) e is))
    | inr ne ↦ t.others b lb ne ∙ is
  ]

  clean' : (j : ℕ) (m : Msg) (a b h : ℕ) → j < n → Has (Q' j) m → m.dirty ≡ false → a < n → IsAt n a j m.hop → b < n
      → 2 ≤ h → h ≤ m.hop → IsAt n a b h → ph' b ≡ Passive
  clean' j m a b h lj is clean la at lb two low far = elim (came t j m lj is) [
    | inl old ↦ passive_on b lb (inv.clean j m a b h lj old clean la at lb two low far)
    | inr new ↦
        let here : IsAt n a i m.hop = subst (λ (k : ℕ). IsAt n a k m.hop) new.0 at in
        by_put here (put_is t m new.1)
  ]
    where
      by_put : IsAt n a i m.hop → Put n (ph i) (ph' i) t.taken m → ph' b ≡ Passive
      by_put here (put_draw r d ep eq er ed eh cl) = absurd (omega arith)
      by_put here (put_raise m0 et up ends own nc nl dk) = elim (cases_eq a i) [
        | inl e ↦ absurd (omega (arith, own_hop n i m.hop (subst (λ (k : ℕ). IsAt n k i m.hop) e here)))
        | inr ne ↦
            let before : IsAt n a (prev n i) m0.hop =
            at_prev n a i m0.hop la t.li ne (subst (λ (g : ℕ). IsAt n a i g) up.hop here) in
            elim (cases_lt m0.hop h) [
              | inr less ↦ passive_on b lb
                  (inv.clean (prev n i) m0 a b h (lp t) (took t m0 et) (up.clean clean) la before lb two less far)
              | inl last ↦
                  let top : h ≡ m.hop = omega (arith, up.hop) in
                  let same : i ≡ b =
                  one_place n a i b m.hop la t.li lb here (subst (λ (g : ℕ). IsAt n a b g) top far) in
                  subst (λ (k : ℕ). ph' k ≡ Passive) same (elim ends [
                    | inl passive ↦ passive
                    | inr active ↦ (let z : true ≡ false = sym active.1 ∙ clean in absurd cc)
                  ])
            ]
      ]

  -- ---- a message whose pair nothing exceeds is that of a node that has it

  origins' : (j : ℕ) (m : Msg) (x y : ℕ) → j < n → Has (Q' j) m → m.round ≡ x → m.id ≡ y → IsTop n ph' Q' x y
      → HasOrigin n ph' j m x y
  origins' j m x y lj is mr mi top = elim (came t j m lj is) [
    | inl old ↦
        let o = inv.origins j m x y lj old mr mi (lower x y top) in
        record { b = o.b; place = o.place; at = o.at; has = still o.b o.place o.has }
    | inr new ↦ subst (λ (k : ℕ). HasOrigin n ph' k m x y) (sym new.0)
        (by_put (put_is t m new.1))
  ]
    where
      still : (b : ℕ) → b < n → (ph b ≡ Active x y) ⊎ (ph b ≡ Leader x y) → (ph' b ≡ Active x y) ⊎ (ph' b ≡ Leader x y)
      still b lb has = elim (cases_eq b i) [
        | inr ne ↦ elim has [ inl a ↦ inl (t.others b lb ne ∙ a) | inr l ↦ inr (t.others b lb ne ∙ l) ]
        | inl e ↦ elim has [
          | inl a ↦ subst (λ (k : ℕ). (ph' k ≡ Active x y) ⊎ (ph' k ≡ Leader x y)) (sym e)
              (keeps_pair x y top (subst (λ (k : ℕ). ph k ≡ Active x y) e a))
          | inr l ↦ absurd (not_leader n (ph i) (ph' i) t.taken t.put x y t.turn (subst (λ
              (k : ℕ). ph k ≡ Leader x y) e l))
        ]
      ]

      by_put : Put n (ph i) (ph' i) t.taken m → HasOrigin n ph' i m x y
      by_put (put_draw r d ep eq er ed eh cl) = record {
        b = i;
        place = t.li;
        at = subst (λ (g : ℕ). IsAt n i i g) (sym eh) (omega arith, omega arith, inl (omega arith));
        has = inl (eq ∙ ap (λ (u : ℕ). Active u d) (sym er ∙ mr) ∙ ap (λ (u : ℕ). Active x u) (sym ed ∙ mi));
      }
      by_put (put_raise m0 et up ends own nc nl dk) =
          let o = inv.origins (prev n i) m0 x y (lp t) (took t m0 et) (sym up.round ∙ mr) (sym up.id
          ∙ mi) (lower x y top) in
          let ne : o.b ≢ i = λ e. elim o.has [
            | inr l ↦ nl x y (subst (λ (k : ℕ). ph k ≡ Leader x y) e l)
            | inl a ↦ elim (own x y (subst (λ (k : ℕ). ph k ≡ Active x y) e a)) [
              | inl g ↦ no_greater x y (lower x y top) m0 et g
              | inr s ↦ not_home n i m0.hop t.li s.1 (subst (λ (k : ℕ). IsAt n k (prev n i) m0.hop) e o.at)
            ]
          ] in
          record {
            b = o.b;
            place = o.place;
            at = subst (λ (g : ℕ). IsAt n o.b i g) (sym up.hop) (at_next n o.b i m0.hop o.place t.li ne o.at);
            has = still o.b o.place o.has;
          }

  -- ---- and is ahead of all that its node let pass since

  -- what a node that was passed puts behind it
  put_foreign : (a x y j : ℕ) (m : Msg) (behind : List Msg) (h : ℕ) (o : Msg) → a < n → ph a ≡ Active x y
      → IsTop n ph Q x y → IsAhead n ph Q a x y j m behind → IsAt n a i h → h ≤ m.hop → Has t.put o
      → IsForeign n a x y i o
  put_foreign a x y j m behind h o la pa top ahead far low is =
      by_put (put_is t o is)
    where
      later : a ≢ i → 2 ≤ h
      later ne = later_hop n a i h la t.li ne far

      by_put : Put n (ph i) (ph' i) t.taken o → IsForeign n a x y i o
      by_put (put_draw r d ep eq er ed eh cl) = absurd (elim (cases_eq a i) [
        | inl e ↦
            let z : Choosing r ≡ Active x y = sym ep ∙ subst (λ (k : ℕ). ph k ≡ Active x y) e pa in
            (let w : ⊥ = cc in w)
        | inr ne ↦ elim (ahead.passed i h t.li (later ne) low far) [
          | inl p ↦ (let z : Choosing r ≡ Passive = sym ep ∙ p in let w : ⊥ = cc in w)
          | inr p ↦ (let z : Choosing r ≡ Active x y = sym ep ∙ p in let w : ⊥ = cc in w)
        ]
      ])
      by_put (put_raise m0 et up ends own nc nl dk) = elim (cases_eq a i) [
        | inl e ↦ elim (own x y (subst (λ (k : ℕ). ph k ≡ Active x y) e pa)) [
          | inl g ↦ absurd (no_greater x y top m0 et g)
          | inr s ↦ (
            up.round ∙ s.0.0,
            up.id ∙ s.0.1,
            λ at. omega (
              arith,
              own_hop n i o.hop (subst (λ (k : ℕ). IsAt n k i o.hop) e at),
              up.hop,
              some_hop m0 x y et s.0.0 s.0.1 top,
            ),
          )
        ]
        | inr ne ↦
            let two = later ne in
            let before : IsAt n a (prev n i) (h - 1) =
            at_prev n a i (h - 1) la t.li ne (subst (λ (g : ℕ). IsAt n a i g) (omega arith) far) in
            let f : IsForeign n a x y (prev n i) m0 =
            ahead.back (prev n i) (h - 1) m0 (lp t) (omega arith) before (took t m0 et) in (
              up.round ∙ f.0,
              up.id ∙ f.1,
              λ at. f.2 (at_prev n a i m0.hop la t.li ne (subst (λ (g : ℕ). IsAt n a i g) up.hop at)),
            )
      ]

  was_active : (a x y : ℕ) → a < n → ph' a ≡ Active x y → (ph a ≡ Active x y)
      ⊎ ((a ≡ i) × (ph i ≡ Choosing x) × ((m : Msg) → Has t.put m → m.hop ≡ 1))
  was_active a x y la pa = elim (cases_eq a i) [
    | inr ne ↦ inl (sym (t.others a la ne) ∙ pa)
    | inl e ↦ elim (active_of n (ph i) (ph' i) t.taken t.put x y t.turn (subst (λ (k : ℕ). ph' k ≡ Active x y) e pa)) [
      | inl was ↦ inl (subst (λ (k : ℕ). ph k ≡ Active x y) (sym e) was)
      | inr new ↦ inr (e, new.0, new.1)
    ]
  ]

  order' : (a x y j : ℕ) (m : Msg) (front behind : List Msg) → a < n → ph' a ≡ Active x y → IsTop n ph' Q' x y
      → j < n → Q' j ≡ front ++ m ∷ behind → m.round ≡ x → m.id ≡ y → IsAt n a j m.hop
      → IsAhead n ph' Q' a x y j m behind
  order' a x y j m front behind la pa top lj parts mr mi at = elim (was_active a x y la pa) [
    | inr drew ↦ elim (splits t j m front behind lj parts) [
      | inl old ↦
          let o = inv.origins j m x y lj (has_split (Q j) m old.front old.after old.parts) mr mi below in
          let same : o.b ≡ i = one_node n o.b a j m.hop o.place la lj o.at at ∙ drew.0 in
          absurd (elim o.has [
            | inl active ↦
                let z : Choosing x ≡ Active x y =
                sym drew.1 ∙ subst (λ (k : ℕ). ph k ≡ Active x y) same active in
                (let w : ⊥ = cc in w)
            | inr leads ↦
                let z : Choosing x ≡ Leader x y =
                sym drew.1 ∙ subst (λ (k : ℕ). ph k ≡ Leader x y) same leads in
                (let w : ⊥ = cc in w)
          ])
      | inr new ↦
          let one : m.hop ≡ 1 = drew.2 m new.put in
          record {
            passed = λ b h lb two low far. absurd (omega arith);
            back = λ k h o lk low far is. absurd (omega (arith, far.0));
            after = λ o is. absurd (none_of o behind new.none is);
          }
    ]
    | inl was ↦ elim (splits t j m front behind lj parts) [
      | inl old ↦ by_old was old
      | inr new ↦ by_put was new.here new.none (put_is t m new.put)
    ]
  ]
    where
      below : IsTop n ph Q x y
      below = lower x y top

      -- a node that was passed and has the pair keeps it: it doesn't win, since node a isn't passive
      keeps_on : ph a ≡ Active x y → a ≢ i → ph i ≡ Active x y → ph' i ≡ Active x y
      keeps_on was ne active = elim (keeps_pair x y top active) [
        | inl keeps ↦ keeps
        | inr leads ↦
            let w = win_of n (ph i) (ph' i) t.taken t.put x y t.turn leads in
            let h = hop_to n i a t.li la in
            let two : 2 ≤ h.0 = later_hop n i a h.0 t.li la (λ e. ne (sym e)) h.1 in
            let passive : ph a ≡ Passive = inv.clean (prev n i) w.m0 i a h.0 (lp t) (took t w.m0 w.took) w.clean t.li
            (subst (λ (g : ℕ). IsAt n i (prev n i) g) (sym w.hop) (home_at n i t.li)) la two
            (omega (arith, w.hop, h.1.1)) h.1 in
            let z : Passive ≡ Active x y = sym passive ∙ was in
            absurd (let w : ⊥ = cc in w)
      ]

      passed_on : (b : ℕ) → b < n → ph a ≡ Active x y → b ≢ a → (ph b ≡ Passive) ⊎ (ph b ≡ Active x y)
          → (ph' b ≡ Passive) ⊎ (ph' b ≡ Active x y)
      passed_on b lb was nb p = elim (cases_eq b i) [
        | inr ne ↦ elim p [ inl q ↦ inl (t.others b lb ne ∙ q) | inr q ↦ inr (t.others b lb ne ∙ q) ]
        | inl e ↦ elim p [
          | inl q ↦ inl (passive_on b lb q)
          | inr q ↦ inr (subst (λ (k : ℕ). ph' k ≡ Active x y) (sym e)
              (keeps_on was (λ s. nb (e ∙ sym s)) (subst (λ (k : ℕ). ph k ≡ Active x y) e q)))
        ]
      ]

      not_own : (b h : ℕ) → 2 ≤ h → IsAt n a b h → b ≢ a
      not_own b h two far e = omega (arith, own_hop n a h (subst (λ (k : ℕ). IsAt n a k h) e far))

      by_old : ph a ≡ Active x y → Old t j m front behind → IsAhead n ph' Q' a x y j m behind
      by_old was old =
          let ahead = inv.order a x y j m old.front old.after la was below lj old.parts mr mi at in
          record {
            passed = λ b h lb two low far.
                passed_on b lb was (not_own b h two far) (ahead.passed b h lb two low far);
            back = λ k h o lk low far is. elim (came t k o lk is) [
              | inl there ↦ ahead.back k h o lk low far there
              | inr new ↦ subst (λ (k : ℕ). IsForeign n a x y k o) (sym new.0)
                  (put_foreign a x y j m old.after h o la was below ahead
                  (subst (λ (k : ℕ). IsAt n a k h) new.0 far) (omega arith) new.1)
            ];
            after = λ o is. elim (old.follows o is) [
              | inl there ↦ ahead.after o there
              | inr new ↦ subst (λ (k : ℕ). IsForeign n a x y k o) (sym new.0)
                  (put_foreign a x y j m old.after m.hop o la was below ahead
                  (subst (λ (k : ℕ). IsAt n a k m.hop) new.0 at) (omega arith) new.1)
            ];
          }

      by_put : ph a ≡ Active x y → j ≡ i → behind ≡ [] → Put n (ph i) (ph' i) t.taken m
          → IsAhead n ph' Q' a x y j m behind
      by_put was same none (put_draw r d ep eq er ed eh cl) =
          let here : IsAt n a i 1 = subst (λ (k : ℕ). IsAt n a k 1) same (subst (λ (g : ℕ). IsAt n a j g) eh at) in
          let own : a ≡ i = first_hop n a i la t.li here in
          let z : Choosing r ≡ Active x y = sym ep ∙ subst (λ (k : ℕ). ph k ≡ Active x y) own was in
          absurd (let w : ⊥ = cc in w)
      by_put was same none (put_raise m0 et up ends own nc nl dk) =
          let here : IsAt n a i (m0.hop + 1) =
          subst (λ (g : ℕ). IsAt n a i g) up.hop (subst (λ (k : ℕ). IsAt n a k m.hop) same at) in
          let mr0 : m0.round ≡ x = sym up.round ∙ mr in
          let mi0 : m0.id ≡ y = sym up.id ∙ mi in
          let some = some_hop m0 x y et mr0 mi0 below in
          let ne : a ≢ i = λ e.
          omega (arith, own_hop n i (m0.hop + 1) (subst (λ (k : ℕ). IsAt n k i (m0.hop + 1)) e here)) in
          let before : IsAt n a (prev n i) m0.hop = at_prev n a i m0.hop la t.li ne here in
          let ahead = inv.order a x y (prev n i) m0 [] (Q' (prev n i)) la was below (lp t) (first_there t m0 et) mr0 mi0
          before in
          record {
            passed = λ b h lb two low far. elim (cases_lt m0.hop h) [
              | inr less ↦ passed_on b lb was (not_own b h two far) (ahead.passed b h lb two less far)
              | inl last ↦
                  let top : h ≡ m0.hop + 1 = omega (arith, up.hop) in
                  let one : i ≡ b =
                  one_place n a i b (m0.hop + 1) la t.li lb here (subst (λ (g : ℕ). IsAt n a b g) top far) in
                  subst (λ (k : ℕ). (ph' k ≡ Passive) ⊎ (ph' k ≡ Active x y)) one (elim ends [
                    | inl passive ↦ inl passive
                    | inr active ↦ inr (active.0 ∙ ap (λ (u : ℕ). Active u m.id) mr
                        ∙ ap (λ (u : ℕ). Active x u) mi)
                  ])
            ];
            back = λ k h o lk low far is. elim (cases_eq h m0.hop) [
              | inl e ↦
                  let there : prev n i ≡ k = one_place n a (prev n i) k m0.hop la (lp t) lk before
                  (subst (λ (g : ℕ). IsAt n a k g) e far) in
                  subst (λ (k : ℕ). IsForeign n a x y k o) there
                  (ahead.after o (subst (λ (k : ℕ). Has (Q' k) o) (sym there) is))
              | inr less ↦ elim (came t k o lk is) [
                | inl old ↦ ahead.back k h o lk (omega (arith, up.hop)) far old
                | inr new ↦ absurd (omega (
                  arith,
                  up.hop,
                  one_hop n a i h (m0.hop + 1) la t.li (subst (λ (k : ℕ). IsAt n a k h) new.0 far) here,
                ))
              ]
            ];
            after = λ o is. absurd (subst (λ (ks : List Msg). Has ks o) none is);
          }

  -- ---- where a node leads the election is over

  -- of a node that has just won
  won : (x y : ℕ) → ph' i ≡ Leader x y → IsDecided n ph' Q' i
  won x y leads =
      record {
        others = λ b lb ne. t.others b lb ne ∙ passive b lb ne;
        empty = λ k lk. has_none (Q' k) (λ o is. nothing k o lk is);
      }
    where
      w : Win n (ph i) t.taken t.put x y
      w = win_of n (ph i) (ph' i) t.taken t.put x y t.turn leads

      home : IsAt n i (prev n i) w.m0.hop
      home = subst (λ (g : ℕ). IsAt n i (prev n i) g) (sym w.hop) (home_at n i t.li)

      passive : (b : ℕ) → b < n → b ≢ i → ph b ≡ Passive
      passive b lb ne =
          let h = hop_to n i b t.li lb in
          let two : 2 ≤ h.0 = later_hop n i b h.0 t.li lb (λ e. ne (sym e)) h.1 in
          inv.clean (prev n i) w.m0 i b h.0 (lp t) (took t w.m0 w.took) w.clean t.li home lb two (omega
          (arith, w.hop, h.1.1)) h.1

      ranked : (b u v : ℕ) → Ranks n ph b u v → IsAtMost u v x y
      ranked b u v r = elim (cases_eq b i) [
        | inl e ↦
            let is : HasRank (Active x y) u v = subst (λ (p : Phase). HasRank p u v) w.was
            (subst (λ (k : ℕ). HasRank (ph k) u v) e r.rank) in
            at_most_refl u v x y is.0 is.1
        | inr ne ↦ absurd (subst (λ (p : Phase). HasRank p u v) (passive b r.place ne) r.rank)
      ]

      top : IsTop n ph Q x y
      top = record {
        messages = λ k m lk is.
            (let r = base.reached k m lk is in at_most_trans m.round m.id r.1 r.2 x y r.4 (ranked r.0 r.1 r.2 r.3));
        nodes = ranked;
      }

      ahead : IsAhead n ph Q i x y (prev n i) w.m0 (Q' (prev n i))
      ahead = inv.order i x y (prev n i) w.m0 [] (Q' (prev n i)) t.li w.was top (lp t)
          (first_there t w.m0 w.took) w.same.0
          w.same.1 home

      alien : (k : ℕ) (o : Msg) → k < n → Has (Q' k) o → IsForeign n i x y k o
      alien k o lk is = elim (cases_eq k (prev n i)) [
        | inl e ↦ subst (λ (k : ℕ). IsForeign n i x y k o) (sym e)
            (ahead.after o (subst (λ (k : ℕ). Has (Q' k) o) e is))
        | inr far ↦ elim (came t k o lk is) [
          | inr new ↦ absurd (none_of o t.put w.none new.1)
          | inl old ↦
              let h = hop_to n i k t.li lk in
              let less : h.0 < n = elim (cases_lt h.0 n) [
                | inl less ↦ less
                | inr all ↦ absurd (far (one_place n i k (prev n i) n t.li lk (lp t)
                    (subst (λ (g : ℕ). IsAt n i k g) (omega (arith, h.1.1)) h.1) (home_at n i t.li)))
              ] in
              ahead.back k h.0 o lk (omega (arith, w.hop)) h.1 old
        ]
      ]

      nothing : (k : ℕ) (o : Msg) → k < n → Has (Q' k) o → ⊥
      nothing k o lk is =
          let f = alien k o lk is in
          let old : Has (Q k) o = elim (came t k o lk is) [
            | inl old ↦ old
            | inr new ↦ absurd
                (none_of o t.put w.none new.1)
          ] in
          let g = inv.origins k o x y lk old f.0 f.1 top in
          let ne : g.b ≢ i = λ e. f.2 (subst (λ (b : ℕ). IsAt n b k o.hop) e g.at) in
          let p = passive g.b g.place ne in
          elim g.has [
            | inl a ↦ (let z : Passive ≡ Active x y = sym p ∙ a in cc)
            | inr l ↦ (let z : Passive ≡ Leader x y = sym p ∙ l in cc)
          ]

  -- where a node leads no other has a turn
  no_turn : (a x y : ℕ) → a < n → ph a ≡ Leader x y → ⊥
  no_turn a x y la leads =
      let over = inv.ends a x y la leads in
      elim (takes_or_chooses n (ph i) (ph' i) t.taken t.put t.turn) [
        | inl takes ↦ subst (λ (ks : List Msg). Has ks takes.0) (over.empty (prev n i) (lp t)) (took t takes.0 takes.1)
        | inr c ↦ elim (cases_eq i a) [
          | inl e ↦ not_leader n (ph i) (ph' i) t.taken t.put x y t.turn (subst (λ (k : ℕ). ph k ≡ Leader x y)
              (sym e) leads)
          | inr ne ↦ (let z : Choosing c.0 ≡ Passive = sym c.1 ∙ over.others i t.li ne in cc)
        ]
      ]

  pub turn_keeps : IsOrderly n ph' Q'
  turn_keeps = record {
    clean = clean';
    origins = origins';
    order = order';
    ends = λ a x y la leads. elim (cases_eq a i) [
      | inl e ↦ subst (λ (k : ℕ). IsDecided n ph' Q' k) (sym e) (won x y (subst (λ
          (k : ℕ). ph' k ≡ Leader x y) e leads))
      | inr ne ↦ absurd (no_turn a x y la (sym (t.others a la ne) ∙ leads))
    ];
  }

-- what isn't seen keeps it
pub same_orderly : (n : ℕ) (ph ph' : ℕ → Phase) (Q Q' : ℕ → List Msg) → IsUnseen n ph ph' Q Q'
    → ((x y : ℕ) → IsTop n ph' Q' x y → IsTop n ph Q x y) → IsOrderly n ph Q → IsOrderly n ph' Q'
same_orderly n ph ph' Q Q' same lower inv = record {
  clean = λ j m a b h lj is clean la at lb two low far.
      same.phases b lb ∙ inv.clean j m a b h lj (subst (λ (ks : List Msg). Has ks m)
      (same.queues j lj) is) clean la at lb two low far;
  origins = λ j m x y lj is mr mi top.
      (let o = inv.origins j m x y lj (subst (λ (ks : List Msg). Has ks m) (same.queues j lj) is) mr mi
      (lower x y top) in
      record {
        b = o.b;
        place = o.place;
        at = o.at;
        has = elim o.has [ inl a ↦ inl (same.phases o.b o.place ∙ a) | inr l ↦ inr (same.phases o.b o.place ∙ l) ];
      });
  order = λ a x y j m front behind la pa top lj parts mr mi at.
      (let ahead = inv.order a x y j m front behind la (sym (same.phases a la)
      ∙ pa) (lower x y top) lj (sym (same.queues j lj) ∙ parts)
      mr mi at in
      record {
        passed = λ b h lb two low far. elim (ahead.passed b h lb two low far) [
          | inl p ↦ inl (same.phases b lb ∙ p)
          | inr q ↦ inr (same.phases b lb ∙ q)
        ];
        back = λ k h o lk low far is.
            ahead.back k h o lk low far (subst (λ (ks : List Msg). Has ks o) (same.queues k lk) is);
        after = ahead.after;
      });
  ends = λ a x y la leads.
      (let over = inv.ends a x y la (sym (same.phases a la) ∙ leads) in
      record {
        others = λ b lb ne. same.phases b lb ∙ over.others b lb ne;
        empty = λ j lj. same.queues j lj ∙ over.empty j lj;
      });
}
