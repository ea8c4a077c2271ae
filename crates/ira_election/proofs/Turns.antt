-- Turns of nodes in an election: places, messages on queues, and what a node does.
use Rattle.std.proofs.Common.{◌≡◌, ◌≢◌, ℕ, zero, suc, ◌+◌, ◌-◌, ◌<◌, ◌≤◌, ◌⊎◌, inl, inr, true, false, List, [], ◌∷◌}
use Rattle.std.proofs.Common.{◌++◌, refl, sym, ◌∙◌, subst, ap, arith, length, append_assoc, length-append}
use Rattle.std.proofs.lemmas.Bool.{cases_eq, cases_lt}
use Rattle.std.proofs.lemmas.List.{nil_from_length}
use Rattle.ira_event.specs.declared.msg.Msg.{Msg}
use Rattle.ira_node.specs.declared.phase.Phase.{Phase}
use Rattle.ira_node.specs.declared.phase.Phase.TheVariants.{Choosing, Active, Passive, Leader}
use Rattle.ira_node.specs.Msg.{IsGreater, IsLess, IsEqual}
use Rattle.ira_order.specs.Ring.{prev}
use Rattle.ira_order.proofs.Runs.{prev_below}
use Rattle.ira_election.proofs.Election.{IsAt, Has}

-- ---- places

pub prev_other : (n i : ℕ) → 2 ≤ n → i < n → prev n i ≢ i
prev_other n zero two li = λ e. omega arith
prev_other n (suc i) two li = λ e. omega arith

-- with hop n a message on its way to node i is node i's
pub at_home : (n a i : ℕ) → a < n → i < n → IsAt n a (prev n i) n → a ≡ i
at_home n a zero la li at = grind arith
at_home n a (suc i) la li at = grind arith

pub home_at : (n i : ℕ) → i < n → IsAt n i (prev n i) n
home_at n zero li = (omega arith, omega arith, inl (omega arith))
home_at n (suc i) li = (omega arith, omega arith, inr (omega arith))

-- with a lesser hop it isn't
pub not_home : (n i h : ℕ) → i < n → h < n → IsAt n i (prev n i) h → ⊥
not_home n zero h li lt at = grind arith
not_home n (suc i) h li lt at = grind arith

pub at_next : (n a i h : ℕ) → a < n → i < n → a ≢ i → IsAt n a (prev n i) h → IsAt n a i (h + 1)
at_next n a zero h la li ne (one, most, inl p) = (omega arith, omega arith, inr (omega arith))
at_next n a zero h la li ne (one, most, inr p) = absurd (omega arith)
at_next n a (suc i) h la li ne (one, most, inl p) = (omega arith, omega arith, inl (omega arith))
at_next n a (suc i) h la li ne (one, most, inr p) = (omega arith, omega arith, inr (omega arith))

pub at_prev : (n a i h : ℕ) → a < n → i < n → a ≢ i → IsAt n a i (h + 1) → IsAt n a (prev n i) h
at_prev n a zero h la li ne (one, most, inl p) = absurd (omega arith)
at_prev n a zero h la li ne (one, most, inr p) = (omega arith, omega arith, inl (omega arith))
at_prev n a (suc i) h la li ne (one, most, inl p) = (omega arith, omega arith, inl (omega arith))
at_prev n a (suc i) h la li ne (one, most, inr p) = (omega arith, omega arith, inr (omega arith))

-- whose the message is that has come to a place with this hop, where it has come to, and with which hop
pub one_node : (n a b j h : ℕ) → a < n → b < n → j < n → IsAt n a j h → IsAt n b j h → a ≡ b
one_node n a b j h la lb lj at bt = grind arith

pub one_place : (n a j k h : ℕ) → a < n → j < n → k < n → IsAt n a j h → IsAt n a k h → j ≡ k
one_place n a j k h la lj lk at bt = grind arith

pub one_hop : (n a j h g : ℕ) → a < n → j < n → IsAt n a j h → IsAt n a j g → h ≡ g
one_hop n a j h g la lj at bt = grind arith

pub own_hop : (n a h : ℕ) → IsAt n a a h → h ≡ 1
own_hop n a h at = grind arith

-- at its own node a message has its first hop, and at any other a later one
pub first_hop : (n a i : ℕ) → a < n → i < n → IsAt n a i 1 → a ≡ i
first_hop n a i la li at = grind arith

pub later_hop : (n a i h : ℕ) → a < n → i < n → a ≢ i → IsAt n a i h → 2 ≤ h
later_hop n a i h la li ne at = elim (cases_lt 1 h) [
  | inl more ↦ omega arith
  | inr one ↦ absurd (ne (first_hop n a i la li (subst (λ (g : ℕ). IsAt n a i g) (omega (arith, at.0)) at)))
]

-- the hop with which the message of node a comes to place j
pub hop_to : (n a j : ℕ) → a < n → j < n → (h : ℕ) × IsAt n a j h
hop_to n a j la lj = elim (cases_lt j a) [
  | inl before ↦ (j + 1 + n - a, (omega arith, omega arith, inr (omega arith)))
  | inr past ↦ (j + 1 - a, (omega arith, omega arith, inl (omega arith)))
]

-- ---- lists of messages

pub has_split : (ks : List Msg) (m : Msg) (front behind : List Msg) → ks ≡ front ++ m ∷ behind → Has ks m
has_split ks m [] behind e = subst (λ (xs : List Msg). Has xs m) (sym e) (inl refl)
has_split ks m (k ∷ front) behind e =
    subst (λ (xs : List Msg). Has xs m) (sym e) (inr (has_split (front ++ m ∷ behind) m front behind refl))

pub split_of : (ks : List Msg) (m : Msg) → Has ks m
    → (front : List Msg) × (behind : List Msg) × (ks ≡ front ++ m ∷ behind)
split_of [] m h = absurd h
split_of (k ∷ ks) m (inl e) = ([], ks, ap (λ (x : Msg). x ∷ ks) (sym e))
split_of (k ∷ ks) m (inr h) =
    let s = split_of ks m h in
    (k ∷ s.0, s.1, ap (λ (xs : List Msg). k ∷ xs) s.2)

pub has_more : (ks ls : List Msg) (m : Msg) → Has (ks ++ ls) m → Has ks m ⊎ Has ls m
has_more [] ls m h = inr h
has_more (k ∷ ks) ls m (inl e) = inl (inl e)
has_more (k ∷ ks) ls m (inr h) = elim (has_more ks ls m h) [ inl b ↦ inl (inr b) | inr l ↦ inr l ]

pub has_front : (ks ls : List Msg) (m : Msg) → Has ks m → Has (ks ++ ls) m
has_front [] ls m h = absurd h
has_front (k ∷ ks) ls m (inl e) = inl e
has_front (k ∷ ks) ls m (inr h) = inr (has_front ks ls m h)

pub has_behind : (ks ls : List Msg) (m : Msg) → Has ls m → Has (ks ++ ls) m
has_behind [] ls m h = h
has_behind (k ∷ ks) ls m h = inr (has_behind ks ls m h)

pub has_none : (ks : List Msg) → ((m : Msg) → Has ks m → ⊥) → ks ≡ []
has_none [] none = refl
has_none (k ∷ ks) none = absurd (none k (inl refl))

pub one_of : (m k : Msg) (ks : List Msg) → ks ≡ m ∷ [] → Has ks k → k ≡ m
one_of m k ks e h = elim (subst (λ (xs : List Msg). Has xs k) e h) [ inl same ↦ same | inr none ↦ absurd none ]

pub none_of : (k : Msg) (ks : List Msg) → ks ≡ [] → Has ks k → ⊥
none_of k ks e h = subst (λ (xs : List Msg). Has xs k) e h

-- a member of one list, or of the other, with what follows it
pub record SplitAt (ks ls front : List Msg) (m : Msg) (behind : List Msg) : Type 0 where
  pub rest : List Msg
  pub parts : ks ≡ front ++ m ∷ rest
  pub behind_is : behind ≡ rest ++ ls

pub split_more : (ks ls front : List Msg) (m : Msg) (behind : List Msg) → ks ++ ls ≡ front ++ m ∷ behind
    → SplitAt ks ls front m behind ⊎ ((f : List Msg) × (ls ≡ f ++ m ∷ behind))
split_more [] ls front m behind e = inr (front, e)
split_more (k ∷ ks) ls [] m behind e =
    let head : k ≡ m = cc in
    let tail : ks ++ ls ≡ behind = cc in
    inl (record { rest = ks; parts = ap (λ (x : Msg). x ∷ ks) head; behind_is = sym tail })
split_more (k ∷ ks) ls (f ∷ front) m behind e =
    let head : k ≡ f = cc in
    let tail : ks ++ ls ≡ front ++ m ∷ behind = cc in
    elim (split_more ks ls front m behind tail) [
      | inl s ↦ inl (record {
        rest = s.rest;
        parts = ap (λ (x : Msg). x ∷ ks) head ∙ ap (λ (xs : List Msg). f ∷ xs) s.parts;
        behind_is = s.behind_is;
      })
      | inr r ↦ inr r
    ]

-- what stands before the last one was there
before_last : (ks ls front : List Msg) (m : Msg) (behind f : List Msg) → ks ++ ls ≡ front ++ m ∷ behind
    → ls ≡ f ++ m ∷ behind → length ls ≤ 1 → (o : Msg) → Has front o → Has ks o
before_last ks ls [] m behind f e el few o h = absurd h
before_last [] ls (x ∷ front) m behind f e el few o h = absurd (omega (
  arith,
  ap length e,
  length-append front (m ∷ behind),
))
before_last (k ∷ ks) ls (x ∷ front) m behind f e el few o (inl same) = (let head : k ≡ x = cc in inl (same ∙ sym head))
before_last (k ∷ ks) ls (x ∷ front) m behind f e el few o (inr h) =
    let tail : ks ++ ls ≡ front ++ m ∷ behind = cc in
    inr (before_last ks ls front m behind f tail el few o h)

-- ---- turns

-- m1 is m0 one link further on, and clean only where m0 is
pub record IsRaised (m0 m1 : Msg) : Type 0 where
  pub round : m1.round ≡ m0.round
  pub id : m1.id ≡ m0.id
  pub hop : m1.hop ≡ m0.hop + 1
  pub clean : m1.dirty ≡ false → m0.dirty ≡ false

-- what a node in phase p does that is in phase q then: what it receives, and what it comes to owe
pub data Turn (n : ℕ) (p q : Phase) (taken put : List Msg) : Type 0 where
  turn_draw : (r d : ℕ) (m1 : Msg) → p ≡ Choosing r → q ≡ Active r d → taken ≡ [] → put ≡ m1 ∷ [] → m1.round ≡ r
      → m1.id ≡ d → m1.hop ≡ 1 → m1.dirty ≡ false → Turn n p q taken put
  turn_pass : (m0 m1 : Msg) → p ≡ Passive → q ≡ Passive → taken ≡ m0 ∷ [] → put ≡ m1 ∷ [] → IsRaised m0 m1
      → (m1.dirty ≡ true → m0.dirty ≡ true) → Turn n p q taken put
  turn_give : (r d : ℕ) (m0 m1 : Msg) → p ≡ Active r d → q ≡ Passive → IsGreater m0 r d → taken ≡ m0 ∷ []
      → put ≡ m1 ∷ [] → IsRaised m0 m1 → (m1.dirty ≡ true → m0.dirty ≡ true) → Turn n p q taken put
  turn_meet : (r d : ℕ) (m0 m1 : Msg) → p ≡ Active r d → q ≡ Active r d → IsEqual m0 r d → m0.hop < n → taken ≡ m0 ∷ []
      → put ≡ m1 ∷ [] → IsRaised m0 m1 → m1.dirty ≡ true → Turn n p q taken put
  turn_purge : (r d : ℕ) (m0 : Msg) → p ≡ Active r d → q ≡ Active r d → IsLess m0 r d → taken ≡ m0 ∷ [] → put ≡ []
      → Turn n p q taken put
  turn_tie : (r d : ℕ) (m0 : Msg) → p ≡ Active r d → q ≡ Choosing (r + 1) → IsEqual m0 r d → m0.hop ≡ n
      → m0.dirty ≡ true → taken ≡ m0 ∷ [] → put ≡ [] → Turn n p q taken put
  turn_win : (r d : ℕ) (m0 : Msg) → p ≡ Active r d → q ≡ Leader r d → IsEqual m0 r d → m0.hop ≡ n → m0.dirty ≡ false
      → taken ≡ m0 ∷ [] → put ≡ [] → Turn n p q taken put

-- node i takes these from the queue that leads to it, and puts these on its own
pub record Moves {X : Type 0} (n i : ℕ) (Q Q' : ℕ → List X) (taken put : List X) : Type 0 where
  pub gets : Q (prev n i) ≡ taken ++ Q' (prev n i)
  pub puts : Q' i ≡ Q i ++ put
  pub rest : (j : ℕ) → j < n → j ≢ i → j ≢ prev n i → Q' j ≡ Q j

-- node i has a turn in an election of two nodes at least
pub record HasTurn (n i : ℕ) (ph ph' : ℕ → Phase) (Q Q' : ℕ → List Msg) : Type 0 where
  pub two : 2 ≤ n
  pub li : i < n
  pub taken : List Msg
  pub put : List Msg
  pub turn : Turn n (ph i) (ph' i) taken put
  pub others : (j : ℕ) → j < n → j ≢ i → ph' j ≡ ph j
  pub moves : Moves n i Q Q' taken put

-- nothing of a step is seen in an election
pub record IsUnseen (n : ℕ) (ph ph' : ℕ → Phase) (Q Q' : ℕ → List Msg) : Type 0 where
  pub phases : (j : ℕ) → j < n → ph' j ≡ ph j
  pub queues : (j : ℕ) → j < n → Q' j ≡ Q j

-- a message that is put is drawn, or was taken one hop before
pub data Put (n : ℕ) (p q : Phase) (taken : List Msg) (m1 : Msg) : Type 0 where
  put_draw : (r d : ℕ) → p ≡ Choosing r → q ≡ Active r d → m1.round ≡ r → m1.id ≡ d → m1.hop ≡ 1
      → m1.dirty ≡ false → Put n p q taken m1
  put_raise : (m0 : Msg) → taken ≡ m0 ∷ [] → IsRaised m0 m1
      → ((q ≡ Passive) ⊎ ((q ≡ Active m1.round m1.id) × (m1.dirty ≡ true)))
      → ((x y : ℕ) → p ≡ Active x y → IsGreater m0 x y ⊎ (IsEqual m0 x y × (m0.hop < n)))
      → ((r : ℕ) → p ≡ Choosing r → ⊥) → ((x y : ℕ) → p ≡ Leader x y → ⊥)
      → (m1.dirty ≡ true → (m0.dirty ≡ true) ⊎ (q ≡ Active m1.round m1.id)) → Put n p q taken m1

pub put_of : (n : ℕ) (p q : Phase) (taken put : List Msg) (k : Msg) → Turn n p q taken put → Has put k
    → Put n p q taken k
put_of n p q taken put k (turn_draw r d m1 ep eq et eo er ed eh cl) h =
    let same = one_of m1 k put eo h in
    put_draw r d ep eq (ap (λ (x : Msg). x.round) same ∙ er) (ap (λ (x : Msg). x.id) same ∙ ed)
    (ap (λ (x : Msg). x.hop) same ∙ eh) (ap (λ (x : Msg). x.dirty) same ∙ cl)
put_of n p q taken put k (turn_pass m0 m1 ep eq et eo up dk) h =
    let same = one_of m1 k put eo h in
    put_raise m0 et (subst (λ (x : Msg). IsRaised m0 x) (sym same) up) (inl eq)
    (λ x y e. (let z = sym ep ∙ e in cc)) (λ r e. (let z = sym ep ∙ e in cc)) (λ x y e. (let z = sym ep ∙ e in cc))
    (λ e. inl (dk (sym (ap (λ (x : Msg). x.dirty) same) ∙ e)))
put_of n p q taken put k (turn_give r d m0 m1 ep eq g et eo up dk) h =
    let same = one_of m1 k put eo h in
    put_raise m0 et (subst (λ (x : Msg). IsRaised m0 x) (sym same) up) (inl eq)
    (λ x y e.
    (let z : Active r d ≡ Active x y = sym ep ∙ e in
    let rx : r ≡ x = cc in
    let dy : d ≡ y = cc in
    inl (subst (λ (u : ℕ). IsGreater m0 u y) rx (subst (λ (u : ℕ). IsGreater m0 r u) dy g))))
    (λ r e. (let z = sym ep ∙ e in cc)) (λ x y e. (let z = sym ep ∙ e in cc))
    (λ e. inl (dk (sym (ap (λ (x : Msg). x.dirty) same) ∙ e)))
put_of n p q taken put k (turn_meet r d m0 m1 ep eq g short et eo up dirt) h =
    let same = one_of m1 k put eo h in
    let a : m1.round ≡ r = up.round ∙ g.0 in
    let b : m1.id ≡ d = up.id ∙ g.1 in
    let now : q ≡ Active k.round k.id = eq ∙ ap (λ (u : ℕ). Active u d) (sym (ap (λ (x : Msg). x.round) same ∙ a))
    ∙ ap (λ (u : ℕ). Active k.round u) (sym (ap (λ (x : Msg). x.id) same ∙ b)) in
    put_raise m0 et (subst (λ (x : Msg). IsRaised m0 x) (sym same) up)
    (inr (
      now,
      ap (λ (x : Msg). x.dirty) same ∙ dirt,
    ))
    (λ x y e.
    (let z : Active r d ≡ Active x y = sym ep ∙ e in
    let rx : r ≡ x = cc in
    let dy : d ≡ y = cc in
    inr ((g.0 ∙ rx, g.1 ∙ dy), short)))
    (λ r e. (let z = sym ep ∙ e in cc)) (λ x y e. (let z = sym ep ∙ e in cc))
    (λ e. inr now)
put_of n p q taken put k (turn_purge r d m0 ep eq g et eo) h = absurd (none_of k put eo h)
put_of n p q taken put k (turn_tie r d m0 ep eq g whole dy et eo) h = absurd (none_of k put eo h)
put_of n p q taken put k (turn_win r d m0 ep eq g hop c et eo) h = absurd (none_of k put eo h)

pub few : (n : ℕ) (p q : Phase) (taken put : List Msg) → Turn n p q taken put → length put ≤ 1
few n p q taken put (turn_draw r d m1 ep eq et eo er ed eh cl) = omega (arith, ap length eo)
few n p q taken put (turn_pass m0 m1 ep eq et eo up dk) = omega (arith, ap length eo)
few n p q taken put (turn_give r d m0 m1 ep eq g et eo up dk) = omega (arith, ap length eo)
few n p q taken put (turn_meet r d m0 m1 ep eq g short et eo up dirt) = omega (arith, ap length eo)
few n p q taken put (turn_purge r d m0 ep eq g et eo) = omega (arith, ap length eo)
few n p q taken put (turn_tie r d m0 ep eq g whole dy et eo) = omega (arith, ap length eo)
few n p q taken put (turn_win r d m0 ep eq g hop c et eo) = omega (arith, ap length eo)

-- no leader has a turn
pub not_leader : (n : ℕ) (p q : Phase) (taken put : List Msg) (x y : ℕ) → Turn n p q taken put → p ≡ Leader x y → ⊥
not_leader n p q taken put x y (turn_draw r d m1 ep eq et eo er ed eh cl) e = (let z = sym ep ∙ e in cc)
not_leader n p q taken put x y (turn_pass m0 m1 ep eq et eo up dk) e = (let z = sym ep ∙ e in cc)
not_leader n p q taken put x y (turn_give r d m0 m1 ep eq g et eo up dk) e = (let z = sym ep ∙ e in cc)
not_leader n p q taken put x y (turn_meet r d m0 m1 ep eq g short et eo up dirt) e = (let z = sym ep ∙ e in cc)
not_leader n p q taken put x y (turn_purge r d m0 ep eq g et eo) e = (let z = sym ep ∙ e in cc)
not_leader n p q taken put x y (turn_tie r d m0 ep eq g whole dy et eo) e = (let z = sym ep ∙ e in cc)
not_leader n p q taken put x y (turn_win r d m0 ep eq g hop c et eo) e = (let z = sym ep ∙ e in cc)

-- who is passive stays so
pub stays_passive : (n : ℕ) (p q : Phase) (taken put : List Msg) → Turn n p q taken put → p ≡ Passive → q ≡ Passive
stays_passive n p q taken put (turn_draw r d m1 ep eq et eo er ed eh cl) e = (let z = sym ep ∙ e in cc)
stays_passive n p q taken put (turn_pass m0 m1 ep eq et eo up dk) e = eq
stays_passive n p q taken put (turn_give r d m0 m1 ep eq g et eo up dk) e = eq
stays_passive n p q taken put (turn_meet r d m0 m1 ep eq g short et eo up dirt) e = (let z = sym ep ∙ e in cc)
stays_passive n p q taken put (turn_purge r d m0 ep eq g et eo) e = (let z = sym ep ∙ e in cc)
stays_passive n p q taken put (turn_tie r d m0 ep eq g whole dy et eo) e = (let z = sym ep ∙ e in cc)
stays_passive n p q taken put (turn_win r d m0 ep eq g hop c et eo) e = (let z = sym ep ∙ e in cc)

-- who chooses takes nothing, and who takes something doesn't choose
pub takes_or_chooses : (n : ℕ) (p q : Phase) (taken put : List Msg) → Turn n p q taken put
    → ((m0 : Msg) × (taken ≡ m0 ∷ [])) ⊎ ((r : ℕ) × (p ≡ Choosing r))
takes_or_chooses n p q taken put (turn_draw r d m1 ep eq et eo er ed eh cl) = inr (r, ep)
takes_or_chooses n p q taken put (turn_pass m0 m1 ep eq et eo up dk) = inl (m0, et)
takes_or_chooses n p q taken put (turn_give r d m0 m1 ep eq g et eo up dk) = inl (m0, et)
takes_or_chooses n p q taken put (turn_meet r d m0 m1 ep eq g short et eo up dirt) = inl (m0, et)
takes_or_chooses n p q taken put (turn_purge r d m0 ep eq g et eo) = inl (m0, et)
takes_or_chooses n p q taken put (turn_tie r d m0 ep eq g whole dy et eo) = inl (m0, et)
takes_or_chooses n p q taken put (turn_win r d m0 ep eq g hop c et eo) = inl (m0, et)

-- how a node came to lead
pub record Win (n : ℕ) (p : Phase) (taken put : List Msg) (x y : ℕ) : Type 0 where
  pub m0 : Msg
  pub was : p ≡ Active x y
  pub same : IsEqual m0 x y
  pub hop : m0.hop ≡ n
  pub clean : m0.dirty ≡ false
  pub took : taken ≡ m0 ∷ []
  pub none : put ≡ []

pub win_of : (n : ℕ) (p q : Phase) (taken put : List Msg) (x y : ℕ) → Turn n p q taken put → q ≡ Leader x y
    → Win n p taken put x y
win_of n p q taken put x y (turn_draw r d m1 ep eq et eo er ed eh cl) e = (let z = sym eq ∙ e in absurd cc)
win_of n p q taken put x y (turn_pass m0 m1 ep eq et eo up dk) e = (let z = sym eq ∙ e in absurd cc)
win_of n p q taken put x y (turn_give r d m0 m1 ep eq g et eo up dk) e = (let z = sym eq ∙ e in absurd cc)
win_of n p q taken put x y (turn_meet r d m0 m1 ep eq g short et eo up dirt) e = (let z = sym eq ∙ e in absurd cc)
win_of n p q taken put x y (turn_purge r d m0 ep eq g et eo) e = (let z = sym eq ∙ e in absurd cc)
win_of n p q taken put x y (turn_tie r d m0 ep eq g whole dy et eo) e = (let z = sym eq ∙ e in absurd cc)
win_of n p q taken put x y (turn_win r d m0 ep eq g hop c et eo) e =
    let z : Leader r d ≡ Leader x y = sym eq ∙ e in
    let rx : r ≡ x = cc in
    let dy : d ≡ y = cc in
    record {
      m0 = m0;
      was = ep ∙ ap (λ (u : ℕ). Active u d) rx ∙ ap (λ (u : ℕ). Active x u) dy;
      same = (g.0 ∙ rx, g.1 ∙ dy);
      hop = hop;
      clean = c;
      took = et;
      none = eo;
    }

-- a node that is active now was so, or has drawn
pub active_of : (n : ℕ) (p q : Phase) (taken put : List Msg) (x y : ℕ) → Turn n p q taken put → q ≡ Active x y
    → (p ≡ Active x y) ⊎ ((p ≡ Choosing x) × ((m : Msg) → Has put m → m.hop ≡ 1))
active_of n p q taken put x y (turn_draw r d m1 ep eq et eo er ed eh cl) e =
    let z : Active r d ≡ Active x y = sym eq ∙ e in
    let rx : r ≡ x = cc in
    inr (ep ∙ ap Choosing rx, λ m h. ap (λ (k : Msg). k.hop) (one_of m1 m put eo h) ∙ eh)
active_of n p q taken put x y (turn_pass m0 m1 ep eq et eo up dk) e = (let z = sym eq ∙ e in absurd cc)
active_of n p q taken put x y (turn_give r d m0 m1 ep eq g et eo up dk) e = (let z = sym eq ∙ e in absurd cc)
active_of n p q taken put x y (turn_meet r d m0 m1 ep eq g short et eo up dirt) e = inl (ep ∙ sym eq ∙ e)
active_of n p q taken put x y (turn_purge r d m0 ep eq g et eo) e = inl (ep ∙ sym eq ∙ e)
active_of n p q taken put x y (turn_tie r d m0 ep eq g whole dy et eo) e = (let z = sym eq ∙ e in absurd cc)
active_of n p q taken put x y (turn_win r d m0 ep eq g hop c et eo) e = (let z = sym eq ∙ e in absurd cc)

-- what a node with this pair comes to: it keeps it, or leads with it, where it receives no greater one, and isn't in
-- a later
-- round then
pub next_of : (n : ℕ) (p q : Phase) (taken put : List Msg) (x y : ℕ) → Turn n p q taken put → p ≡ Active x y
    → ((m0 : Msg) → taken ≡ m0 ∷ [] → IsGreater m0 x y → ⊥) → (q ≡ Choosing (x + 1) → ⊥)
    → (q ≡ Active x y) ⊎ (q ≡ Leader x y)
next_of n p q taken put x y (turn_draw r d m1 ep eq et eo er ed eh cl) e no_more no_next = (let z = sym ep
    ∙ e in absurd cc)
next_of n p q taken put x y (turn_pass m0 m1 ep eq et eo up dk) e no_more no_next = (let z = sym ep ∙ e in absurd cc)
next_of n p q taken put x y (turn_give r d m0 m1 ep eq g et eo up dk) e no_more no_next =
    let z : Active r d ≡ Active x y = sym ep ∙ e in
    let rx : r ≡ x = cc in
    let dy : d ≡ y = cc in
    absurd (no_more m0 et (subst (λ (u : ℕ). IsGreater m0 u y) rx (subst (λ (u : ℕ). IsGreater m0 r u) dy g)))
next_of n p q taken put x y (turn_meet r d m0 m1 ep eq g short et eo up dirt) e no_more no_next = inl (eq ∙ sym ep ∙ e)
next_of n p q taken put x y (turn_purge r d m0 ep eq g et eo) e no_more no_next = inl (eq ∙ sym ep ∙ e)
next_of n p q taken put x y (turn_tie r d m0 ep eq g whole dy et eo) e no_more no_next =
    let z : Active r d ≡ Active x y = sym ep ∙ e in
    let rx : r ≡ x = cc in
    absurd (no_next (eq ∙ ap (λ (u : ℕ). Choosing (u + 1)) rx))
next_of n p q taken put x y (turn_win r d m0 ep eq g hop c et eo) e no_more no_next =
    let z : Active r d ≡ Active x y = sym ep ∙ e in
    let rx : r ≡ x = cc in
    let dy : d ≡ y = cc in
    inr (eq ∙ ap (λ (u : ℕ). Leader u d) rx ∙ ap (λ (u : ℕ). Leader x u) dy)

-- ---- what a turn changes

module _ {n i : ℕ} {ph ph' : ℕ → Phase} {Q Q' : ℕ → List Msg} (t : HasTurn n i ph ph' Q Q') where
  pub lp : prev n i < n
  lp = prev_below n i t.li

  -- the messages that come, and those that go
  pub came : (j : ℕ) (m : Msg) → j < n → Has (Q' j) m → Has (Q j) m ⊎ ((j ≡ i) × Has t.put m)
  came j m lj h = elim (cases_eq j i) [
    | inl e ↦
        let here : Has (Q i ++ t.put) m =
        subst (λ (ks : List Msg). Has ks m) t.moves.puts (subst (λ (k : ℕ). Has (Q' k) m) e h) in
        elim (has_more (Q i) t.put m here) [
          | inl b ↦ inl (subst (λ (k : ℕ). Has (Q k) m) (sym e) b)
          | inr p ↦ inr (e, p)
        ]
    | inr ne ↦ elim (cases_eq j (prev n i)) [
      | inl e ↦ inl (subst (λ (k : ℕ). Has (Q k) m) (sym e) (subst (λ (ks : List Msg). Has ks m) (sym t.moves.gets)
          (has_behind t.taken (Q' (prev n i)) m (subst (λ (k : ℕ). Has (Q' k) m) e h))))
      | inr far ↦ inl (subst (λ (ks : List Msg). Has ks m) (t.moves.rest j lj ne far) h)
    ]
  ]

  pub lost : (j : ℕ) (m : Msg) → j < n → Has (Q j) m → Has (Q' j) m ⊎ ((j ≡ prev n i) × Has t.taken m)
  lost j m lj h = elim (cases_eq j (prev n i)) [
    | inl e ↦
        let here : Has (t.taken ++ Q' (prev n i)) m =
        subst (λ (ks : List Msg). Has ks m) t.moves.gets (subst (λ (k : ℕ). Has (Q k) m) e h) in
        elim (has_more t.taken (Q' (prev n i)) m here) [
          | inl gone ↦ inr (e, gone)
          | inr b ↦ inl (subst (λ (k : ℕ). Has (Q' k) m) (sym e) b)
        ]
    | inr far ↦ elim (cases_eq j i) [
      | inl e ↦ inl (subst (λ (k : ℕ). Has (Q' k) m) (sym e) (subst (λ (ks : List Msg). Has ks m) (sym t.moves.puts)
          (has_front (Q i) t.put m (subst (λ (k : ℕ). Has (Q k) m) e h))))
      | inr ne ↦ inl (subst (λ (ks : List Msg). Has ks m) (sym (t.moves.rest j lj ne far)) h)
    ]
  ]

  pub first_there : (m0 : Msg) → t.taken ≡ m0 ∷ [] → Q (prev n i) ≡ [] ++ m0 ∷ Q' (prev n i)
  first_there m0 et = t.moves.gets ∙ ap (λ (ts : List Msg). ts ++ Q' (prev n i)) et

  pub took : (m0 : Msg) → t.taken ≡ m0 ∷ [] → Has (Q (prev n i)) m0
  took m0 et = has_split (Q (prev n i)) m0 [] (Q' (prev n i)) (first_there m0 et)

  pub made : (m1 : Msg) → t.put ≡ m1 ∷ [] → Has (Q' i) m1
  made m1 eo = has_split (Q' i) m1 (Q i) [] (t.moves.puts ∙ ap (λ (ks : List Msg). Q i ++ ks) eo)

  pub put_is : (m : Msg) → Has t.put m → Put n (ph i) (ph' i) t.taken m
  put_is m h = put_of n (ph i) (ph' i) t.taken t.put m t.turn h

  -- a message that was there, with what was before it and behind it
  pub record Old (j : ℕ) (m : Msg) (before behind : List Msg) : Type 0 where
    pub front : List Msg
    pub after : List Msg
    pub parts : Q j ≡ front ++ m ∷ after
    pub ahead : (o : Msg) → Has before o → Has front o
    pub follows : (o : Msg) → Has behind o → Has after o ⊎ ((j ≡ i) × Has t.put o)
    pub first : (m0 : Msg) → t.taken ≡ m0 ∷ [] → j ≡ prev n i → Has front m0

  -- one that is put, behind all that was there
  pub record New (j : ℕ) (m : Msg) (before behind : List Msg) : Type 0 where
    pub here : j ≡ i
    pub put : Has t.put m
    pub none : behind ≡ []
    pub ahead : (o : Msg) → Has before o → Has (Q i) o

  pub splits : (j : ℕ) (m : Msg) (front behind : List Msg) → j < n → Q' j ≡ front ++ m ∷ behind → Old j m front behind
      ⊎ New j m front behind
  splits j m front behind lj e = elim (cases_eq j i) [
    | inl same ↦
        let here : Q i ++ t.put ≡ front ++ m ∷ behind =
        sym t.moves.puts ∙ subst (λ (k : ℕ). Q' k ≡ front ++ m ∷ behind) same e in
        let one = few n (ph i) (ph' i) t.taken t.put t.turn in
        elim (split_more (Q i) t.put front m behind here) [
          | inl s ↦ inl (record {
            front = front;
            after = s.rest;
            parts = subst (λ (k : ℕ). Q k ≡ front ++ m ∷ s.rest) (sym same) s.parts;
            ahead = λ o h. h;
            follows = λ o h.
                elim (has_more s.rest t.put o (subst (λ (ks : List Msg). Has ks o) s.behind_is h)) [
                  | inl b ↦ inl b
                  | inr p ↦ inr (same, p)
                ];
            first = λ m0 et at. absurd (prev_other n i t.two t.li (sym at ∙ same));
          })
          | inr f ↦ inr (record {
            here = same;
            put = has_split t.put m f.0 behind f.1;
            none = nil_from_length behind (omega (arith, one, ap length f.1, length-append f.0 (m ∷ behind)));
            ahead = before_last (Q i) t.put front m behind f.0 here f.1 one;
          })
        ]
    | inr ne ↦ elim (cases_eq j (prev n i)) [
      | inl e' ↦
          let there : Q' (prev n i) ≡ front ++ m ∷ behind = subst (λ (k : ℕ). Q' k ≡ front ++ m ∷ behind) e' e in
          let old : Q (prev n i) ≡ (t.taken ++ front) ++ m ∷ behind =
          t.moves.gets ∙ ap (λ (ks : List Msg). t.taken ++ ks) there ∙ sym (append_assoc t.taken front (m ∷ behind)) in
          inl (record {
            front = t.taken ++ front;
            after = behind;
            parts = subst (λ (k : ℕ). Q k ≡ (t.taken ++ front) ++ m ∷ behind) (sym e') old;
            ahead = λ o h. has_behind t.taken front o h;
            follows = λ o h. inl h;
            first = λ m0 et at. subst (λ (ts : List Msg). Has (ts ++ front) m0) (sym et) (inl refl);
          })
      | inr far ↦ inl (record {
        front = front;
        after = behind;
        parts = sym (t.moves.rest j lj ne far) ∙ e;
        ahead = λ o h. h;
        follows = λ o h. inl h;
        first = λ m0 et at. absurd (far at);
      })
    ]
  ]
