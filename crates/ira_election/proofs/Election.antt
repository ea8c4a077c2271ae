-- The election of one term as a configuration of a ring has it, and what each of its steps keeps.
use Rattle.std.proofs.Common.{◌≡◌, ◌≢◌, ℕ, ◌+◌, ◌<◌, ◌≤◌, ◌⊎◌, ◌==◌, cond, false, List, [], ◌∷◌, ◌++◌, Option, Some}
use Rattle.std.proofs.Common.{None}
use Rattle.std.specs.Prelude.{nat_lt, if◌then◌else◌}
use Rattle.ira_event.specs.declared.load.Load.{Load}
use Rattle.ira_event.specs.declared.load.Load.TheVariants.{Msg as Message, Reset}
use Rattle.ira_event.specs.declared.msg.Msg.{Msg}
use Rattle.ira_node.specs.declared.node_state.NodeState.{NodeState}
use Rattle.ira_node.specs.declared.phase.Phase.{Phase}
use Rattle.ira_node.specs.declared.phase.Phase.TheVariants.{Choosing, Active, Passive, Leader, Yielding}
use Rattle.ira_order.specs.Ring.{next}
use Rattle.ira_order.specs.Run.{Configuration}
use Rattle.ira_safety.proofs.Steps.{resets, yielding, IsStill as IsStillIn}

-- ---- what is on its way

-- what a node owes, as a list
abbrev pub debt : Option Load → List Load
debt None = []
debt (Some l) = l ∷ []

-- what is on its way from node j to the next one: its link, what comes first first, and then what it owes
abbrev pub queue : Configuration → ℕ → List Load
queue c j = c.link j ++ debt (c.state j).owed

-- the messages of the term on a queue, in their order, of which the first load comes to its receiver in term t: with
-- each
-- reset that it receives its term rises
abbrev pub of_term : ℕ → ℕ → List Load → List Msg
of_term term t [] = []
of_term term t (Message k ∷ ls) = cond (t == term) (k ∷ of_term term t ls) (of_term term t ls)
of_term term t (Reset h ∷ ls) = of_term term (t + 1) ls

-- those on their way from node j to the next one
abbrev pub messages_of : ℕ → ℕ → Configuration → ℕ → List Msg
messages_of n term c j = of_term term (c.state (next n j)).term (queue c j)

-- the message is one of the list
abbrev pub Has : List Msg → Msg → Type 0
Has [] m = ⊥
Has (k ∷ ks) m = (m ≡ k) ⊎ Has ks m

-- a node's phase in the election of the term, which it chooses in first where it has yet to come to it
abbrev pub phase_in : ℕ → NodeState → Phase
phase_in term s = if nat_lt s.term term then Choosing 1 else s.phase

abbrev pub phases_of : ℕ → Configuration → ℕ → Phase
phases_of term c j = phase_in term (c.state j)

-- after so many hops the message of node a is on its way from node i
abbrev pub IsAt : ℕ → ℕ → ℕ → ℕ → Type 0
IsAt n a i hop = (1 ≤ hop) × (hop ≤ n) × ((a + hop ≡ i + 1) ⊎ (a + hop ≡ i + 1 + n))

-- ---- ranks

-- a pair (round, ID) is at most another, rounds first
abbrev pub IsAtMost : ℕ → ℕ → ℕ → ℕ → Type 0
IsAtMost r d x y = (r < x) ⊎ ((r ≡ x) × (d ≤ y))

-- and is under it
abbrev pub IsUnder : ℕ → ℕ → ℕ → ℕ → Type 0
IsUnder r d x y = (r < x) ⊎ ((r ≡ x) × (d < y))

-- the rank of a phase: of an active node and of a leader its pair, of a node that chooses its round with 0
abbrev pub HasRank : Phase → ℕ → ℕ → Type 0
HasRank (Choosing r) x y = (x ≡ r) × (y ≡ 0)
HasRank (Active r d) x y = (x ≡ r) × (y ≡ d)
HasRank (Leader r d) x y = (x ≡ r) × (y ≡ d)
HasRank Passive x y = ⊥
HasRank Yielding x y = ⊥

-- node j, of n nodes with these phases, has the rank
pub record Ranks (n : ℕ) (ph : ℕ → Phase) (j x y : ℕ) : Type 0 where
  pub place : j < n
  pub rank : HasRank (ph j) x y

-- some node has at least this rank
abbrev pub IsReached : ℕ → (ℕ → Phase) → ℕ → ℕ → Type 0
IsReached n ph r d = (j : ℕ) × (x : ℕ) × (y : ℕ) × Ranks n ph j x y × IsAtMost r d x y

-- nothing exceeds the pair: no message on its way, and no node
pub record IsTop (n : ℕ) (ph : ℕ → Phase) (Q : ℕ → List Msg) (x y : ℕ) : Type 0 where
  pub messages : (i : ℕ) (m : Msg) → i < n → Has (Q i) m → IsAtMost m.round m.id x y
  pub nodes : (j u v : ℕ) → Ranks n ph j u v → IsAtMost u v x y

-- ---- that it never stands still

-- the message of node a that drew this pair is on its way
pub record IsOnItsWay (n : ℕ) (Q : ℕ → List Msg) (a x y : ℕ) : Type 0 where
  pub i : ℕ
  pub m : Msg
  pub place : i < n
  pub has : Has (Q i) m
  pub round : m.round ≡ x
  pub id : m.id ≡ y
  pub at : IsAt n a i m.hop

-- of n nodes with these phases, and these messages on their way from each
pub record IsAlive (n : ℕ) (ph : ℕ → Phase) (Q : ℕ → List Msg) : Type 0 where
  -- some node has a rank
  pub some : (j : ℕ) × (x : ℕ) × (y : ℕ) × Ranks n ph j x y
  -- each message has a node of at least its rank
  pub reached : (i : ℕ) (m : Msg) → i < n → Has (Q i) m → IsReached n ph m.round m.id
  -- an active node whose pair nothing exceeds has its message on its way
  pub own : (a x y : ℕ) → a < n → ph a ≡ Active x y → IsTop n ph Q x y → IsOnItsWay n Q a x y

-- ---- that all is at rest at its end

-- at place k, a message with this pair that isn't node a's
abbrev pub IsForeign : ℕ → ℕ → ℕ → ℕ → ℕ → Msg → Type 0
IsForeign n a x y k o = (o.round ≡ x) × (o.id ≡ y) × (IsAt n a k o.hop → ⊥)

-- message m of node a, which drew this pair, has come to place j, with these behind it on its queue: the nodes that it
-- passed are passive or have the pair themselves, and all that follows it has the pair and is another's
pub record IsAhead (n : ℕ) (ph : ℕ → Phase) (Q : ℕ
    → List Msg) (a x y j : ℕ) (m : Msg) (behind : List Msg) : Type 0 where
  pub passed : (b h : ℕ) → b < n → 2 ≤ h → h ≤ m.hop → IsAt n a b h → (ph b ≡ Passive) ⊎ (ph b ≡ Active x y)
  pub back : (k h : ℕ) (o : Msg) → k < n → h < m.hop → IsAt n a k h → Has (Q k) o → IsForeign n a x y k o
  pub after : (o : Msg) → Has behind o → IsForeign n a x y j o

-- the message at place j is that of a node with this pair
pub record HasOrigin (n : ℕ) (ph : ℕ → Phase) (j : ℕ) (m : Msg) (x y : ℕ) : Type 0 where
  pub b : ℕ
  pub place : b < n
  pub at : IsAt n b j m.hop
  pub has : (ph b ≡ Active x y) ⊎ (ph b ≡ Leader x y)

-- but for node a, each node is passive, and nothing is on its way
pub record IsDecided (n : ℕ) (ph : ℕ → Phase) (Q : ℕ → List Msg) (a : ℕ) : Type 0 where
  pub others : (b : ℕ) → b < n → b ≢ a → ph b ≡ Passive
  pub empty : (j : ℕ) → j < n → Q j ≡ []

-- of n nodes with these phases, and these messages on their way from each
pub record IsOrderly (n : ℕ) (ph : ℕ → Phase) (Q : ℕ → List Msg) : Type 0 where
  -- a clean message has passed passive nodes alone
  pub clean : (j : ℕ) (m : Msg) (a b h : ℕ) → j < n → Has (Q j) m → m.dirty ≡ false → a < n → IsAt n a j m.hop
      → b < n → 2 ≤ h → h ≤ m.hop → IsAt n a b h → ph b ≡ Passive
  -- a message whose pair nothing exceeds is that of a node that has it
  pub origins : (j : ℕ) (m : Msg) (x y : ℕ) → j < n → Has (Q j) m → m.round ≡ x → m.id ≡ y → IsTop n ph Q x y
      → HasOrigin n ph j m x y
  -- and is ahead of all that its node let pass since
  pub order : (a x y j : ℕ) (m : Msg) (front behind : List Msg) → a < n → ph a ≡ Active x y → IsTop n ph Q x y → j < n
      → Q j ≡ front ++ m ∷ behind → m.round ≡ x → m.id ≡ y → IsAt n a j m.hop → IsAhead n ph Q a x y j m behind
  -- where a node leads the election is decided
  pub ends : (a x y : ℕ) → a < n → ph a ≡ Leader x y → IsDecided n ph Q a

-- ---- that no message comes home but to a node of at least its rank

-- a node that node a's message has yet to pass, after so many hops, has such a rank
pub record HasAhead (n : ℕ) (ph : ℕ → Phase) (a hop : ℕ) (IsSuch : ℕ → ℕ → Type 0) : Type 0 where
  pub b : ℕ
  pub h : ℕ
  pub place : b < n
  pub at : IsAt n a b h
  pub later : hop < h
  pub u : ℕ
  pub v : ℕ
  pub rank : HasRank (ph b) u v
  pub such : IsSuch u v

-- node a has at least the rank of its message
pub record IsHeld (ph : ℕ → Phase) (a : ℕ) (m : Msg) : Type 0 where
  pub u : ℕ
  pub v : ℕ
  pub rank : HasRank (ph a) u v
  pub most : IsAtMost m.round m.id u v

-- message g is on the way that node a's message has yet to go, after so many hops, with these before it on its queue
abbrev pub IsInFront : ℕ → (ℕ → List Msg) → ℕ → ℕ → List Msg → Msg → Type 0
IsInFront n Q a hop front g =
    Has front g ⊎ ((k : ℕ) × (h : ℕ) × (k < n) × (hop < h) × IsAt n a k h × Has (Q k) g)

-- of n nodes with these phases, and these messages on their way from each
pub record IsGuarded (n : ℕ) (ph : ℕ → Phase) (Q : ℕ → List Msg) : Type 0 where
  -- a message is some node's, and hasn't gone further than the whole way
  pub origins : (j : ℕ) (m : Msg) → j < n → Has (Q j) m → (a : ℕ) × (a < n) × IsAt n a j m.hop
  -- that node has at least its rank, or a node that it has yet to pass has a greater one
  pub held : (j : ℕ) (m : Msg) (a : ℕ) → j < n → Has (Q j) m → a < n → IsAt n a j m.hop → IsHeld ph a m
      ⊎ HasAhead n ph a m.hop (IsUnder m.round m.id)
  -- of a greater message in front of it there too a node has at least the rank
  pub fronts : (j : ℕ) (m : Msg) (a : ℕ) (front behind : List Msg) (g : Msg) → j < n → a < n → Q j ≡ front ++ m ∷ behind
      → IsAt n a j m.hop → IsInFront n Q a m.hop front g → IsUnder m.round m.id g.round g.id
      → HasAhead n ph a m.hop (IsAtMost g.round g.id)

-- ---- the election of a term

-- no node is past the term, and none yields in it
pub record IsWithin (n term : ℕ) (c : Configuration) : Type 0 where
  pub terms : (j : ℕ) → j < n → (c.state j).term ≤ term
  pub none_yields : (j : ℕ) → j < n → (c.state j).term ≡ term → yielding (c.state j).phase ≡ 0

-- the election of the term is on
pub record IsOn (n term : ℕ) (c : Configuration) : Type 0 where
  pub within : IsWithin n term c
  pub alive : IsAlive n (phases_of term c) (messages_of n term c)
  pub orderly : IsOrderly n (phases_of term c) (messages_of n term c)
  pub guarded : IsGuarded n (phases_of term c) (messages_of n term c)

-- the reset of this hop that ends the term is on a queue of which the first load comes to its receiver in term t
abbrev pub IsResetOn : ℕ → ℕ → List Load → ℕ → Type 0
IsResetOn term t [] h = ⊥
IsResetOn term t (Message m ∷ ls) h = IsResetOn term t ls h
IsResetOn term t (Reset k ∷ ls) h = ((t ≡ term) × (h ≡ k)) ⊎ IsResetOn term (t + 1) ls h

-- node y yielded in the term, and has yet to get its reset back, which has come to place j after so many hops: each
-- node
-- that it passed is past the term
pub record IsUnderWay (n term : ℕ) (c : Configuration) (y j h : ℕ) : Type 0 where
  pub at : IsAt n y j h
  pub in_term : (c.state y).term ≡ term
  pub gave : (c.state y).phase ≡ Yielding
  pub passed : (b g : ℕ) → b < n → 2 ≤ g → g ≤ h → IsAt n y b g → term < (c.state b).term

-- the election of the term is past, and node y yielded in it
pub record IsPast (n term y : ℕ) (c : Configuration) : Type 0 where
  pub place : y < n
  -- that node stays so to the end of the term, and each other one passive
  pub own : IsStillIn term Yielding (c.state y)
  pub others : (j : ℕ) → j < n → j ≢ y → IsStillIn term Passive (c.state j)
  -- no message of it is on its way
  pub messages : (j : ℕ) → j < n → messages_of n term c j ≡ []
  -- and no reset that ends it but that node's
  pub resets : (j h : ℕ) → j < n → IsResetOn term (c.state (next n j)).term (queue c j) h → IsUnderWay n term c y j h

-- it is on, or past
abbrev pub IsOnOrPast : ℕ → ℕ → Configuration → Type 0
IsOnOrPast n term c = IsOn n term c ⊎ ((y : ℕ) × IsPast n term y c)

-- ---- terms

-- what a node sends is of its own term, and the reset of a node that yielded the last of it: with the resets on the way
-- between them the next node's term makes up the node's own, and one more where it yielded
abbrev pub AreTermsEven : ℕ → Configuration → Type 0
AreTermsEven n c = (i : ℕ) → i < n
    → (c.state (next n i)).term + resets (queue c i) ≡ (c.state i).term + yielding (c.state i).phase
