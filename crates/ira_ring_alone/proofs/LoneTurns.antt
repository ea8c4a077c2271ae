-- A turn of the lone runner, as the code makes it.
use Rattle.std.proofs.Common.{◌≡◌, ◌≢◌, ℕ, suc, ◌+◌, ◌<◌, ◌≤◌, Option, Some, None, List, [], ◌∷◌, ◌++◌}
use Rattle.std.proofs.Common.{All, length, get_or, sym, ◌∙◌, subst, ap, arith}
use Rattle.std.proofs.Math.ListN.{set}
use Rattle.std.proofs.lemmas.List.{get_or_read, get_or-set_same, get_or-set_other, length-set}
use Rattle.std.proofs.lemmas.Bool.Decides.{nat_tests}
use Rattle.ira_event.specs.declared.load.Load.{Load}
use Rattle.ira_order.specs.Ring.{next}
use Rattle.ira_order.proofs.Ranks.{next_below}
use Rattle.ira_ring_setup.specs.Setup.{Setup, KeepsRules}
use Rattle.ira_event.specs.Messages.{drawn}
use Rattle.ira_ring_alone.specs.LoneNode.{LoneNode, GoesToSending, after_put}
use Rattle.ira_ring_alone.specs.LoneRing.{idle, node_at, IsReached, IsPut, IsTurn}

-- what holds of a whole list holds of its end
all_after : (P : ℕ → Type 0) (xs ys : List ℕ) → All P (xs ++ ys) → All P ys
all_after P [] ys all = all
all_after P (x ∷ xs) ys all = all_after P xs ys (λ k d l. all (suc k) d (omega (arith, l)))

-- a node that was read
pub read_at : (nodes : List LoneNode) (i j : ℕ) (node : LoneNode) → i < length nodes → j ≡ i
    → node ≡ get_or nodes j node → node ≡ node_at nodes i
read_at nodes i j node l is read = get_or_read nodes i node l (read ∙ ap (λ (x : ℕ). get_or nodes x node) is) idle

-- the IDs that a node has left are those of its ring
pub ids_of : (s : Setup) (nodes : List LoneNode) (i : ℕ) → KeepsRules s → IsReached s nodes → i < s.nodes
    → All (λ d. (1 ≤ d) × (d ≤ s.nodes)) (node_at nodes i).ids
ids_of s nodes i rules reached place =
    let P : ℕ → Type 0 = λ d. (1 ≤ d) × (d ≤ s.nodes) in
    let all : All P (drawn (node_at nodes i).events ++ (node_at nodes i).ids) =
    subst (All P) (reached.draws i place) (rules.ids i place) in
    all_after P (drawn (node_at nodes i).events) (node_at nodes i).ids all

-- the same of a node that was read
pub ids_left : (s : Setup) (nodes : List LoneNode) (i j n : ℕ) (node : LoneNode) → KeepsRules s → IsReached s nodes
    → i < length nodes → j ≡ i → n ≡ s.nodes → node ≡ get_or nodes j node
    → All (λ d. (1 ≤ d) × (d ≤ n)) node.ids
ids_left s nodes i j n node rules reached l is size read =
    let P : ℕ → ℕ → Type 0 = λ m d. (1 ≤ d) × (d ≤ m) in
    let of_node : All (P s.nodes) node.ids =
    subst (λ (x : LoneNode). All (P s.nodes) x.ids) (sym (read_at nodes i j node l is read))
    (ids_of s nodes i rules reached (omega (arith, reached.many))) in
    subst (λ (m : ℕ). All (P m) node.ids) (sym size) of_node

-- ---- the node after

pub next_not : (n i : ℕ) → 2 ≤ n → i < n → next n i ≡ i → ⊥
next_not n i two l e = grind (arith, nat_tests)

-- ---- a turn, as the code makes it

goes_from : (s : Setup) (nodes : List LoneNode) (i j n most terms : ℕ) (node new : LoneNode) (sent : Option Load)
    → i < length nodes → j ≡ i → n ≡ s.nodes → most ≡ s.cap → terms ≡ s.terms → node ≡ get_or nodes j node
    → GoesToSending n most terms node new sent → GoesToSending s.nodes s.cap s.terms (node_at nodes i) new sent
goes_from s nodes i j n most terms node new sent l is size below_cap last read goes =
    let P : ℕ → Type 0 = λ x. GoesToSending x most terms node new sent in
    let Q : ℕ → Type 0 = λ x. GoesToSending s.nodes x terms node new sent in
    let T : ℕ → Type 0 = λ x. GoesToSending s.nodes s.cap x node new sent in
    let R : LoneNode → Type 0 = λ x. GoesToSending s.nodes s.cap s.terms x new sent in
    subst R (read_at nodes i j node l is read) (subst T last (subst Q below_cap (subst P size goes)))

pub turn_ended : (s : Setup) (nodes : List LoneNode) (i j n most terms : ℕ) (node new : LoneNode) (sent : Option Load)
    → i < length nodes → j ≡ i → n ≡ s.nodes → most ≡ s.cap → terms ≡ s.terms → node ≡ get_or nodes j node
    → GoesToSending n most terms node new sent
    → sent ≡ None → IsTurn s.nodes s.cap s.terms i nodes (set nodes j new) None
turn_ended s nodes i j n most terms node new sent l is size below_cap last read goes none =
    let P : ℕ → Type 0 = λ x. IsTurn s.nodes s.cap s.terms i nodes (set nodes x new) None in
    subst P (sym is) record {
      node = new;
      goes = subst (λ (x : Option Load). GoesToSending s.nodes s.cap s.terms (node_at nodes i) new x) none
          (goes_from s nodes i j n most terms node new sent l is size below_cap last read goes);
      put = (get_or-set_same nodes i new idle l, λ k ne. get_or-set_other nodes i k new idle ne);
      many = length-set nodes i new;
    }

-- the load of the turn's sending is put last on the link of the node after
sent_to : (s : Setup) (nodes : List LoneNode) (i j : ℕ) (new second new2 : LoneNode) (m : Load) → 2 ≤ s.nodes
    → length nodes ≡ s.nodes → i < s.nodes → j ≡ next s.nodes i → second ≡ get_or (set nodes i new) j second
    → new2 ≡ after_put second m
    → IsPut s.nodes i (Some m) new nodes (set (set nodes i new) j new2)
sent_to s nodes i j new second new2 m two many l is read put =
    let below : next s.nodes i < s.nodes = next_below s.nodes i l in
    let apart : i ≢ next s.nodes i = λ e. next_not s.nodes i two l (sym e) in
    let read_next : second ≡ get_or (set nodes i new) (next s.nodes i) second =
    read ∙ ap (λ (x : ℕ). get_or (set nodes i new) x second) is in
    let was : second ≡ node_at nodes (next s.nodes i) =
    get_or_read (set nodes i new) (next s.nodes i) second (omega (arith, length-set nodes i new, many, below)) read_next
    idle ∙ get_or-set_other nodes i (next s.nodes i) new idle (λ e. apart (sym e)) in
    let P : ℕ → Type 0 = λ x. IsPut s.nodes i (Some m) new nodes (set (set nodes i new) x new2) in
    subst P (sym is) (
      get_or-set_other (set nodes i new) (next s.nodes i) i new2 idle apart
          ∙ get_or-set_same nodes i new idle (omega (arith, many)),
      get_or-set_same (set nodes i new) (next s.nodes i) new2 idle (omega (arith, length-set nodes i new, many, below))
          ∙ put ∙ ap (λ (x : LoneNode). after_put x m) was,
      λ k ne other. get_or-set_other (set nodes i new) (next s.nodes i) k new2 idle other
          ∙ get_or-set_other nodes i k new idle ne,
    )

pub turn_sent : (s : Setup) (nodes : List LoneNode) (i j n most terms : ℕ) (node new : LoneNode) (sent : Option Load)
    (next_place second_place : ℕ) (second new2 : LoneNode) (m : Load) → KeepsRules s → IsReached s nodes
    → i < length nodes → j ≡ i → n ≡ s.nodes → most ≡ s.cap → terms ≡ s.terms → node ≡ get_or nodes j node
    → GoesToSending n most terms node new sent → sent ≡ Some m
    → next_place ≡ next n i → second_place ≡ next_place
    → second ≡ get_or (set nodes j new) second_place second → new2 ≡ after_put second m
    → IsTurn s.nodes s.cap s.terms i nodes (set (set nodes j new) second_place new2) (Some m)
turn_sent s nodes i j n most terms node new sent next_place second_place second new2 m rules reached l is size
    below_cap last
    read goes some to second_is read2 put =
    let here : i < s.nodes = omega (arith, l, reached.many) in
    let place : second_place ≡ next s.nodes i = second_is ∙ to ∙ ap (λ x. next x i) size in
    let P : ℕ → Type 0 = λ x. IsTurn s.nodes s.cap s.terms i nodes (set (set nodes x new) second_place new2) (Some m) in
    let Q : ℕ → Type 0 = λ x. second ≡ get_or (set nodes x new) second_place second in
    subst P (sym is) record {
      node = new;
      goes = subst (λ (x : Option Load). GoesToSending s.nodes s.cap s.terms (node_at nodes i) new x) some
          (goes_from s nodes i j n most terms node new sent l is size below_cap last read goes);
      put = sent_to s nodes i second_place new second new2 m rules.size.0 reached.many here place (subst Q is read2)
          put;
      many = length-set (set nodes i new) second_place new2 ∙ length-set nodes i new;
    }
