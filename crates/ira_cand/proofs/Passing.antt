-- The positions that pass along a log are its candidates, and it has one list of them.
use Rattle.std.proofs.Common.{◌≡◌, ℕ, zero, suc, ◌+◌, ◌<◌, Bool, true, IsTrue, List, [], ◌∷◌, map, length, Some}
use Rattle.std.proofs.Common.{slice_get, filter, Contains, AllPairs, refl, sym, ◌∙◌, ap, subst, arith}
use Rattle.std.specs.List.{enumerate_from}
use Rattle.std.specs.List.Sorted.{IsStrictlyIncreasing}
use Rattle.std.proofs.lemmas.Bool.{cond_both}
use Rattle.std.proofs.lemmas.List.{get_or-map, length-map}
use Rattle.std.proofs.lemmas.List.FromFn.{length-enumerate_from, get_or-enumerate_from}
use Rattle.std.proofs.lemmas.List.Kept.{AllPairs-filter}
use Rattle.ira_event.specs.Log.{Log}
use Rattle.ira_node.specs.declared.node_state.NodeState.{NodeState}
use Rattle.ira_node.specs.NodeState.{first_state}
use Rattle.ira_pred.specs.ClauseAnswer.{holds_test}
use Rattle.ira_pred.specs.Formula.{Formula}
use Rattle.ira_pred.proofs.Meanings.{holds_exactly}
use Rattle.ira_replay.specs.StatesOfLog.{AreStates, ArePlacedStates}
use Rattle.ira_replay.proofs.Along.{are_placed_states}
use Rattle.ira_replay.proofs.Reached.{one_list}
use Rattle.ira_cand.specs.Holding.{positions_passing}
use Rattle.ira_cand.specs.HoldsAt.{HoldsAt}
use Rattle.ira_cand.specs.Candidates.{AreCandidates}
use Rattle.ira_cand.specs.CandidatesFound.{candidates_of}
use Rattle.ira_cand.proofs.Rising.{contains_after, contains_first, same_rising}

-- ---- they rise

places_rise : (p : ℕ) (ts : List NodeState) → AllPairs (λ x y. x.0 < y.0) (enumerate_from p ts)
places_rise p ts i j d low high =
    let long : length (enumerate_from p ts) ≡ length ts = length-enumerate_from p ts in
    let a = get_or-enumerate_from p ts i d (omega arith) in
    let b = get_or-enumerate_from p ts j d (omega arith) in
    rw (a, b) (omega arith)

firsts_rise : (xs : List (ℕ × NodeState)) (d : NodeState) → AllPairs (λ x y. x.0 < y.0) xs
    → IsStrictlyIncreasing (map (λ x. x.0) xs)
firsts_rise xs d h k l =
    let long : length (map (λ x. x.0) xs) ≡ length xs = length-map xs (λ x. x.0) in
    let a = get_or-map (λ (x : ℕ × NodeState). x.0) xs k (0, d) 0 (omega arith) in
    let b = get_or-map (λ (x : ℕ × NodeState). x.0) xs (k + 1) (0, d) 0 (omega arith) in
    let up = h k (k + 1) (0, d) (omega arith) (omega arith) in
    rw (a, b) up

passing_rise : (test : NodeState → Bool) (p : ℕ) (ts : List NodeState) (d : NodeState)
    → IsStrictlyIncreasing (positions_passing test (enumerate_from p ts))
passing_rise test p ts d =
    firsts_rise (filter (λ x. test x.1) (enumerate_from p ts)) d
    (AllPairs-filter (λ x y. x.0 < y.0) (λ x. test x.1) (enumerate_from p ts) (places_rise p ts))

-- ---- their members pass, and all that pass are members

-- position a is k places after p, and place k has a state that passes
abbrev PassesFrom : ℕ → List NodeState → (NodeState → Bool) → ℕ → Type 0
PassesFrom p ts test a = (k : ℕ) × (a ≡ p + k) × (s : NodeState) × (slice_get ts k ≡ Some s) × IsTrue (test s)

passes_after : (p : ℕ) (t : NodeState) (ts : List NodeState) (test : NodeState → Bool) (a : ℕ)
    → PassesFrom (p + 1) ts test a → PassesFrom p (t ∷ ts) test a
passes_after p t ts test a h = (suc h.0, omega (arith, h.1), h.2, h.3, h.4)

at_first : (test : NodeState → Bool) (p : ℕ) (t : NodeState) (ts : List NodeState) (a : ℕ) (xs : List ℕ)
    → IsTrue (test t) → (Contains xs a → PassesFrom (p + 1) ts test a) → Contains (p ∷ xs) a
    → PassesFrom p (t ∷ ts) test a
at_first test p t ts a xs pass on (zero, l, e) = (0, omega (arith, e), t, refl, pass)
at_first test p t ts a xs pass on (suc k, l, e) = passes_after p t ts test a (on (k, omega (arith, l), e))

member_passes : (test : NodeState → Bool) (p : ℕ) (ts : List NodeState) (a : ℕ)
    → Contains (positions_passing test (enumerate_from p ts)) a → PassesFrom p ts test a
member_passes test p [] a c = absurd (omega (arith, c.1))
member_passes test p (t ∷ ts) a c =
    let on : Contains (positions_passing test (enumerate_from (p + 1) ts)) a → PassesFrom (p + 1) ts test a =
    member_passes test (p + 1) ts a in
    cond_both (test t) _ _ (λ ys. Contains (map (λ x. x.0) ys) a → PassesFrom p (t ∷ ts) test a)
    (λ pass. at_first test p t ts a (positions_passing test (enumerate_from (p + 1) ts)) pass on)
    (λ _. λ k. passes_after p t ts test a (on k)) c

passing_is_member : (test : NodeState → Bool) (p : ℕ) (ts : List NodeState) (k : ℕ) (s : NodeState)
    → slice_get ts k ≡ Some s → IsTrue (test s) → Contains (positions_passing test (enumerate_from p ts)) (p + k)
passing_is_member test p [] k s g pass = cc
passing_is_member test p (t ∷ ts) zero s g pass =
    let same : t ≡ s = cc in
    let there : test t ≡ true = ap test same ∙ pass in
    let xs : List ℕ = positions_passing test (enumerate_from (p + 1) ts) in
    rw there (subst (λ q. Contains (p ∷ xs) q) {x = p} {y = p + 0} (omega arith) (contains_first p xs))
passing_is_member test p (t ∷ ts) (suc k) s g pass =
    let xs : List ℕ = positions_passing test (enumerate_from (p + 1) ts) in
    let on : Contains xs (p + 1 + k) = passing_is_member test (p + 1) ts k s g pass in
    let here : Contains xs (p + suc k) = subst (λ q. Contains xs q) (omega arith) on in
    cond_both (test t) _ _ (λ ys. Contains (map (λ x. x.0) ys) (p + suc k)) (λ _.
    contains_after p xs (p + suc k) here) (λ _. here)

-- ---- the candidates of a log

-- a position of the list is one at which the formula holds
holds_at : (log : Log) (f : Formula) (ts : List NodeState) (a : ℕ)
    → AreStates log.nodes (first_state log.initiator) log.events ts
    → Contains (positions_passing (holds_test f) (enumerate_from 0 ts)) a → HoldsAt log f a
holds_at log f ts a are c =
    let h : PassesFrom 0 ts (holds_test f) a = member_passes (holds_test f) 0 ts a c in
    let same : h.0 ≡ a = omega (arith, h.1) in
    record {
      states = ts;
      states_are = are;
      state = h.2;
      at = subst (λ k. slice_get ts k ≡ Some h.2) same h.3;
      holds = (holds_exactly f h.2).0 h.4;
    }

is_position : (log : Log) (f : Formula) (ts : List NodeState) (a : ℕ)
    → AreStates log.nodes (first_state log.initiator) log.events ts → HoldsAt log f a
    → Contains (positions_passing (holds_test f) (enumerate_from 0 ts)) a
is_position log f ts a are h =
    let xs : List ℕ = positions_passing (holds_test f) (enumerate_from 0 ts) in
    let same = one_list log.nodes (first_state log.initiator) log.events h.states ts h.states_are are in
    subst (λ q. Contains xs q) {x = 0 + a} {y = a} (omega arith)
    (passing_is_member (holds_test f) 0 ts a h.state (subst (λ us. slice_get us a ≡ Some h.state) same h.at)
    ((holds_exactly f h.state).1 h.holds))

pub are_candidates : (log : Log) (f : Formula) → AreCandidates log f (candidates_of log f)
are_candidates log f =
    let s : NodeState = first_state log.initiator in
    let h : ArePlacedStates log.nodes s log.events _ = are_placed_states log.nodes s log.events in
    record {
      rising = subst (λ xs. IsStrictlyIncreasing (positions_passing (holds_test f) xs)) (sym h.2)
          (passing_rise (holds_test f) 0 h.0 s);
      members = λ a. (
        λ c. holds_at log f h.0 a h.1 (subst (λ xs. Contains (positions_passing (holds_test f) xs) a) h.2 c),
        λ k. subst (λ xs. Contains (positions_passing (holds_test f) xs) a) (sym h.2) (is_position log f h.0 a h.1 k),
      );
    }

pub are_candidates_as : (log : Log) (f : Formula) (xs : List ℕ) → xs ≡ candidates_of log f → AreCandidates log f xs
are_candidates_as log f xs e = subst (λ ys. AreCandidates log f ys) (sym e) (are_candidates log f)

pub one_list_of_candidates : (log : Log) (f : Formula) (xs ys : List ℕ) → AreCandidates log f xs
    → AreCandidates log f ys → xs ≡ ys
one_list_of_candidates log f xs ys h k =
    same_rising xs ys h.rising k.rising (λ a.
    (λ c. (k.members a).1 ((h.members a).0 c), λ c. (h.members a).1 ((k.members a).0 c)))
