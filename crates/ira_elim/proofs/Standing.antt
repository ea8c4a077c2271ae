-- Eliminations are told by where the nodes stand, before and after a step.
use Rattle.std.proofs.Common.{◌≡◌, ◌≢◌, ℕ, zero, suc, ◌+◌, ◌<◌, ◌≤◌, inl, inr, List, [], ◌∷◌, ◌++◌, Option, Some}
use Rattle.std.proofs.Common.{Contains, length, slice_get, slice_index, slice_index_or, slice_set, sym, ◌∙◌, ap}
use Rattle.std.proofs.Common.{subst, below_more, length-set, arith}
use Rattle.std.proofs.lemmas.Bool.{cases_eq}
use Rattle.std.proofs.lemmas.List.{get_or_default, length_push}
use Rattle.std.proofs.lemmas.Option.{same_Some, slice_get-get_or, slice_get_within}
use Rattle.ira_event.specs.Log.{Log}
use Rattle.ira_pred.specs.Case.{Conjunct}
use Rattle.ira_cert_text.specs.declared.cert_step.CertStep.{CertStep}
use Rattle.ira_cert.specs.QueuesAfter.{AreQueuesAfter}
use Rattle.ira_cert.proofs.QueueHeads.{one_fewer, slice_get-set_same, slice_get-set_other}
use Rattle.ira_cert.specs.Queues.{HasList}
use Rattle.ira_order.specs.Before.{Before}
use Rattle.ira_order.specs.Ring.{log_of}
use Rattle.ira_order.proofs.Pushed.{pushed_last}
use Rattle.ira_order.proofs.Acyclic.{before_earlier}
use Rattle.ira_elim.specs.Elimination.{AreCounted, ArePlaces, AreStands, AreWithin, HasEliminations, IsElimination}
use Rattle.ira_elim.specs.Elimination.{IsFirstLeft}
use Rattle.ira_elim.specs.PairSet.{Has}
use Rattle.ira_elim.specs.CandidateClock.{CandidateClock, AreInLogs, AreStanding, HasRuledOut, HasRuledOutBy}
use Rattle.ira_elim.specs.CandidateClock.{IsCandidateClock, IsCounted, IsNearest, KnowsNext, RulesOut}
use Rattle.ira_elim.proofs.Clocks.{all_counted}
use Rattle.ira_elim.proofs.NewEliminations.{other_first}
use Rattle.ira_elim.proofs.Places.{one_first}

pub found_at : (xs : List CandidateClock) (k i : ℕ) (s : CandidateClock) → k ≡ i → k < length xs
    → s ≡ slice_index_or xs k s
    → slice_get xs i ≡ Some s
found_at xs k i s e l is =
    subst (λ (j : ℕ). slice_get xs j ≡ Some s) e (slice_get-get_or xs k s l
    ∙ ap (λ (x : CandidateClock). Some x) (sym is))

module _ (logs : List Log) (queues : List (Option (List ℕ))) (stands : List CandidateClock)
    (inside : AreWithin logs queues)
    (are : AreStands logs queues stands) where
  -- the stand of a node that has a first candidate left
  pub stand_is : (j q : ℕ) (t : CandidateClock) → IsFirstLeft queues j q → slice_get stands j ≡ Some t
      → IsCandidateClock logs j q t
  stand_is j q t first at =
      let st = are j q first in
      subst (IsCandidateClock logs j q) (same_Some st.0 t (sym st.1 ∙ at)) st.2

  pub eliminates : (i p j q : ℕ) → IsFirstLeft queues i p → IsFirstLeft queues j q → i ≢ j → Before logs i (p + 1) j q
      → IsElimination logs queues (record { node = i; pos = p; other = j; other_pos = q })
  eliminates i p j q first other_first differ before =
      record { differ = differ; front = first; other_front = other_first; happened_before = before }

  -- the other node counts the event that leads on from the eliminated state
  pub knows : AreCounted queues stands → (s : CertStep) → IsElimination logs queues s → KnowsNext stands s.other s.node
  knows counted s is =
      let own = are s.node s.pos is.front in
      let other = are s.other s.other_pos is.other_front in
      let more = all_counted logs s.other s.other_pos other.0 other.2 s.node s.pos
      (counted s.other s.other_pos other.0 is.other_front other.1) (inside s.node s.pos is.front).0 is.differ
      is.happened_before in
      (own.0, other.0, own.1, other.1, omega (arith, own.2.position, more))

  -- the step's other node rules the step's node out where they stand
  pub rules_out : (i p j q : ℕ) → IsFirstLeft queues i p → i ≢ j → Before logs i (p + 1) j q
      → RulesOut logs stands j q i
  rules_out i p j q first differ before =
      let own = are i p first in
      (own.0, own.1, differ, subst (λ (k : ℕ). Before logs i (k + 1) j q) (sym own.2.position) before)

  -- pairs that have each elimination have each asked node with each that rules it out
  pub has_ruled_out : (asked pairs : List ℕ) → ArePlaces queues asked
      → ((i : ℕ) → HasList queues i → (p : ℕ) × IsFirstLeft queues i p)
      → HasEliminations logs queues pairs → HasRuledOut logs stands asked pairs
  has_ruled_out asked pairs places left all j by_j i t by_i at out =
      let first = left i ((places i).0 by_i) in
      let other_first = left j ((places j).0 by_j) in
      let own = stand_is i first.0 out.0 first.1 out.1 in
      let other = stand_is j other_first.0 t other_first.1 at in
      let before : Before logs i (first.0 + 1) j other_first.0 =
      subst (λ (n : ℕ). Before logs i (n + 1) j other_first.0) own.position
      (subst (λ (n : ℕ). Before logs i (out.0.position + 1) j n) other.position out.3) in
      all (record { node = i; pos = first.0; other = j; other_pos = other_first.0 })
      (eliminates i first.0 j other_first.0 first.1 other_first.1 out.2 before)

  pub in_logs : (asked : List ℕ) → ArePlaces queues asked
      → ((i : ℕ) → HasList queues i → (p : ℕ) × IsFirstLeft queues i p) → AreInLogs logs stands asked
  in_logs asked places left i member =
      let first = left i ((places i).0 member) in
      let st = are i first.0 first.1 in
      let within = inside i first.0 first.1 in
      (st.0, st.1, within.0, omega (arith, within.1, st.2.position))

  -- the same, where the counts of one node are written anew
  pub refreshed : (other : ℕ) (new : List CandidateClock) (old t : CandidateClock) → slice_get stands other ≡ Some old
      → new ≡ slice_set stands other t → IsCandidateClock logs other old.position t → AreStands logs queues new
  refreshed other new old t at set clock j q first = elim (cases_eq j other) [
    | inl same ↦
        let st = stand_is j q old first (subst (λ (i : ℕ). slice_get stands i ≡ Some old) (sym same) at) in
        let here : slice_get new other ≡ Some t =
        ap (λ (xs : List CandidateClock). slice_get xs other) set
        ∙ slice_get-set_same stands other t (slice_get_within stands other old at) in (
          t,
          subst (λ (i : ℕ). slice_get new i ≡ Some t) (sym same) here,
          subst (λ (n : ℕ). IsCandidateClock logs j n t) st.position
              (subst (λ (i : ℕ). IsCandidateClock logs i old.position t) (sym same) clock),
        )
    | inr apart ↦
        let st = are j q first in (
          st.0,
          ap (λ (xs : List CandidateClock). slice_get xs j) set
              ∙ slice_get-set_other stands other j t (λ e. apart (sym e)) ∙ st.1,
          st.2,
        )
  ]

  pub has_all : AreCounted queues stands → (asked pairs : List ℕ) → ArePlaces queues asked
      → ((i j : ℕ) → Contains asked i → Contains asked j → KnowsNext stands j i → Has pairs i j)
      → HasEliminations logs queues pairs
  has_all counted asked pairs places added s is =
      added s.node s.other ((places s.node).1 (is.front.0, is.front.1))
      ((places s.other).1 (is.other_front.0, is.other_front.1)) (knows counted s is)

  pub standing : (asked : List ℕ) → ArePlaces queues asked
      → ((i : ℕ) → HasList queues i → (p : ℕ) × IsFirstLeft queues i p) → length stands ≡ length logs
      → AreStanding stands asked
  standing asked places left count i member =
      let first = left i ((places i).0 member) in
      let st = are i first.0 first.1 in
      (st.0, st.1, st.2.counts.places ∙ sym count)

  -- after a step, where its node stands at its next candidate
  module _ (case : List Conjunct) (before : List CertStep) (queues_after : AreQueuesAfter logs case before queues)
      (s : CertStep) (is : IsElimination logs queues s) (left : List (Option (List ℕ))) (moved : left
      ≡ one_fewer queues s.node) (new : List CandidateClock) (t : CandidateClock) (set : new
      ≡ slice_set stands s.node t) where
    pub stands_again : (p : ℕ) → IsFirstLeft left s.node p → IsCandidateClock logs s.node p t → AreStands logs left new
    stands_again p own_first stand j q first = elim (cases_eq j s.node) [
      | inl same ↦
          let e : p ≡ q = one_first left s.node j p q (sym same) own_first first in
          let within : s.node < length stands =
          slice_get_within stands s.node (are s.node s.pos is.front).0 (are s.node s.pos is.front).1 in
          let at : slice_get new s.node ≡ Some t =
          ap (λ (xs : List CandidateClock). slice_get xs s.node) set ∙ slice_get-set_same stands s.node t within in (
            t,
            subst (λ (i : ℕ). slice_get new i ≡ Some t) (sym same) at,
            subst (λ (i : ℕ). IsCandidateClock logs i q t) (sym same)
                (subst (λ (n : ℕ). IsCandidateClock logs s.node n t) e stand),
          )
      | inr other ↦
          let st = are j q (other_first logs case before queues left queues_after s is moved j q other first) in (
            st.0,
            ap (λ (xs : List CandidateClock). slice_get xs j) set
                ∙ slice_get-set_other stands s.node j t (λ e. other (sym e)) ∙ st.1,
            st.2,
          )
    ]

-- the nearest asked node is asked, where it is another one
pub near_asked : (n : ℕ) (asked : List ℕ) (j near : ℕ) → IsNearest n asked j near → near ≢ j → Contains asked near
near_asked n asked j near is ne = elim is [ inl same ↦ absurd (ne same.0) | inr nearest ↦ nearest.0 ]

-- one node has moved on
module _ (stands new : List CandidateClock) (node : ℕ) (t : CandidateClock) (within : node < length stands)
    (set : new
    ≡ slice_set stands node t) where
  pub moved_own : slice_get new node ≡ Some t
  moved_own = ap (λ (xs : List CandidateClock). slice_get xs node) set ∙ slice_get-set_same stands node t within

  pub others_stay : (i : ℕ) → i ≢ node → slice_get new i ≡ slice_get stands i
  others_stay i other = ap (λ (xs : List CandidateClock). slice_get xs i) set
      ∙ slice_get-set_other stands node i t (λ e. other (sym e))

  -- it rules out the same nodes, wherever it is said to be
  pub rules_out_again : (logs : List Log) (q i : ℕ) → RulesOut logs stands node q i → RulesOut logs new node q i
  rules_out_again logs q i out = (out.0, others_stay i out.2 ∙ out.1, out.2, out.3)

  pub ruled_out_before : (logs : List Log) (old : CandidateClock) (asked pairs : List ℕ) (j : ℕ) → j ≢ node
      → slice_get stands node ≡ Some old → old.position ≤ t.position → HasRuledOutBy logs stands asked pairs j
      → HasRuledOutBy logs new asked pairs j
  ruled_out_before logs old asked pairs j other at le all i u member at_j out =
      let was : slice_get stands j ≡ Some u = sym (others_stay j other) ∙ at_j in
      elim (cases_eq i node) [
        | inl same ↦
            let is : out.0 ≡ t = same_Some _ _ (sym out.1 ∙ ap (λ (k : ℕ). slice_get new k) same ∙ moved_own) in
            let position : out.0.position ≡ t.position = ap (λ (s : CandidateClock). s.position) is in
            let before : Before logs i (old.position + 1) j u.position =
            before_earlier logs i (old.position + 1) (out.0.position + 1) j u.position (omega arith)
            (omega (arith, le, position)) out.3 in
            all i u member was (old, ap (λ (k : ℕ). slice_get stands k) same ∙ at, out.2, before)
        | inr apart ↦ all i u member was (out.0, sym (others_stay i apart) ∙ out.1, out.2, out.3)
      ]

  pub still_in_logs : (logs : List Log) (asked : List ℕ) → node < length logs
      → t.position ≤ length (log_of logs node) → AreInLogs logs stands asked → AreInLogs logs new asked
  still_in_logs logs asked place at_most inside i member = elim (cases_eq i node) [
    | inl same ↦ (
      t,
      ap (λ (k : ℕ). slice_get new k) same ∙ moved_own,
      subst (λ (k : ℕ). k < length logs) (sym same) place,
      subst (λ (k : ℕ). t.position ≤ length (log_of logs k)) (sym same) at_most,
    )
    | inr apart ↦ let st = inside i member in (st.0, others_stay i apart ∙ st.1, st.2, st.3)
  ]

  -- what it rules out there its counts say, if they are those there
  pub knows_ruled_out : (logs : List Log) (q i : ℕ) → IsCandidateClock logs node q t → IsCounted t → i < length logs
      → RulesOut logs stands node q i → KnowsNext new node i
  knows_ruled_out logs q i clock counted li out = (
    out.0,
    t,
    others_stay i out.2 ∙ out.1,
    moved_own,
    all_counted logs node q t clock i out.0.position counted li out.2 out.3,
  )

-- what holds of each place in a list holds of each member
pub each_asked : (asked : List ℕ) (Q : ℕ → Type 0) → ((k : ℕ) → k < length asked → Q (slice_index asked k)) → (i : ℕ)
    → Contains asked i → Q i
each_asked asked Q all i member =
    subst Q (get_or_default asked member.0 0 i member.1 ∙ member.2) (all member.0 member.1)

module _ (stands : List CandidateClock) (asked : List ℕ) (i : ℕ) (are : AreStanding stands asked)
    (member : Contains asked i) where
  pub is_within : i < length stands
  is_within = let st = are i member in slice_get_within stands i st.0 st.1

pub long_counts : (stands : List CandidateClock) (asked : List ℕ) (i : ℕ) (t : CandidateClock)
    → AreStanding stands asked
    → Contains asked i → slice_get stands i ≡ Some t → length t.counts ≡ length stands
long_counts stands asked i t are member at =
    let st = are i member in
    subst (λ (s : CandidateClock). length s.counts ≡ length stands) (same_Some st.0 t (sym st.1 ∙ at)) st.2

pub one_stand_more : (logs : List Log) (queues : List (Option (List ℕ))) (stands more : List CandidateClock)
    (t : CandidateClock) (n : ℕ)
    → more ≡ stands ++ t ∷ [] → length stands ≡ n
    → ((j : ℕ) → j < n → (q : ℕ) → IsFirstLeft queues j q → (s : CandidateClock) × (slice_get stands j ≡ Some s)
    × IsCandidateClock logs j q s × IsCounted s)
    → ((q : ℕ) → IsFirstLeft queues n q → IsCandidateClock logs n q t × IsCounted t)
    → (length more ≡ n + 1)
    × ((j : ℕ) → j < n + 1 → (q : ℕ) → IsFirstLeft queues j q → (s : CandidateClock) × (slice_get more j ≡ Some s)
    × IsCandidateClock logs j q s × IsCounted s)
one_stand_more logs queues stands more t n pushed count are here =
    let Q : ℕ → Type 0 = λ j. (q : ℕ) → IsFirstLeft queues j q → (s : CandidateClock) × (slice_get more j ≡ Some s)
    × IsCandidateClock logs j q s × IsCounted s in
    let last : slice_get more n ≡ Some t =
    ap (λ (xs : List CandidateClock). slice_get xs n) pushed
    ∙ subst (λ (k : ℕ). slice_get (stands ++ t ∷ []) k ≡ Some t) count (pushed_last stands t) in
    let below : (j : ℕ) → j < n → Q j = λ j l q first.
    let st = are j l q first in (
      st.0,
      ap (λ (xs : List CandidateClock). slice_get xs j) pushed ∙ kept_at stands t j st.0 st.1,
      st.2,
      st.3,
    )
    in (
      ap (λ (xs : List CandidateClock). length xs) pushed ∙ length_push stands t ∙ ap (λ (k : ℕ). k + 1) count,
      below_more Q n below (λ q first. (t, last, (here q first).0, (here q first).1)),
    )
  where
    kept_at : (xs : List CandidateClock) (x : CandidateClock) (j : ℕ) (s : CandidateClock) → slice_get xs j ≡ Some s
        → slice_get (xs ++ x ∷ []) j ≡ Some s
    kept_at [] x j s at = cc
    kept_at (y ∷ ys) x zero s at = at
    kept_at (y ∷ ys) x (suc j) s at = kept_at ys x j s at

-- where a node stands elsewhere, the others stand where they stood
pub set_standing : (stands new : List CandidateClock) (asked : List ℕ) (j : ℕ) (t : CandidateClock)
    → AreStanding stands asked
    → j < length stands → length t.counts ≡ length stands → new ≡ slice_set stands j t → AreStanding new asked
set_standing stands new asked j t are within long set i member =
    let size : length new ≡ length stands = ap (λ (xs : List CandidateClock). length xs) set ∙ length-set stands j t in
    elim (cases_eq i j) [
      | inl same ↦
          let at : slice_get new j ≡ Some t =
          ap (λ (xs : List CandidateClock). slice_get xs j) set ∙ slice_get-set_same stands j t within in
          (t, subst (λ (k : ℕ). slice_get new k ≡ Some t) (sym same) at, long ∙ sym size)
      | inr other ↦
          let st = are i member in (
            st.0,
            ap (λ (xs : List CandidateClock). slice_get xs i) set
                ∙ slice_get-set_other stands j i t (λ e. other (sym e))
                ∙ st.1,
            st.2 ∙ sym size,
          )
    ]

module _ (logs : List Log) (case : List Conjunct) (before : List CertStep) (queues left : List (Option (List ℕ)))
    (queues_after : AreQueuesAfter logs case before queues) (s : CertStep) (is : IsElimination logs queues s)
    (moved : left
    ≡ one_fewer queues s.node) (stands : List CandidateClock) (inside : AreWithin logs queues)
    (are : AreStands logs queues stands) where
  -- where the pairs have all that the node rules out at its next candidate, they have its eliminations there
  pub adds : (asked pairs : List ℕ) (p : ℕ) → ArePlaces left asked → IsFirstLeft left s.node p
      → ((i : ℕ) → Contains asked i → RulesOut logs stands s.node p i → Has pairs i s.node) → (r : CertStep)
      → r.other ≡ s.node → IsElimination logs left r → Has pairs r.node r.other
  adds asked pairs p places own_first added r by eliminated =
      let differ : r.node ≢ s.node = λ e. eliminated.differ (e ∙ sym by) in
      let first = other_first logs case before queues left queues_after s is moved r.node r.pos differ
      eliminated.front in
      let at : r.other_pos ≡ p = one_first left r.other s.node r.other_pos p by eliminated.other_front own_first in
      let happened : Before logs r.node (r.pos + 1) s.node p =
      subst (λ (q : ℕ). Before logs r.node (r.pos + 1) s.node q) at
      (subst (λ (j : ℕ). Before logs r.node (r.pos + 1) j r.other_pos) by eliminated.happened_before) in
      subst (λ (j : ℕ). Has pairs r.node j) (sym by)
      (added r.node ((places r.node).1 (eliminated.front.0, eliminated.front.1))
      (rules_out logs queues stands inside are r.node r.pos s.node p first differ happened))
