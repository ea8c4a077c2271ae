-- After an elimination, whatever is eliminated anew is so by the node that moved: each other elimination is of
-- two nodes that had one before.
use Rattle.std.proofs.Common.{◌≡◌, ◌≢◌, ℕ, ◌+◌, ◌≤◌, inl, inr, List, Option, Some, None, slice_get}
use Rattle.std.proofs.Common.{slice_index_or, drop, refl, sym, ◌∙◌, ap, subst, arith}
use Rattle.std.specs.Option.{option_map}
use Rattle.std.proofs.lemmas.Bool.{cases_eq}
use Rattle.std.proofs.lemmas.List.{drop-drop}
use Rattle.std.proofs.lemmas.Option.{same_Some, get_or_from_slice_get, slice_get_within}
use Rattle.ira_event.specs.Log.{Log}
use Rattle.ira_pred.specs.Case.{Conjunct}
use Rattle.ira_order.specs.Before.{Before}
use Rattle.ira_order.proofs.Acyclic.{before_earlier}
use Rattle.ira_cert_text.specs.declared.cert_step.CertStep.{CertStep}
use Rattle.ira_cert.specs.Front.{made}
use Rattle.ira_cert.specs.QueuesAfter.{AreQueuesAfter}
use Rattle.ira_cert.proofs.QueueHeads.{one_fewer, slice_get-drop, slice_get-set_same, slice_get-set_other}
use Rattle.ira_cert.proofs.NoCut.{rising_le}
use Rattle.ira_cert.specs.Queues.{HasList}
use Rattle.ira_elim.specs.Elimination.{HasEliminations, IsElimination, IsFirstLeft}
use Rattle.ira_elim.specs.PairSet.{Has}

module _ (logs : List Log) (case : List Conjunct) (before : List CertStep) (queues left : List (Option (List ℕ)))
    (queues_after : AreQueuesAfter logs case before queues) (s : CertStep) (is : IsElimination logs queues s)
    (moved : left
    ≡ one_fewer queues s.node) where
  -- the list of another node stays
  other_list : (i : ℕ) → i ≢ s.node → slice_get left i ≡ slice_get queues i
  other_list i other = ap (λ (fs : List (Option (List ℕ))). slice_get fs i) moved
      ∙ slice_get-set_other queues s.node i _ (λ e. other (sym e))

  pub other_first : (i p : ℕ) → i ≢ s.node → IsFirstLeft left i p → IsFirstLeft queues i p
  other_first i p other first = (first.0, sym (other_list i other) ∙ first.1, first.2)

  pub own_list : slice_get left s.node ≡ Some (Some (drop 1 is.front.0))
  own_list =
      ap (λ (fs : List (Option (List ℕ))). slice_get fs s.node) moved
      ∙ slice_get-set_same queues s.node (option_map (λ xs. drop 1 xs) (slice_index_or queues s.node None))
      (slice_get_within queues s.node (Some is.front.0) is.front.1)
      ∙ ap (λ (o : Option (List ℕ)). Some (option_map (λ xs. drop 1 xs) o))
      (get_or_from_slice_get queues s.node (Some is.front.0) None is.front.1)

  -- the node's first candidate left is now a later one
  pub own_first : (p : ℕ) → IsFirstLeft left s.node p → s.pos ≤ p
  own_first p first =
      let h = queues_after.lists s.node is.front.0 is.front.1 in
      let m : ℕ = made before s.node in
      let same : first.0 ≡ drop 1 is.front.0 = same_Some _ _ (same_Some _ _ (sym first.1 ∙ own_list)) in
      let old : slice_get h.0 m ≡ Some s.pos =
      sym (slice_get-drop m h.0) ∙ ap (λ (xs : List ℕ). slice_get xs 0) (sym h.3) ∙ is.front.2 in
      let rest : first.0 ≡ drop (m + 1) h.0 = same ∙ ap (λ (xs : List ℕ). drop 1 xs) h.3 ∙ drop-drop 1 m h.0 in
      let new : slice_get h.0 (m + 1) ≡ Some p =
      sym (slice_get-drop (m + 1) h.0) ∙ ap (λ (xs : List ℕ). slice_get xs 0) (sym rest) ∙ first.2 in
      rising_le h.0 m (m + 1) s.pos p h.1.candidates_are.rising old new (omega arith)

  -- an elimination by another node is of two nodes that had one before
  was_before : (t : CertStep) → t.other ≢ s.node → IsElimination logs left t → (u : CertStep) × (u.node ≡ t.node)
      × (u.other ≡ t.other) × IsElimination logs queues u
  was_before t other eliminates =
      let by : IsFirstLeft queues t.other t.other_pos = other_first t.other t.other_pos other eliminates.other_front in
      elim (cases_eq t.node s.node) [
        | inl same ↦
            let first : IsFirstLeft left s.node t.pos =
            subst (λ (i : ℕ). IsFirstLeft left i t.pos) same eliminates.front in
            let happened : Before logs s.node (t.pos + 1) t.other t.other_pos =
            subst (λ (i : ℕ). Before logs i (t.pos + 1) t.other t.other_pos) same eliminates.happened_before in (
              record { node = s.node; pos = s.pos; other = t.other; other_pos = t.other_pos },
              sym same,
              refl,
              record {
                differ = λ e. other (sym e);
                front = is.front;
                other_front = by;
                happened_before = before_earlier logs s.node (s.pos + 1) (t.pos + 1) t.other t.other_pos (omega arith)
                    (omega (arith, own_first t.pos first)) happened;
              },
            )
        | inr apart ↦ (
          t,
          refl,
          refl,
          record {
            differ = eliminates.differ;
            front = other_first t.node t.pos apart eliminates.front;
            other_front = by;
            happened_before = eliminates.happened_before;
          },
        )
      ]

  -- so pairs that had all eliminations have them again with those by the node that moved
  pub all_again : (old new : List ℕ) → HasEliminations logs queues old → ((a b : ℕ) → Has old a b → Has new a b)
      → ((t : CertStep) → t.other ≡ s.node → IsElimination logs left t → Has new t.node t.other)
      → HasEliminations logs left new
  all_again old new all kept added t eliminates = elim (cases_eq t.other s.node) [
    | inl same ↦ added t same eliminates
    | inr other ↦
        let u = was_before t other eliminates in
        let has : Has old t.node t.other =
        subst (λ (j : ℕ). Has old t.node j) u.2 (subst (λ (i : ℕ). Has old i u.0.other) u.1 (all u.0 u.3)) in
        kept t.node t.other has
  ]

  -- where each node had a first candidate left, and the one that moved has one, each has one
  pub still_left : ((i : ℕ) → HasList queues i → (p : ℕ) × IsFirstLeft queues i p) → (p : ℕ) → IsFirstLeft left s.node p
      → (i : ℕ) → HasList left i → (q : ℕ) × IsFirstLeft left i q
  still_left each p own_has i has = elim (cases_eq i s.node) [
    | inl same ↦ (p, subst (λ (j : ℕ). IsFirstLeft left j p) (sym same) own_has)
    | inr other ↦
        let first = each i (has.0, sym (other_list i other) ∙ has.1) in
        (first.0, (first.1.0, other_list i other ∙ first.1.1, first.1.2))
  ]
