-- A sound section leaves no consistent cut that meets its case: no elimination removes the state that
-- such a cut has of its node, and in the end one node has no state left.
use Rattle.std.proofs.Common.{◌≡◌, ◌≢◌, ℕ, zero, suc, ◌+◌, ◌<◌, ◌≤◌, inl, inr, List, Some, Contains, get_or, length}
use Rattle.std.proofs.Common.{slice_get, slice_index, take, refl, sym, ◌∙◌, ap, subst, arith}
use Rattle.std.specs.List.Sorted.{IsStrictlyIncreasing}
use Rattle.std.proofs.lemmas.Bool.{cases_eq}
use Rattle.std.proofs.lemmas.List.{take_all}
use Rattle.std.proofs.lemmas.List.Elements.{All-contains}
use Rattle.std.proofs.lemmas.List.Kept.{AllPairs-from_increasing}
use Rattle.std.proofs.lemmas.Option.{same_Some, get_or_from_slice_get, slice_get_read, slice_get_within}
use Rattle.ira_event.specs.Log.{Log}
use Rattle.ira_pred.specs.Case.{Conjunct}
use Rattle.ira_order.specs.Cut.{IsConsistentCut}
use Rattle.ira_cand.specs.HoldsAt.{HoldsAt}
use Rattle.ira_cand.specs.Meets.{Meets}
use Rattle.ira_cert_text.specs.declared.cert_step.CertStep.{CertStep}
use Rattle.ira_cert_text.specs.Certificate.{Section}
use Rattle.ira_cert.specs.Conjuncts.{CandidatesOf, HasDifferentPlaces}
use Rattle.ira_cert.specs.Front.{made}
use Rattle.ira_cert.specs.SoundSection.{IsSoundStep, AreSoundSteps, IsSoundSection}
use Rattle.ira_cert.proofs.Made.{step_at, made_own, made_other}
use Rattle.ira_cert.proofs.OneList.{one_list}

-- of a rising list later members are no lower
pub rising_le : (xs : List ℕ) (a b x y : ℕ) → IsStrictlyIncreasing xs → slice_get xs a ≡ Some x
    → slice_get xs b ≡ Some y → a ≤ b → x ≤ y
rising_le xs a b x y up at_a at_b l =
    let within : b < length xs = slice_get_within xs b y at_b in
    let ea : get_or xs a 0 ≡ x = get_or_from_slice_get xs a x 0 at_a in
    let eb : get_or xs b 0 ≡ y = get_or_from_slice_get xs b y 0 at_b in
    elim (cases_eq a b) [
      | inl same ↦ (let e : x ≡ y = sym ea ∙ ap (λ (k : ℕ). get_or xs k 0) same ∙ eb in omega arith)
      | inr other ↦ (let h = AllPairs-from_increasing xs up a b 0 (omega arith) within in omega (arith, h))
    ]

-- where a cut meets a case, its position of a node that is asked is a candidate of the node
pub candidate_at : (logs : List Log) (case : List Conjunct) (cut : List ℕ) (i : ℕ) (positions : List ℕ)
    → Meets logs case cut → CandidatesOf logs case i positions → (n : ℕ)
    × (slice_get positions n ≡ Some (slice_index cut i))
candidate_at logs case cut i positions meets of =
    let p : ℕ = slice_index cut i in
    let h = All-contains (λ (c : Conjunct). (log : Log) × (slice_get logs c.place ≡ Some log)
    × HoldsAt log c.formula (slice_index cut c.place)) case (record { place = i; formula = of.formula }) meets
    of.asked in
    let log : h.0 ≡ of.log = same_Some h.0 of.log (sym h.1 ∙ of.log_is) in
    let c : Contains positions p =
    (of.candidates_are.members p).1 (subst (λ (l : Log). HoldsAt l of.formula p) log h.2) in
    (c.0, slice_get_read positions (length positions) c.0 p refl c.1 (sym c.2))

module _ (logs : List Log) (case : List Conjunct) (cut : List ℕ) (differ : HasDifferentPlaces case)
    (consistent : IsConsistentCut logs cut) (meets : Meets logs case cut) where
  -- the candidate that the cut has of a node comes no sooner than the eliminated ones, which come first
  abbrev pub IsKept : List CertStep → Type 0
  IsKept before = (i : ℕ) (positions : List ℕ) (n : ℕ) → CandidatesOf logs case i positions
      → slice_get positions n ≡ Some (slice_index cut i) → made before i ≤ n

  -- a sound step doesn't eliminate the state that the cut has
  held : (before : List CertStep) (s : CertStep) → IsSoundStep logs case before s → IsKept before
      → slice_index cut s.node ≢ s.pos
  held before s sound kept same =
      let other = candidate_at logs case cut s.other sound.other_front.0 meets sound.other_front.1 in
      let no_sooner : made before s.other ≤ other.0 =
      kept s.other sound.other_front.0 other.0 sound.other_front.1 other.1 in
      let holds : s.other_pos ≤ slice_index cut s.other =
      rising_le sound.other_front.0 (made before s.other) other.0 s.other_pos (slice_index cut s.other)
      sound.other_front.1.candidates_are.rising sound.other_front.2 other.1 no_sooner in
      let further : s.pos + 1 ≤ slice_index cut s.node =
      consistent.1 s.node (s.pos + 1) s.other s.other_pos sound.happened_before holds in
      omega arith

  kept_at : (steps : List CertStep) (k : ℕ) (s : CertStep) → slice_get steps k ≡ Some s
      → IsSoundStep logs case (take k steps) s → IsKept (take k steps) → (positions : List ℕ) (n : ℕ)
      → CandidatesOf logs case s.node positions → slice_get positions n ≡ Some (slice_index cut s.node)
      → made (take (k + 1) steps) s.node ≤ n
  kept_at steps k s at sound kept positions n of here =
      let m : ℕ = made (take k steps) s.node in
      let sooner : m ≤ n = kept s.node positions n of here in
      let one_more = made_own steps k s at in
      elim (cases_eq m n) [
        | inr other ↦ omega (arith, one_more)
        | inl same ↦
            let list : sound.front.0 ≡ positions =
            one_list logs case s.node sound.front.0 positions differ sound.front.1 of in
            let front : slice_get positions m ≡ Some s.pos =
            subst (λ (xs : List ℕ). slice_get xs m ≡ Some s.pos) list sound.front.2 in
            let there : slice_get positions m ≡ Some (slice_index cut s.node) =
            ap (λ (k : ℕ). slice_get positions k) same ∙ here in
            absurd (held (take k steps) s sound kept (same_Some (slice_index cut s.node) s.pos (sym there ∙ front)))
      ]

  kept_on : (steps : List CertStep) (k : ℕ) (s : CertStep) → slice_get steps k ≡ Some s
      → IsSoundStep logs case (take k steps) s → IsKept (take k steps) → IsKept (take (k + 1) steps)
  kept_on steps k s at sound kept i positions n of here = elim (cases_eq s.node i) [
    | inr other ↦ (let same = made_other steps k s i at other in
        let l : made (take k steps) i ≤ n = kept i positions n of here in omega (arith, same))
    | inl same ↦
        subst (λ (j : ℕ). made (take (k + 1) steps) j ≤ n) same
        (kept_at steps k s at sound kept positions n
        (subst (λ (j : ℕ). CandidatesOf logs case j positions) (sym same) of)
        (subst (λ (j : ℕ). slice_get positions n ≡ Some (slice_index cut j)) (sym same) here))
  ]

  pub kept_all : (steps : List CertStep) → AreSoundSteps logs case steps → (k : ℕ) → k ≤ length steps
      → IsKept (take k steps)
  kept_all steps sound zero l = λ i positions n of here. omega arith
  kept_all steps sound (suc k) l =
      let s = step_at steps k (omega arith) in
      subst (λ (m : ℕ). IsKept (take m steps)) {x = k + 1} {y = suc k} (omega arith)
      (kept_on steps k s.0 s.1 (sound k s.0 s.1) (kept_all steps sound k (omega arith)))

pub sound_leaves_no_cut : (logs : List Log) (case : List Conjunct) (section : Section) (cut : List ℕ)
    → HasDifferentPlaces case → IsSoundSection logs case section → IsConsistentCut logs cut → ¬ (Meets logs case cut)
sound_leaves_no_cut logs case section cut differ sound consistent meets =
    let spent = sound.spent in
    let n = candidate_at logs case cut section.spent spent.0 meets spent.1 in
    let kept = kept_all logs case cut differ consistent meets section.steps sound.steps (length section.steps)
    (omega arith) section.spent spent.0 n.0 spent.1 n.1 in
    let whole : take (length section.steps) section.steps ≡ section.steps =
    take_all (length section.steps) section.steps (omega arith) in
    let made_all : made section.steps section.spent ≤ n.0 =
    subst (λ (steps : List CertStep). made steps section.spent ≤ n.0) whole kept in
    let within : n.0 < length spent.0 = slice_get_within spent.0 n.0 (slice_index cut section.spent) n.1 in
    omega (arith, spent.2)
