-- Of what is found in the ranges of sections the first is what is found of the sections.
use Rattle.std.proofs.Common.{◌≡◌, ℕ, suc, ◌+◌, ◌^◌, ◌<◌, inl, inr, List, [], ◌∷◌, Option, Some, None, length, slice_get}
use Rattle.std.proofs.Common.{take, refl, sym, subst, arith}
use Rattle.std.proofs.lemmas.List.{take_all}
use Rattle.std.proofs.lemmas.Option.{slice_get_within}
use Rattle.ira_event.specs.Log.{Log}
use Rattle.ira_pred.specs.Case.{Conjunct}
use Rattle.ira_cert_text.specs.declared.cert_step.CertStep.{CertStep}
use Rattle.ira_cert_text.specs.Certificate.{Section}
use Rattle.ira_cert.specs.declared.section_fault.SectionFault.{SectionFault}
use Rattle.ira_cert.specs.Conjuncts.{HasDifferentPlaces}
use Rattle.ira_cert.specs.SectionFault.{IsSectionFault}
use Rattle.ira_cert.specs.SoundSection.{AreSoundSteps, IsSoundSection}
use Rattle.ira_par.specs.declared.unsound_section.UnsoundSection.{UnsoundSection}
use Rattle.ira_par.specs.Halves.{begin_of}
use Rattle.ira_par.specs.Share.{Share, IsFoundBy, IsEarlier, IsFirstFound}
use Rattle.ira_par.specs.CandidateTable.{AreTables}
use Rattle.ira_par.specs.Task.{Task, IsSoundUpTo, IsFoundFor, IsFoundIn}
use Rattle.ira_par.proofs.Begins.{begin_first, begin_last}
use Rattle.ira_par.proofs.Halves.{some_range}

-- a section is sound up to its first range
pub sound_at_first : (logs : List Log) (case : List Conjunct) (section : Section) (depth : ℕ)
    → IsSoundUpTo logs case section depth 0
sound_at_first logs case section depth = (
  subst (λ (k : ℕ). AreSoundSteps logs case (take k section.steps)) (sym (begin_first (length section.steps) depth))
      (λ k s at. cc),
  λ last. absurd (omega (arith, last, some_range depth)),
)

-- and as a whole where it is so to the end
pub sound_at_last : (logs : List Log) (case : List Conjunct) (section : Section) (depth : ℕ)
    → IsSoundUpTo logs case section depth (2 ^ depth) → IsSoundSection logs case section
sound_at_last logs case section depth h =
    let last = begin_last (length section.steps) depth in
    record {
      steps = subst (λ (steps : List CertStep). AreSoundSteps logs case steps)
          (take_all (begin_of (length section.steps) depth (2 ^ depth)) section.steps (omega (arith, last))) h.0;
      spent = h.1 refl;
    }

module _ (logs : List Log) (depth : ℕ) (tasks : List Task) where
  -- what is found of a section from range r on
  abbrev IsFoundFrom : ℕ → Task → Option SectionFault → Type 0
  IsFoundFrom r task None = (case : List Conjunct) → HasDifferentPlaces case → AreTables logs case task.tables
      → IsSoundUpTo logs case task.section depth r → IsSoundUpTo logs case task.section depth (2 ^ depth)
  IsFoundFrom r task (Some fault) = (case : List Conjunct) → HasDifferentPlaces case → AreTables logs case task.tables
      → IsSoundUpTo logs case task.section depth r → IsSectionFault logs case task.section fault

  -- and of all sections
  abbrev AreFoundFrom : ℕ → Option UnsoundSection → Type 0
  AreFoundFrom r None = (k : ℕ) (task : Task) → slice_get tasks k ≡ Some task → IsFoundFrom r task None
  AreFoundFrom r (Some found) =
      ((k : ℕ) (task : Task) → k < found.section → slice_get tasks k ≡ Some task → IsFoundFrom r task None)
      × ((task : Task) × (slice_get tasks found.section ≡ Some task) × IsFoundFrom r task (Some found.fault))

  -- where a range has nothing, it is what the next ones have
  passed_on : (r : ℕ) (task : Task) (fault : Option SectionFault) → IsFoundFor logs depth r task None
      → IsFoundFrom (r + 1) task fault → IsFoundFrom r task fault
  passed_on r task None here later = λ case differ are before. later case differ are (here case differ are before)
  passed_on r task (Some fault) here later =
      λ case differ are before. later case differ are (here case differ are before)

  one_more : (r : ℕ) (left right found : Option UnsoundSection) → IsFoundBy logs depth r (length tasks) tasks left
      → AreFoundFrom (r + 1) right → IsEarlier left right found → AreFoundFrom r found
  one_more r None None found left right is =
      subst (λ (f : Option UnsoundSection). AreFoundFrom r f) (sym is) (λ k task at.
      passed_on r task None (left k task (slice_get_within tasks k task at) at) (right k task at))
  one_more r None (Some b) found left right is =
      subst (λ (f : Option UnsoundSection). AreFoundFrom r f) (sym is) (
        λ k task l at. passed_on r task None (left k task (slice_get_within tasks k task at) at) (right.0 k task l at),
        (
          right.1.0,
          right.1.1,
          passed_on r right.1.0 (Some b.fault)
              (left b.section right.1.0 (slice_get_within tasks b.section right.1.0 right.1.1) right.1.1) right.1.2,
        ),
      )
  one_more r (Some a) None found left right is =
      subst (λ (f : Option UnsoundSection). AreFoundFrom r f) (sym is) (
        λ k task l at. passed_on r task None (left.0 k task l at) (right k task at),
        (left.1.0, left.1.1, left.1.2),
      )
  one_more r (Some a) (Some b) found left right is = elim is [
    | inl h ↦
        subst (λ (f : Option UnsoundSection). AreFoundFrom r f) (sym h.1) (
          λ k task l at. passed_on r task None (left.0 k task l at) (right.0 k task (omega (arith, l, h.0)) at),
          (left.1.0, left.1.1, left.1.2),
        )
    | inr h ↦
        subst (λ (f : Option UnsoundSection). AreFoundFrom r f) (sym h.1) (
          λ k task l at. passed_on r task None (left.0 k task (omega (arith, l, h.0)) at) (right.0 k task l at),
          (
            right.1.0,
            right.1.1,
            passed_on r right.1.0 (Some b.fault) (left.0 b.section right.1.0 h.0 right.1.1)
                right.1.2,
          ),
        )
  ]

  all_shares : (shares : List Share) (r : ℕ) → r + length shares ≡ 2 ^ depth
      → ((i : ℕ) (share : Share) → slice_get shares i ≡ Some share
      → IsFoundBy logs depth (r + i) (length tasks) tasks share.found)
      → (found : Option UnsoundSection) → IsFirstFound shares found → AreFoundFrom r found
  all_shares [] r end each found is =
      let last : r ≡ 2 ^ depth = omega (arith, end) in
      subst (λ (f : Option UnsoundSection). AreFoundFrom r f) (sym is) (λ k task at case differ are before.
      subst (λ (m : ℕ). IsSoundUpTo logs case task.section depth m) last before)
  all_shares (share ∷ shares) r end each found is =
      let here : r + 0 ≡ r = omega arith in
      let long : r + 1 + length shares ≡ 2 ^ depth = omega (arith, end) in
      one_more r share.found is.0 found
      (subst (λ (m : ℕ). IsFoundBy logs depth m (length tasks) tasks share.found) here (each 0 share refl))
      (all_shares shares (r + 1) long
      (λ i other at. (let next : r + suc i ≡ r + 1 + i = omega arith in
      subst (λ (m : ℕ). IsFoundBy logs depth m (length tasks) tasks other.found) next (each (suc i) other at))) is.0
      is.1) is.2

  from_first : (shares : List Share)
      → ((i : ℕ) (share : Share) → slice_get shares i ≡ Some share
      → IsFoundBy logs depth i (length tasks) tasks share.found) → (i : ℕ) (share : Share) → slice_get shares i ≡ Some share
      → IsFoundBy logs depth (0 + i) (length tasks) tasks share.found
  from_first shares each i share at = let here : i ≡ 0 + i = omega arith in
      subst (λ (m : ℕ). IsFoundBy logs depth m (length tasks) tasks share.found) here (each i share at)

  -- what is found first by the shares is what is found of the sections
  pub first_is_found : (shares : List Share) → length shares ≡ 2 ^ depth
      → ((i : ℕ) (share : Share) → slice_get shares i ≡ Some share
      → IsFoundBy logs depth i (length tasks) tasks share.found)
      → (found : Option UnsoundSection) → IsFirstFound shares found → IsFoundIn logs tasks found
  first_is_found shares long each None is =
      let all = all_shares shares 0 (omega (arith, long)) (from_first shares each) None is in
      λ k task l at case differ are.
      sound_at_last logs case task.section depth
      (all k task at case differ are (sound_at_first logs case task.section depth))
  first_is_found shares long each (Some found) is =
      let all = all_shares shares 0 (omega (arith, long)) (from_first shares each) (Some found) is in (
        λ k task l at case differ are.
            sound_at_last logs case task.section depth
            (all.0 k task l at case differ are (sound_at_first logs case task.section depth)),
        (
          all.1.0,
          all.1.1,
          λ case differ are.
              all.1.2 case differ are (sound_at_first logs case all.1.0.section depth),
        ),
      )
