-- Sections that are held against their cases one by one.
use Rattle.std.proofs.Common.{◌≡◌, ◌<◌, ◌+◌, ℕ, List, Some, take, sym, ap, subst, ◌∙◌, arith}
use Rattle.std.specs.Prelude.{slice_get}
use Rattle.std.proofs.lemmas.Option.{same_Some}
use Rattle.ira_event.specs.Log.{Log}
use Rattle.ira_pred.specs.Case.{Conjunct}
use Rattle.ira_cert_text.specs.Certificate.{Section}
use Rattle.ira_cert.specs.declared.section_fault.SectionFault.{SectionFault}
use Rattle.ira_cert.specs.declared.verdict.Verdict.TheVariants as verdict
use Rattle.ira_cert.specs.Conjuncts.{HasDifferentPlaces}
use Rattle.ira_cert.specs.SoundSection.{IsSoundSection}
use Rattle.ira_cert.specs.SectionFault.{IsSectionFault}
use Rattle.ira_cert.proofs.OneVerdict.{one_verdict}
use Rattle.ira_audit.specs.CheckAnswer.{AreSound, IsFirstUnsound}
use Rattle.ira_audit.proofs.LogTexts.{taken, next_taken}
use Rattle.ira_audit.proofs.Zipped.{zipped_at, zipped_more}

sound_or_fault : (logs : List Log) (case : List Conjunct) (section : Section) (f : SectionFault)
    → HasDifferentPlaces case → IsSoundSection logs case section → IsSectionFault logs case section f → ⊥
sound_or_fault logs case section f differ sound fault = let same =
    one_verdict logs case differ section verdict.Yes (verdict.No f) sound fault in cc

one_fault : (logs : List Log) (case : List Conjunct) (section : Section) (f g : SectionFault) → HasDifferentPlaces case
    → IsSectionFault logs case section f → IsSectionFault logs case section g → f ≡ g
one_fault logs case section f g differ h k = let same =
    one_verdict logs case differ section (verdict.No f) (verdict.No g) h k in cc

module _ (logs : List Log) (cases : List (List Conjunct)) (sections : List Section) where
  -- one section more is sound
  pub sound_more : (i : ℕ) (case : List Conjunct) (section : Section) → slice_get cases i ≡ Some case
      → slice_get sections i ≡ Some section
      → AreSound logs (take i cases) (take i sections) → IsSoundSection logs case section
      → AreSound logs (take (i + 1) cases) (take (i + 1) sections)
  sound_more i case section a b h sound =
      rw (
        ← next_taken cases i case a,
        ← next_taken sections i section b,
      )
      (zipped_more (IsSoundSection logs) (take i cases) (take i sections) case section h sound)

  module _ (differ : (i : ℕ) (case : List Conjunct) → slice_get cases i ≡ Some case → HasDifferentPlaces case) where
    -- sections are sound, or one of them is the first that isn't
    pub sound_or_first_unsound : (i : ℕ) (f : SectionFault) → IsFirstUnsound logs cases sections i f
        → AreSound logs cases sections → ⊥
    sound_or_first_unsound i f h sound =
        sound_or_fault logs h.case h.section f (differ i h.case h.case_at)
        (zipped_at (IsSoundSection logs) cases sections i h.case h.section sound h.case_at h.section_at) h.fault

    no_earlier : (i j : ℕ) (f g : SectionFault) → IsFirstUnsound logs cases sections i f
        → IsFirstUnsound logs cases sections j g → i < j → ⊥
    no_earlier i j f g h k lt =
        let sound = zipped_at (IsSoundSection logs) (take j cases) (take j sections) i h.case h.section k.before
        (taken cases i j lt ∙ h.case_at) (taken sections i j lt ∙ h.section_at) in
        sound_or_fault logs h.case h.section f (differ i h.case h.case_at) sound h.fault

    -- sections have one that is the first
    pub one_first_unsound : (i j : ℕ) (f g : SectionFault) → IsFirstUnsound logs cases sections i f
        → IsFirstUnsound logs cases sections j g → (i ≡ j) × (f ≡ g)
    one_first_unsound i j f g h k =
        let here : i ≡ j = omega (arith, no_earlier i j f g h k, no_earlier j i g f k h) in
        let case : h.case ≡ k.case = same_Some _ _ (sym h.case_at ∙ ap (slice_get cases) here ∙ k.case_at) in
        let section : h.section ≡ k.section =
        same_Some _ _ (sym h.section_at ∙ ap (slice_get sections) here ∙ k.section_at) in
        let fault : IsSectionFault logs k.case k.section f =
        subst (λ s. IsSectionFault logs k.case s f) section
        (subst (λ x. IsSectionFault logs x h.section f) case h.fault) in
        (here, one_fault logs k.case k.section f g (differ j k.case k.case_at) fault k.fault)
