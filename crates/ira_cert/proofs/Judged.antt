-- What steps made along a case's candidates say of the section.
use Rattle.std.proofs.Common.{◌≡◌, ℕ, zero, suc, ◌≤◌, List, [], ◌∷◌, Option, Some, length, slice_get, drop, refl, sym}
use Rattle.std.proofs.Common.{◌∙◌, ap, subst, arith}
use Rattle.ira_event.specs.Log.{Log}
use Rattle.ira_pred.specs.Case.{Conjunct}
use Rattle.ira_cert_text.specs.declared.cert_step.CertStep.{CertStep}
use Rattle.ira_cert_text.specs.Certificate.{Section}
use Rattle.ira_cert.specs.declared.section_fault.SectionFault.{SectionFault}
use Rattle.ira_cert.specs.declared.section_fault.SectionFault.TheVariants.{Step, NotSpent}
use Rattle.ira_cert.specs.declared.unsound.Unsound.{Unsound}
use Rattle.ira_cert.specs.Conjuncts.{HasDifferentPlaces}
use Rattle.ira_cert.specs.Front.{made, IsSpent}
use Rattle.ira_cert.specs.QueuesAfter.{AreQueuesAfter}
use Rattle.ira_cert.specs.SoundSection.{AreSoundSteps, IsSoundSection}
use Rattle.ira_cert.specs.SectionFault.{IsFirstUnsoundStep, IsSectionFault, unsound, not_spent}
use Rattle.ira_cert.proofs.QueueHeads.{spent_at}
use Rattle.ira_cert.proofs.OneList.{one_list}

drop_all : (n : ℕ) (xs : List ℕ) → length xs ≤ n → drop n xs ≡ []
drop_all zero [] l = refl
drop_all zero (x ∷ xs) l = absurd (omega arith)
drop_all (suc n) [] l = refl
drop_all (suc n) (x ∷ xs) l = drop_all n xs (omega arith)

module _ (logs : List Log) (case : List Conjunct) (section : Section) (steps : List CertStep) (same : steps
    ≡ section.steps) where
  pub first_is_fault : (f : SectionFault) → (k : ℕ) × (why : Unsound) × (f ≡ Step k why)
      × IsFirstUnsoundStep logs case steps k why → IsSectionFault logs case section f
  first_is_fault f h = unsound h.0 h.1
      (subst (λ (xs : List CertStep). IsFirstUnsoundStep logs case xs h.0 h.1) same h.3) h.2

  module _ (differ : HasDifferentPlaces case) (queues : List (Option (List ℕ)))
      (made_all : AreSoundSteps logs case steps × AreQueuesAfter logs case steps queues) where
    all_sound : AreSoundSteps logs case section.steps
    all_sound = subst (λ (xs : List CertStep). AreSoundSteps logs case xs) same made_all.0

    -- a spent node has no candidate left
    spent_empty : (i : ℕ) → IsSpent logs case steps i → slice_get queues i ≡ Some (Some [])
    spent_empty i spent =
        let left = made_all.1.asked i (spent.1.formula, spent.1.asked) in
        let h = made_all.1.lists i left.0 left.1 in
        let list : spent.0 ≡ h.0 = one_list logs case i spent.0 h.0 differ spent.1 h.1 in
        let count : length spent.0 ≡ length h.0 = ap (λ (xs : List ℕ). length xs) list in
        let empty : left.0 ≡ [] = h.3 ∙ drop_all (made steps i) h.0 (omega (arith, spent.2)) in
        left.1 ∙ ap (λ (xs : List ℕ). Some (Some xs)) empty

    pub left_is_fault : (spent : ℕ) → spent ≡ section.spent → ¬ (slice_get queues spent ≡ Some (Some []))
        → IsSectionFault logs case section (NotSpent spent)
    left_is_fault spent e left =
        not_spent all_sound
        (λ h. left (spent_empty spent
        (subst (λ (i : ℕ). IsSpent logs case steps i) (sym e)
        (subst (λ (xs : List CertStep). IsSpent logs case xs section.spent) (sym same) h))))
        (ap (λ (i : ℕ). NotSpent i) e)

    pub empty_is_sound : (spent : ℕ) → spent ≡ section.spent → slice_get queues spent ≡ Some (Some [])
        → IsSoundSection logs case section
    empty_is_sound spent e empty = record {
      steps = all_sound;
      spent = subst (λ (i : ℕ). IsSpent logs case section.steps i) e
          (subst (λ (xs : List CertStep). IsSpent logs case xs spent) same
          (spent_at logs case steps queues made_all.1 spent [] empty refl));
    }
