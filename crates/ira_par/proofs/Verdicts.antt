-- What is found in a range, by its first unsound step and by what is left of the node that should be spent.
use Rattle.std.proofs.Common.{◌≡◌, ◌≢◌, ℕ, ◌+◌, ◌^◌, ◌<◌, List, Some, None, length, take, refl, sym, ap, subst, arith}
use Rattle.std.proofs.lemmas.List.{take_all}
use Rattle.ira_event.specs.Log.{Log}
use Rattle.ira_pred.specs.Case.{Conjunct}
use Rattle.ira_cert_text.specs.declared.cert_step.CertStep.{CertStep}
use Rattle.ira_cert_text.specs.Certificate.{Section}
use Rattle.ira_cert.specs.declared.queue_head.QueueHead.{QueueHead}
use Rattle.ira_cert.specs.declared.queue_head.QueueHead.TheVariants.{NotAsked, Spent, First}
use Rattle.ira_cert.specs.declared.section_fault.SectionFault.{SectionFault}
use Rattle.ira_cert.specs.declared.section_fault.SectionFault.TheVariants.{NotSpent, Step}
use Rattle.ira_cert.specs.declared.unsound.Unsound.{Unsound}
use Rattle.ira_cert.specs.Conjuncts.{HasDifferentPlaces}
use Rattle.ira_cert.specs.Front.{IsSpent}
use Rattle.ira_cert.specs.QueueHead.{IsQueueHead}
use Rattle.ira_cert.specs.SoundSection.{AreSoundSteps}
use Rattle.ira_cert.specs.SectionFault.{IsFirstUnsoundStep, unsound, not_spent}
use Rattle.ira_cert.proofs.OneVerdict.{front_unspent}
use Rattle.ira_par.specs.Halves.{begin_of}
use Rattle.ira_par.specs.Task.{IsFoundInRange}
use Rattle.ira_par.proofs.Begins.{begin_last}

-- the steps before range r
abbrev pub before_range : Section → ℕ → ℕ → List CertStep
before_range section depth r = take (begin_of (length section.steps) depth r) section.steps

module _ (logs : List Log) (case : List Conjunct) (section : Section) (depth r : ℕ) where
  -- a step that isn't sound
  pub step_found : (fault : SectionFault) → (AreSoundSteps logs case (before_range section depth r)
      → (k : ℕ) × (why : Unsound) × (fault ≡ Step k why) × IsFirstUnsoundStep logs case section.steps k why)
      → IsFoundInRange logs case section depth r (Some fault)
  step_found fault first before = let h = first before.0 in unsound h.0 h.1 h.3 h.2

  module _ (clear : AreSoundSteps logs case (before_range section depth r)
      → AreSoundSteps logs case (before_range section depth (r + 1))) where
    -- none, and another range follows
    pub none_found : r + 1 < 2 ^ depth → IsFoundInRange logs case section depth r None
    none_found more before = (clear before.0, λ last. absurd (omega (arith, more, last)))

    module _ (last : r + 1 ≡ 2 ^ depth) (left : QueueHead)
        (is_left : AreSoundSteps logs case (before_range section depth r)
        → IsQueueHead logs case (before_range section depth (r + 1)) section.spent left) where
      all : before_range section depth (r + 1) ≡ section.steps
      all = let end = begin_last (length section.steps) depth in
          take_all (begin_of (length section.steps) depth (r + 1)) section.steps
          (let e = ap (λ (k : ℕ). begin_of (length section.steps) depth k) last in omega (arith, end, e))

      -- the node is spent at the end
      pub spent_found : left ≡ Spent → IsFoundInRange logs case section depth r None
      spent_found is before =
          let sound = clear before.0 in (
            sound,
            λ _. subst (λ (steps : List CertStep). IsSpent logs case steps section.spent) all
                (subst (λ (l : QueueHead). IsQueueHead logs case (before_range section depth (r + 1)) section.spent l) is
                (is_left before.0)),
          )

      unspent : HasDifferentPlaces case → (other : QueueHead) → other ≢ Spent
          → IsQueueHead logs case (before_range section depth (r + 1)) section.spent other
          → ¬ (IsSpent logs case (before_range section depth (r + 1)) section.spent)
      unspent differ NotAsked not none = λ spent. none (spent.1.formula, spent.1.asked)
      unspent differ Spent not spent = absurd (not refl)
      unspent differ (First p) not front =
          front_unspent logs case differ (before_range section depth (r + 1)) section.spent p front

      -- or it isn't
      pub unspent_found : HasDifferentPlaces case → left ≢ Spent
          → IsFoundInRange logs case section depth r (Some (NotSpent section.spent))
      unspent_found differ not before =
          let sound = clear before.0 in
          not_spent (subst (λ (steps : List CertStep). AreSoundSteps logs case steps) all sound)
          (λ spent. unspent differ left not (is_left before.0)
          (subst (λ (steps : List CertStep). IsSpent logs case steps section.spent) (sym all) spent)) refl
