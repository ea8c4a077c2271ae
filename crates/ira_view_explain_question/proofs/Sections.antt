-- Sections of a certificate that aren't sound.
use Rattle.std.proofs.Common.{◌≡◌, ◌<◌, ℕ, List, length, subst}
use Rattle.std.proofs.lemmas.Option.{slice_get_within}
use Rattle.ira_cert.specs.declared.unsound.Unsound.{Unsound}
use Rattle.ira_cert.specs.declared.section_fault.SectionFault.TheVariants as fault
use Rattle.ira_cert.specs.SectionFault.{IsSectionFault, not_spent, unsound}
use Rattle.ira_event.specs.Log.{Log}
use Rattle.ira_pred.specs.Case.{Conjunct}
use Rattle.ira_cert_text.specs.Certificate.{Section}

-- the step that a fault names is there
pub step_within : (logs : List Log) (case : List Conjunct) (section : Section) (number : ℕ) (why : Unsound)
    → IsSectionFault logs case section (fault.Step number why) → number < length section.steps
step_within logs case section number why (not_spent sound spent e) = absurd cc
step_within logs case section number why (unsound k v first e) =
    (let same : k ≡ number = cc in
    subst (λ (n : ℕ). n < length section.steps) same (slice_get_within section.steps k first.step first.at))
