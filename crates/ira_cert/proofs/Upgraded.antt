-- What is said of sections and upgraded logs is what is said of the old ones.
use Rattle.std.proofs.Common.{ℕ, ◌+◌, inl, inr, List, sym, subst}
use Rattle.std.specs.Prelude.{map, take}
use Rattle.ira_event.specs.Log.{Log}
use Rattle.ira_event.specs.Upgrade.{upgraded}
use Rattle.ira_event.proofs.Upgrades.{upgraded_at, old_at}
use Rattle.ira_pred.specs.Case.{Conjunct}
use Rattle.ira_order.specs.Before.{Before}
use Rattle.ira_order.proofs.SameEvents.{turned, before}
use Rattle.ira_order.proofs.Upgraded.{same_events}
use Rattle.ira_cand.specs.Candidates.{AreCandidates}
use Rattle.ira_cand.proofs.Upgraded.{candidates_upgraded, old_candidates}
use Rattle.ira_cert_text.specs.declared.cert_step.CertStep.{CertStep}
use Rattle.ira_cert_text.specs.Certificate.{Section}
use Rattle.ira_cert.specs.declared.unsound.Unsound.{Unsound}
use Rattle.ira_cert.specs.declared.section_fault.SectionFault.{SectionFault}
use Rattle.ira_cert.specs.Conjuncts.{CandidatesOf}
use Rattle.ira_cert.specs.Front.{IsFront, IsSpent}
use Rattle.ira_cert.specs.SoundSection.{AreSoundSteps, IsSoundSection}
use Rattle.ira_cert.specs.SectionFault.{HasFront, WhyUnsound, not_asked, same_node, node_spent, not_front, not_before}
use Rattle.ira_cert.specs.SectionFault.{IsSectionFault, unsound, not_spent}

module _ (logs : List Log) (case : List Conjunct) where
  candidates : (i : ℕ) (ps : List ℕ) → CandidatesOf logs case i ps → CandidatesOf (map upgraded logs) case i ps
  candidates i ps c = record {
    formula = c.formula;
    asked = c.asked;
    log = upgraded c.log;
    log_is = upgraded_at logs i c.log c.log_is;
    candidates_are = candidates_upgraded c.log c.formula ps c.candidates_are;
  }

  old_candidates_of : (i : ℕ) (ps : List ℕ) → CandidatesOf (map upgraded logs) case i ps → CandidatesOf logs case i ps
  old_candidates_of i ps c =
      let o = old_at logs i c.log c.log_is in
      record {
        formula = c.formula;
        asked = c.asked;
        log = o.0;
        log_is = o.1;
        candidates_are = old_candidates o.0 c.formula ps
            (subst (λ (l : Log). AreCandidates l c.formula ps) (sym o.2) c.candidates_are);
      }

  module _ (steps : List CertStep) where
    front : (i p : ℕ) → IsFront logs case steps i p → IsFront (map upgraded logs) case steps i p
    front i p h = (h.0, candidates i h.0 h.1, h.2)

    old_front : (i p : ℕ) → IsFront (map upgraded logs) case steps i p → IsFront logs case steps i p
    old_front i p h = (h.0, old_candidates_of i h.0 h.1, h.2)

    has_front : (i : ℕ) → HasFront logs case steps i → HasFront (map upgraded logs) case steps i
    has_front i h = (h.0, front i h.0 h.1)

    spent : (i : ℕ) → IsSpent logs case steps i → IsSpent (map upgraded logs) case steps i
    spent i h = (h.0, candidates i h.0 h.1, h.2)

    old_spent : (i : ℕ) → IsSpent (map upgraded logs) case steps i → IsSpent logs case steps i
    old_spent i h = (h.0, old_candidates_of i h.0 h.1, h.2)

  happened : (i a j b : ℕ) → Before logs i a j b → Before (map upgraded logs) i a j b
  happened = before logs (map upgraded logs) (turned (map upgraded logs) logs (same_events logs))

  old_happened : (i a j b : ℕ) → Before (map upgraded logs) i a j b → Before logs i a j b
  old_happened = before (map upgraded logs) logs (same_events logs)

  sound_steps : (steps : List CertStep) → AreSoundSteps logs case steps → AreSoundSteps (map upgraded logs) case steps
  sound_steps steps h k s at =
      let step = h k s at in
      record {
        differ = step.differ;
        front = front (take k steps) s.node s.pos step.front;
        other_front = front (take k steps) s.other s.other_pos step.other_front;
        happened_before = happened s.node (s.pos + 1) s.other s.other_pos step.happened_before;
      }

  pub sound_section : (section : Section) → IsSoundSection logs case section
      → IsSoundSection (map upgraded logs) case section
  sound_section section h = record {
    steps = sound_steps section.steps h.steps;
    spent = spent section.steps section.spent h.spent;
  }

  why_unsound : (steps : List CertStep) (s : CertStep) (why : Unsound) → WhyUnsound logs case steps s why
      → WhyUnsound (map upgraded logs) case steps s why
  why_unsound steps s why (not_asked h e) = not_asked h e
  why_unsound steps s why (same_node asked same e) = same_node asked same e
  why_unsound steps s why (node_spent asked other differ h e) =
      node_spent asked other differ (elim h [
        | inl x ↦ inl (spent steps s.node x)
        | inr y ↦ inr (spent steps s.other y)
      ]) e
  why_unsound steps s why (not_front differ has other h e) =
      not_front differ (has_front steps s.node has) (has_front steps s.other other) (elim h [
        | inl x ↦ inl (λ f. x (old_front steps s.node s.pos f))
        | inr y ↦ inr (λ f. y (old_front steps s.other s.other_pos f))
      ]) e
  why_unsound steps s why (not_before differ first other h e) =
      not_before differ (front steps s.node s.pos first) (front steps s.other s.other_pos other) (λ b.
      h (old_happened s.node (s.pos + 1) s.other s.other_pos b)) e

  pub section_fault : (section : Section) (f : SectionFault) → IsSectionFault logs case section f
      → IsSectionFault (map upgraded logs) case section f
  section_fault section f (unsound k why h e) =
      unsound k why (record {
        before = sound_steps (take k section.steps) h.before;
        step = h.step;
        at = h.at;
        reason = why_unsound (take k section.steps) h.step why h.reason;
      }) e
  section_fault section f (not_spent steps h e) =
      not_spent (sound_steps section.steps steps) (λ s. h (old_spent section.steps section.spent s)) e
