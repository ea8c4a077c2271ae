-- A section of a case that asks nodes of the logs alone isn't without a verdict.
use Rattle.std.proofs.Common.{◌≡◌, ◌≢◌, ℕ, zero, suc, ◌+◌, ◌<◌, ◌≤◌, inl, inr, List, length, take, refl, subst, arith}
use Rattle.std.proofs.lemmas.Bool.{cases_eq}
use Rattle.std.proofs.lemmas.List.{take_all}
use Rattle.std.proofs.lemmas.List.Elements.{All-contains}
use Rattle.std.proofs.lemmas.Option.{slice_get_cases, slice_get_within}
use Rattle.ira_event.specs.Log.{Log}
use Rattle.ira_pred.specs.Case.{Conjunct}
use Rattle.ira_cand.specs.CandidatesFound.{candidates_of}
use Rattle.ira_cand.proofs.Passing.{are_candidates}
use Rattle.ira_cert_text.specs.declared.cert_step.CertStep.{CertStep}
use Rattle.ira_cert_text.specs.Certificate.{Section}
use Rattle.ira_cert.specs.declared.unsound.Unsound.{Unsound}
use Rattle.ira_cert.specs.declared.unsound.Unsound.TheVariants.{NotAsked, SameNode, NodeSpent, NotFront, NotBefore}
use Rattle.ira_cert.specs.declared.section_fault.SectionFault.TheVariants.{Step, NotSpent}
use Rattle.ira_cert.specs.declared.verdict.Verdict.{Verdict}
use Rattle.ira_cert.specs.declared.verdict.Verdict.TheVariants.{Yes, No}
use Rattle.ira_cert.specs.Conjuncts.{IsAsked, CandidatesOf, HasPlacesOf}
use Rattle.ira_cert.specs.Front.{made, IsFront}
use Rattle.ira_cert.specs.SoundSection.{IsSoundStep, AreSoundSteps}
use Rattle.ira_cert.specs.SectionFault.{WhyUnsound, not_asked, same_node, node_spent, not_front, not_before, unsound}
use Rattle.ira_cert.specs.SectionFault.{not_spent}
use Rattle.ira_cert.specs.Verdict.{IsVerdict}
use Rattle.ira_cert.proofs.Made.{step_at, made_own, made_other}
use Rattle.ira_cert.proofs.Prefixes.{sound_below, sound_fewer, sound_more}

module _ (logs : List Log) (case : List Conjunct) (candidates_at : (i : ℕ) → IsAsked case i → (positions : List ℕ)
    × CandidatesOf logs case i positions) where
  -- sound steps eliminate no more states of a node than it has candidates
  pub enough : (steps : List CertStep) (k : ℕ) → k ≤ length steps → AreSoundSteps logs case (take k steps) → (i : ℕ)
      → IsAsked case i → (positions : List ℕ) × CandidatesOf logs case i positions
      × (made (take k steps) i ≤ length positions)
  enough steps zero l sound i asked = let c = candidates_at i asked in (c.0, c.1, omega arith)
  enough steps (suc k) l sound i asked =
      let s = step_at steps k (omega arith) in
      let next : IsSoundStep logs case (take k steps) s.0 =
      sound_below logs case steps (suc k) sound k s.0 (omega arith) s.1 in
      let at_next : (n : ℕ) → k + 1 ≡ n → (positions : List ℕ) × CandidatesOf logs case i positions
      × (made (take n steps) i ≤ length positions) = λ n e.
      subst (λ (m : ℕ). (positions : List ℕ) × CandidatesOf logs case i positions
      × (made (take m steps) i ≤ length positions)) e
      (elim (cases_eq s.0.node i) [
        | inl same ↦
            let within : made (take k steps) s.0.node < length next.front.0 =
            slice_get_within next.front.0 (made (take k steps) s.0.node) s.0.pos next.front.2 in
            let one_more = made_own steps k s.0 s.1 in
            subst (λ (j : ℕ). (positions : List ℕ) × CandidatesOf logs case j positions
            × (made (take (k + 1) steps) j ≤ length positions)) same
            (next.front.0, next.front.1, omega (arith, one_more))
        | inr other ↦
            let before = enough steps k (omega arith) (sound_fewer logs case steps k (suc k) (omega arith) sound) i
            asked in
            (before.0, before.1, omega (arith, before.2, made_other steps k s.0 i s.1 other))
      ]) in
      at_next (suc k) (omega arith)

module _ (logs : List Log) (case : List Conjunct) (places : HasPlacesOf logs case) where
  -- a node that is asked has candidates
  pub candidates_at : (i : ℕ) → IsAsked case i → (positions : List ℕ) × CandidatesOf logs case i positions
  candidates_at i asked =
      let within : i < length logs =
      All-contains (λ (c : Conjunct). c.place < length logs) case (record { place = i; formula = asked.0 }) places
      asked.1 in
      elim (slice_get_cases logs i).1 [
        | inl h ↦ (
          candidates_of h.0 asked.0,
          record {
            formula = asked.0;
            asked = asked.1;
            log = h.0;
            log_is = h.2;
            candidates_are = are_candidates h.0 asked.0;
          },
        )
        | inr h ↦ absurd (omega (arith, h.0))
      ]

  -- a step isn't without a judgement after sound ones: where it isn't sound, there is a reason
  judged : (steps : List CertStep) (k : ℕ) (s : CertStep) → k ≤ length steps → AreSoundSteps logs case (take k steps)
      → ¬ (IsSoundStep logs case (take k steps) s) → ¬ ((why : Unsound) → ¬ (WhyUnsound logs case (take k steps) s why))
  judged steps k s l sound not none =
      let asks : ¬ (¬ (IsAsked case s.node)) = λ isnt. none NotAsked (not_asked (inl isnt) refl) in
      let asks_other : ¬ (¬ (IsAsked case s.other)) = λ isnt. none NotAsked (not_asked (inr isnt) refl) in
      asks (λ asked. asks_other (λ other_asked.
      let differ : s.node ≢ s.other = λ same. none SameNode (same_node asked same refl) in
      let c = enough logs case candidates_at steps k l sound s.node asked in
      let d = enough logs case candidates_at steps k l sound s.other other_asked in
      elim (slice_get_cases c.0 (made (take k steps) s.node)).1 [
        | inr past ↦ none NodeSpent
            (node_spent asked other_asked differ (inl (c.0, c.1, omega (arith, c.2, past.0))) refl)
        | inl first ↦ elim (slice_get_cases d.0 (made (take k steps) s.other)).1 [
          | inr past ↦ none NodeSpent
              (node_spent asked other_asked differ (inr (d.0, d.1, omega (arith, d.2, past.0))) refl)
          | inl other_first ↦
              let fits : ¬ (¬ (IsFront logs case (take k steps) s.node s.pos)) = λ isnt.
              none NotFront (not_front differ (first.0, (c.0, c.1, first.2)) (
                other_first.0,
                (d.0, d.1, other_first.2),
              ) (inl isnt) refl) in
              let other_fits : ¬ (¬ (IsFront logs case (take k steps) s.other s.other_pos)) = λ isnt.
              none NotFront (not_front differ (first.0, (c.0, c.1, first.2)) (
                other_first.0,
                (d.0, d.1, other_first.2),
              ) (inr isnt) refl) in
              fits (λ front. other_fits (λ other_front.
              none NotBefore (not_before differ front other_front
              (λ before. not (record {
                differ = differ;
                front = front;
                other_front = other_front;
                happened_before = before;
              })) refl)))
        ]
      ]))

  -- nor is it that some of the first steps aren't sound, where the section has no verdict
  sound_or_verdict : (section : Section) → ((a : Verdict) → ¬ (IsVerdict logs case section a)) → (k : ℕ)
      → k ≤ length section.steps → ¬ (¬ (AreSoundSteps logs case (take k section.steps)))
  sound_or_verdict section none zero l = λ not. not (λ j s at. cc)
  sound_or_verdict section none (suc k) l = λ not. sound_or_verdict section none k (omega arith) (λ sound.
      let s = step_at section.steps k (omega arith) in
      judged section.steps k s.0 (omega arith) sound
      (λ next. not (subst (λ (n : ℕ). AreSoundSteps logs case (take n section.steps)) {x = k + 1} {y = suc k}
      (omega arith) (sound_more logs case section.steps k s.0 s.1 sound next)))
      (λ why reason. none (No (Step k why))
      (unsound k why (record { before = sound; step = s.0; at = s.1; reason = reason }) refl)))

pub some_verdict : (logs : List Log) (case : List Conjunct) (section : Section) → HasPlacesOf logs case
    → ¬ ((a : Verdict) → ¬ (IsVerdict logs case section a))
some_verdict logs case section places none =
    sound_or_verdict logs case places section none (length section.steps) (omega arith) (λ sound.
    let whole : take (length section.steps) section.steps ≡ section.steps =
    take_all (length section.steps) section.steps (omega arith) in
    let all : AreSoundSteps logs case section.steps =
    subst (λ (steps : List CertStep). AreSoundSteps logs case steps) whole sound in
    none (No (NotSpent section.spent)) (not_spent all (λ spent. none Yes (record { steps = all; spent = spent })) refl))
