-- Eliminations are sound steps, and each takes one candidate away.
use Rattle.std.proofs.Common.{◌≡◌, ℕ, ◌+◌, List, [], ◌∷◌, ◌++◌, Option, Some, None, length, sum_by, slice_get}
use Rattle.std.proofs.Common.{slice_index_or, drop, take, refl, sym, ◌∙◌, ap, subst, arith, length-append, length-set}
use Rattle.std.proofs.Math.Seq.{take-append_seam}
use Rattle.std.proofs.lemmas.List.{take_all}
use Rattle.std.specs.Option.{option_map}
use Rattle.std.proofs.lemmas.List.Sums.{sum_by-set}
use Rattle.std.proofs.lemmas.Option.{get_or_from_slice_get, slice_get_within}
use Rattle.ira_event.specs.Log.{Log}
use Rattle.ira_pred.specs.Case.{Conjunct}
use Rattle.ira_order.proofs.Pushed.{pushed_last}
use Rattle.ira_cert_text.specs.declared.cert_step.CertStep.{CertStep}
use Rattle.ira_cert.specs.Conjuncts.{HasDifferentPlaces}
use Rattle.ira_cert.specs.Queues.{AreQueues}
use Rattle.ira_cert.specs.QueuesAfter.{AreQueuesAfter}
use Rattle.ira_cert.specs.SoundSection.{IsSoundStep, AreSoundSteps}
use Rattle.ira_cert.proofs.QueueHeads.{all_left, front_at, left_on, one_fewer, spent_at}
use Rattle.ira_cert.proofs.Prefixes.{sound_more}
use Rattle.ira_elim.specs.Elimination.{IsFirstLeft, IsElimination}
use Rattle.ira_elim.specs.Found.{candidate_count, IsAbsence}

pub is_sound : (logs : List Log) (case : List Conjunct) (before : List CertStep) (queues : List (Option (List ℕ)))
    (s : CertStep) → AreQueuesAfter logs case before queues → IsElimination logs queues s
    → IsSoundStep logs case before s
is_sound logs case before queues s queues_after is = record {
  differ = is.differ;
  front = front_at logs case before queues queues_after s.node s.pos is.front.0 is.front.1 is.front.2;
  other_front = front_at logs case before queues queues_after s.other s.other_pos is.other_front.0 is.other_front.1
      is.other_front.2;
  happened_before = is.happened_before;
}

-- the steps made are sound, and the lists are those left after them
pub record AreMade (logs : List Log) (case : List Conjunct) (steps : List CertStep) (queues : List (Option (List ℕ)))
    : Type 0 where
  pub sound : AreSoundSteps logs case steps
  pub queues_after : AreQueuesAfter logs case steps queues

pub none_made : (logs : List Log) (case : List Conjunct) (steps : List CertStep) (queues : List (Option (List ℕ)))
    → AreQueues logs case queues → steps ≡ [] → AreMade logs case steps queues
none_made logs case steps queues queues_are e =
    subst (λ (ss : List CertStep). AreMade logs case ss queues) (sym e)
    (record { sound = λ k s at. cc; queues_after = all_left logs case queues queues_are })

-- one step more
pub made_more : (logs : List Log) (case : List Conjunct) (steps more : List CertStep)
    (queues left : List (Option (List ℕ))) (s : CertStep) → HasDifferentPlaces case → AreMade logs case steps queues
    → IsElimination logs queues s → more ≡ steps ++ s ∷ [] → left ≡ one_fewer queues s.node
    → AreMade logs case more left
made_more logs case steps more queues left s differ made is pushed e =
    let k : ℕ = length steps in
    let xs : List CertStep = steps ++ s ∷ [] in
    let at : slice_get xs k ≡ Some s = pushed_last steps s in
    let begin : take k xs ≡ steps = take-append_seam steps (s ∷ []) in
    let whole : take (k + 1) xs ≡ xs = take_all (k + 1) xs (omega (arith, length-append steps (s ∷ []))) in
    let sound : IsSoundStep logs case (take k xs) s =
    subst (λ (before : List CertStep). IsSoundStep logs case before s) (sym begin)
    (is_sound logs case steps queues s made.queues_after is) in
    let before : AreSoundSteps logs case (take k xs) =
    subst (λ (ys : List CertStep). AreSoundSteps logs case ys) (sym begin) made.sound in
    let queues_after : AreQueuesAfter logs case (take k xs) queues =
    subst (λ (ys : List CertStep). AreQueuesAfter logs case ys queues) (sym begin) made.queues_after in
    subst (λ (ys : List CertStep). AreMade logs case ys left) (whole ∙ sym pushed) (record {
      sound = sound_more logs case xs k s at before sound;
      queues_after = left_on logs case differ xs k s at sound queues queues_after left e;
    })

-- how many candidates are left of all nodes together
abbrev pub total : List (Option (List ℕ)) → ℕ
total queues = sum_by candidate_count queues

fewer : (left : List ℕ) (p : ℕ) → slice_get left 0 ≡ Some p → length left ≡ length (drop 1 left) + 1
fewer [] p at = cc
fewer (x ∷ xs) p at = omega arith

pub total_less : (queues : List (Option (List ℕ))) (i p : ℕ) → IsFirstLeft queues i p
    → total queues ≡ total (one_fewer queues i) + 1
total_less queues i p first =
    let at : slice_index_or queues i None ≡ Some first.0 = get_or_from_slice_get queues i (Some first.0) None first.1 in
    let next : Option (List ℕ) = option_map (λ xs. drop 1 xs) (slice_index_or queues i None) in
    let changed = sum_by-set candidate_count queues i next None (slice_get_within queues i (Some first.0) first.1) in
    let old : candidate_count (slice_index_or queues i None) ≡ length first.0 = ap candidate_count at in
    let new : candidate_count next ≡ length (drop 1 first.0) =
    ap (λ (o : Option (List ℕ)). candidate_count (option_map (λ xs. drop 1 xs) o)) at in
    omega (arith, changed, old, new, fewer first.0 p first.2)

pub one_fewer-length : (queues : List (Option (List ℕ))) (i : ℕ) → length (one_fewer queues i) ≡ length queues
one_fewer-length queues i = length-set queues i (option_map (λ xs. drop 1 xs) (slice_index_or queues i None))

-- after the steps made a node without a candidate left is spent
pub absent : (logs : List Log) (case : List Conjunct) (first queues : List (Option (List ℕ))) (steps : List CertStep)
    (spent : ℕ) → AreQueues logs case first → AreMade logs case steps queues → length steps + total queues ≡ total first
    → slice_get queues spent ≡ Some (Some []) → IsAbsence logs case (record { steps = steps; spent = spent })
absent logs case first queues steps spent queues_are made count empty = record {
  sound = record { steps = made.sound; spent = spent_at logs case steps queues made.queues_after spent [] empty refl };
  queues = first;
  queues_are = queues_are;
  short = omega (arith, count);
}
