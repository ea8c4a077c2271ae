-- The first steps of a section are sound where each of them is after those before it.
use Rattle.std.proofs.Common.{◌≡◌, ℕ, zero, suc, ◌+◌, ◌<◌, ◌≤◌, inl, inr, List, [], ◌∷◌, Some, length, slice_get, take}
use Rattle.std.proofs.Common.{sym, ◌∙◌, ap, subst, arith, length-take}
use Rattle.std.proofs.lemmas.Bool.{cases_eq}
use Rattle.std.proofs.lemmas.List.{take-take}
use Rattle.std.proofs.lemmas.Option.{same_Some, slice_get_within}
use Rattle.ira_event.specs.Log.{Log}
use Rattle.ira_pred.specs.Case.{Conjunct}
use Rattle.ira_cert_text.specs.declared.cert_step.CertStep.{CertStep}
use Rattle.ira_cert.specs.SoundSection.{IsSoundStep, AreSoundSteps}

in_prefix : {X : Type 0} → (xs : List X) (j k : ℕ) (x : X) → j < k → slice_get xs j ≡ Some x
    → slice_get (take k xs) j ≡ Some x
in_prefix [] j k x l at = cc
in_prefix (y ∷ ys) j zero x l at = absurd (omega arith)
in_prefix (y ∷ ys) zero (suc k) x l at = at
in_prefix (y ∷ ys) (suc j) (suc k) x l at = in_prefix ys j k x (omega arith) at

in_whole : {X : Type 0} → (xs : List X) (j k : ℕ) (x : X) → slice_get (take k xs) j ≡ Some x → slice_get xs j ≡ Some x
in_whole xs j zero x at = cc
in_whole [] j (suc k) x at = cc
in_whole (y ∷ ys) zero (suc k) x at = at
in_whole (y ∷ ys) (suc j) (suc k) x at = in_whole ys j k x at

module _ (logs : List Log) (case : List Conjunct) (steps : List CertStep) where
  -- each of the first k steps is sound
  abbrev pub AreSoundBelow : ℕ → Type 0
  AreSoundBelow k = (j : ℕ) (s : CertStep) → j < k → slice_get steps j ≡ Some s → IsSoundStep logs case (take j steps) s

  pub sound_below : (k : ℕ) → AreSoundSteps logs case (take k steps) → AreSoundBelow k
  sound_below k sound j s l at =
      subst (λ (before : List CertStep). IsSoundStep logs case before s) (take-take j k steps (omega arith))
      (sound j s (in_prefix steps j k s l at))

  pub sound_prefix : (k : ℕ) → AreSoundBelow k → AreSoundSteps logs case (take k steps)
  sound_prefix k below j s at =
      let within : j < length (take k steps) = slice_get_within (take k steps) j s at in
      let l : j < k = omega (arith, length-take k steps) in
      subst (λ (before : List CertStep). IsSoundStep logs case before s) (sym (take-take j k steps (omega arith)))
      (below j s l (in_whole steps j k s at))

  -- fewer of them are sound
  pub sound_fewer : (j k : ℕ) → j ≤ k → AreSoundSteps logs case (take k steps) → AreSoundSteps logs case (take j steps)
  sound_fewer j k l sound = sound_prefix j (λ i s le at. sound_below k sound i s (omega arith) at)

  -- and one more, if it is
  pub sound_more : (k : ℕ) (s : CertStep) → slice_get steps k ≡ Some s → AreSoundSteps logs case (take k steps)
      → IsSoundStep logs case (take k steps) s → AreSoundSteps logs case (take (k + 1) steps)
  sound_more k s at sound next = sound_prefix (k + 1) (λ j t l at_j. elim (cases_eq k j) [
    | inl same ↦
        let step : s ≡ t = same_Some s t (sym at ∙ ap (λ (n : ℕ). slice_get steps n) same ∙ at_j) in
        subst (λ (n : ℕ). IsSoundStep logs case (take n steps) t) same
        (subst (λ (u : CertStep). IsSoundStep logs case (take k steps) u) step next)
    | inr other ↦ sound_below k sound j t (omega arith) at_j
  ])
