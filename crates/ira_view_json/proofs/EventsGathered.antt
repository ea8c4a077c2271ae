-- The events that were told so far.
use Rattle.std.proofs.Common.{◌≡◌, ◌∙◌, ℕ, ◌+◌, List, [], ◌∷◌, ◌++◌, ap, arith, length, refl, subst, sym}
use Rattle.std.specs.Prelude.{All, map}
use Rattle.std.proofs.lemmas.List.{length-map, map-append}
use Rattle.std.proofs.lemmas.List.Elements.{All-nil, All-push}
use Rattle.json.specs.Json.{Json}
use Rattle.ira_event.specs.Log.{Log}
use Rattle.ira_view_trail.specs.StateTrail.{TellsStates}
use Rattle.ira_view_trail.specs.Trail.{IsTrail}
use Rattle.ira_view_trail.specs.declared.state_step.StateStep.{StateStep}
use Rattle.ira_view_trail.specs.declared.trail_step.TrailStep.{TrailStep}
use Rattle.ira_view_json.specs.EventValue.{AreEventValues, event_value, event_values}

-- one more
values_push : (first : ℕ) (steps : List StateStep) (w : StateStep)
    → event_values first (steps ++ w ∷ []) ≡ event_values first steps ++ event_value (first + length steps) w ∷ []
values_push first [] w =
    let same : first ≡ first + 0 = omega arith in ap (λ (n : ℕ). event_value n w ∷ []) same
values_push first (s ∷ steps) w =
    let same : first + 1 + length steps ≡ first + length (s ∷ steps) = omega arith in
    ap (λ (vs : List Json). event_value first s ∷ vs)
    (values_push (first + 1) steps w ∙ ap (λ (n : ℕ). event_values (first + 1) steps ++ event_value n w ∷ []) same)

-- these are the values of the steps so far
pub record AreSoFar (logs : List Log) (steps : List TrailStep) (values : List Json) : Type 0 where
  pub walked : List StateStep
  pub states : All (TellsStates logs) walked
  pub steps_are : steps ≡ map (λ w. w.step) walked
  pub are : values ≡ event_values 1 walked

pub none_so_far : (logs : List Log) → AreSoFar logs [] []
none_so_far logs = record { walked = []; states = All-nil (TellsStates logs); steps_are = refl; are = refl }

pub next_so_far : (logs : List Log) (steps : List TrailStep) (values : List Json) (number : ℕ) (w : StateStep)
    (value : Json)
    → AreSoFar logs steps values → number ≡ length steps → TellsStates logs w → value ≡ event_value (number + 1) w
    → AreSoFar logs (steps ++ w.step ∷ []) (values ++ value ∷ [])
next_so_far logs steps values number w value so_far count tells is =
    let step : StateStep → TrailStep = λ w. w.step in
    let many : number + 1 ≡ 1 + length so_far.walked =
    omega (arith, count, ap length so_far.steps_are, length-map so_far.walked step) in
    record {
      walked = so_far.walked ++ w ∷ [];
      states = All-push (TellsStates logs) so_far.walked w so_far.states tells;
      steps_are = ap (λ s. s ++ w.step ∷ []) so_far.steps_are ∙ sym (map-append step so_far.walked (w ∷ []));
      are = ap (λ vs. vs ++ value ∷ []) so_far.are
          ∙ ap (λ (v : Json). event_values 1 so_far.walked ++ v ∷ []) (is ∙ ap (λ (n : ℕ). event_value n w) many)
          ∙ sym (values_push 1 so_far.walked w);
    }

pub all_so_far : (logs : List Log) (cut : List ℕ) (steps : List TrailStep) (values : List Json)
    → AreSoFar logs steps values
    → IsTrail logs cut steps → AreEventValues logs cut values
all_so_far logs cut steps values so_far trail = record {
  steps = so_far.walked;
  states = so_far.states;
  trail = subst (IsTrail logs cut) so_far.steps_are trail;
  are = so_far.are;
}
