-- The configurations that runs of a ring come to.
use Rattle.std.specs.Prelude.{◌≡◌, ◌≢◌, ℕ, ◌<◌, Bool, List, [], ◌∷◌}
use Rattle.ira_event.specs.declared.event.Event.{Event}
use Rattle.ira_node.specs.declared.phase.Phase.TheVariants.{Passive}
use Rattle.ira_node.specs.NodeState.{first_state, IsLeader}
use Rattle.ira_order.specs.Run.{Configuration, RingStep}

-- in a ring of n nodes the events, each with the place of its node, lead from one configuration to another
abbrev pub Reaches : ℕ → Configuration → List (ℕ × Event) → Configuration → Type 0
Reaches n c [] d = d ≡ c
Reaches n c (x ∷ xs) d = (b : Configuration) × RingStep n x.0 x.1 c b × Reaches n b xs d

-- each node is in the first state of its kind, of an initiator (true) or of another, and the links are empty
abbrev pub beginning : (ℕ → Bool) → Configuration
beginning initiators = record { state = λ i. first_state (initiators i); link = λ i. [] }

-- in no configuration that a run of a ring comes to do two nodes lead: of any number of nodes, whichever of
-- them are initiators, whatever they draw, and however long messages are on their links
abbrev pub NoRunHasTwoLeaders : Type 0
NoRunHasTwoLeaders =
    (n : ℕ) (initiators : ℕ → Bool) (run : List (ℕ × Event)) (c : Configuration)
    → Reaches n (beginning initiators) run c
    → (i j : ℕ) → i < n → j < n → IsLeader (c.state i).phase → IsLeader (c.state j).phase → i ≡ j

-- where one leads, each other node of the ring is passive
abbrev pub LeadersOfRunsAreAlone : Type 0
LeadersOfRunsAreAlone =
    (n : ℕ) (initiators : ℕ → Bool) (run : List (ℕ × Event)) (c : Configuration)
    → Reaches n (beginning initiators) run c
    → (i j : ℕ) → i < n → j < n → i ≢ j → IsLeader (c.state i).phase → (c.state j).phase ≡ Passive
