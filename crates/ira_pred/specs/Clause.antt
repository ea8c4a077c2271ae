-- What a clause says, and whether that holds of a state.
use Rattle.std.specs.Prelude.{◌≡◌, ℕ, ◌<◌, ◌⊎◌, ⊤, Some}
use Rattle.ira_event.specs.declared.load.Load.{Load}
use Rattle.ira_node.specs.declared.phase.Phase.{Phase}
use Rattle.ira_node.specs.declared.phase.Phase.TheVariants.{Choosing, Active, Passive, Leader, Yielding}
use Rattle.ira_node.specs.declared.node_state.NodeState.{NodeState}
use Rattle.ira_pred.specs.declared.rel.Rel.{Rel}
use Rattle.ira_pred.specs.declared.rel.Rel.TheVariants.{Less, Equal, Greater}
use Rattle.ira_pred.specs.declared.clause.Clause.{Clause}
use Rattle.ira_pred.specs.declared.clause.Clause.TheVariants as clause
use Rattle.ira_pred.specs.Formula.{Formula, always, leader, active, passive, choosing, yielding, owes, round, id, term}
use Rattle.ira_pred.specs.Formula.{both, either, negated}

-- what the clause says; a box counts as what lies in it
abbrev pub formula : {A : Type 0} → Clause A → Formula
formula clause.Always = always
formula clause.Leader = leader
formula clause.Active = active
formula clause.Passive = passive
formula clause.Choosing = choosing
formula clause.Yielding = yielding
formula clause.Owes = owes
formula (clause.Round rel n) = round rel n
formula (clause.Id rel n) = id rel n
formula (clause.Term rel n) = term rel n
formula (clause.Both' p a q b) = both (formula a) (formula b)
formula (clause.Either' p a q b) = either (formula a) (formula b)
formula (clause.Negated' p a) = negated (formula a)

-- a number compares so with n
abbrev pub Compares : Rel → ℕ → ℕ → Type 0
Compares Less x n = x < n
Compares Equal x n = x ≡ n
Compares Greater x n = n < x

-- the phase has this round; a passive or yielding node has none
abbrev pub HasRound : Phase → ℕ → Type 0
HasRound phase r = (phase ≡ Choosing r) ⊎ ((i : ℕ) × (phase ≡ Active r i)) ⊎ ((i : ℕ) × (phase ≡ Leader r i))

-- the phase has this ID; a choosing, passive or yielding node has none
abbrev pub HasId : Phase → ℕ → Type 0
HasId phase i = ((r : ℕ) × (phase ≡ Active r i)) ⊎ ((r : ℕ) × (phase ≡ Leader r i))

-- the formula holds of the state
abbrev pub Holds : Formula → NodeState → Type 0
Holds always s = ⊤
Holds leader s = (r : ℕ) × (i : ℕ) × (s.phase ≡ Leader r i)
Holds active s = (r : ℕ) × (i : ℕ) × (s.phase ≡ Active r i)
Holds passive s = s.phase ≡ Passive
Holds choosing s = (r : ℕ) × (s.phase ≡ Choosing r)
Holds yielding s = s.phase ≡ Yielding
Holds owes s = (l : Load) × (s.owed ≡ Some l)
Holds (round rel n) s = (r : ℕ) × HasRound s.phase r × Compares rel r n
Holds (id rel n) s = (i : ℕ) × HasId s.phase i × Compares rel i n
Holds (term rel n) s = Compares rel s.term n
Holds (both a b) s = Holds a s × Holds b s
Holds (either a b) s = Holds a s ⊎ Holds b s
Holds (negated a) s = ¬ (Holds a s)
