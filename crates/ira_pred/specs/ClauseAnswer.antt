-- A helper, no definition: whether a formula holds as a function by cases, to which proofs tie the
-- code. That it answers what the relation Holds says is proved.
use Rattle.std.specs.Prelude.{ℕ, Bool, true, false, ◌&&◌, ◌||◌, not, nat_eq, nat_lt, Option, Some, None}
use Rattle.ira_event.specs.declared.load.Load.{Load}
use Rattle.ira_node.specs.declared.phase.Phase.{Phase}
use Rattle.ira_node.specs.declared.phase.Phase.TheVariants.{Choosing, Active, Passive, Leader, Yielding}
use Rattle.ira_node.specs.declared.node_state.NodeState.{NodeState}
use Rattle.ira_pred.specs.declared.rel.Rel.{Rel}
use Rattle.ira_pred.specs.declared.rel.Rel.TheVariants.{Less, Equal, Greater}
use Rattle.ira_pred.specs.Formula.{Formula, always, leader, active, passive, choosing, yielding, owes, round, id, term}
use Rattle.ira_pred.specs.Formula.{both, either, negated}

-- whether a number compares so with n
abbrev pub compare_test : Rel → ℕ → ℕ → Bool
compare_test Less x n = nat_lt x n
compare_test Equal x n = nat_eq x n
compare_test Greater x n = nat_lt n x

-- the phase's round, if it has one
abbrev pub round_of : Phase → Option ℕ
round_of (Choosing r) = Some r
round_of (Active r i) = Some r
round_of Passive = None
round_of (Leader r i) = Some r
round_of Yielding = None

-- the phase's ID, if it has one
abbrev pub id_of : Phase → Option ℕ
id_of (Choosing r) = None
id_of (Active r i) = Some i
id_of Passive = None
id_of (Leader r i) = Some i
id_of Yielding = None

-- whether there is a number, and it compares so with n
abbrev pub compare_some_test : Option ℕ → Rel → ℕ → Bool
compare_some_test None rel n = false
compare_some_test (Some x) rel n = compare_test rel x n

abbrev pub is_leader : Phase → Bool
is_leader (Leader r i) = true
is_leader _ = false

abbrev pub is_active : Phase → Bool
is_active (Active r i) = true
is_active _ = false

abbrev pub is_passive : Phase → Bool
is_passive Passive = true
is_passive _ = false

abbrev pub is_choosing : Phase → Bool
is_choosing (Choosing r) = true
is_choosing _ = false

abbrev pub is_yielding : Phase → Bool
is_yielding Yielding = true
is_yielding _ = false

abbrev pub is_owing : Option Load → Bool
is_owing None = false
is_owing (Some m) = true

-- whether the formula holds of the state
abbrev pub holds_test : Formula → NodeState → Bool
holds_test always s = true
holds_test leader s = is_leader s.phase
holds_test active s = is_active s.phase
holds_test passive s = is_passive s.phase
holds_test choosing s = is_choosing s.phase
holds_test yielding s = is_yielding s.phase
holds_test owes s = is_owing s.owed
holds_test (round rel n) s = compare_some_test (round_of s.phase) rel n
holds_test (id rel n) s = compare_some_test (id_of s.phase) rel n
holds_test (term rel n) s = compare_test rel s.term n
holds_test (both a b) s = holds_test a s && holds_test b s
holds_test (either a b) s = holds_test a s || holds_test b s
holds_test (negated a) s = not (holds_test a s)
