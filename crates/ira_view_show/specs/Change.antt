-- What an event changes of its node.
use Rattle.std.specs.Prelude.{◌≡◌, ◌≢◌, ℕ, List, [], ◌++◌, Some, None, codes}
use Rattle.ira_event.specs.LogText.{load_text}
use Rattle.ira_node.specs.declared.node_state.NodeState.{NodeState}
use Rattle.ira_view_show.specs.declared.change.Change.{Change}
use Rattle.ira_view_show.specs.declared.change.Change.TheVariants.{State, Owes, Dropped, Paid}
use Rattle.ira_view_page.specs.Words.{state_text}

-- the node does the same in the same term
abbrev pub DoesSame : NodeState → NodeState → Type 0
DoesSame before after = (before.phase ≡ after.phase) × (before.term ≡ after.term)

-- the change leads from one state to the other
abbrev pub IsChange : NodeState → NodeState → Change → Type 0
IsChange before after (State state) = ¬ (DoesSame before after) × (state ≡ after)
IsChange before after (Owes load) = DoesSame before after × (after.owed ≡ Some load)
IsChange before after Dropped = (before ≡ after) × (after.owed ≡ None)
IsChange before after Paid = DoesSame before after × (after.owed ≡ None) × (before ≢ after)

-- its words: the phase, what the node owes from then on, or that a message was dropped
abbrev pub change_text : Change → List ℕ
change_text (State state) = state_text state
change_text (Owes load) = codes "owes " ++ load_text load
change_text Dropped = codes "dropped"
change_text Paid = []
