-- How an election stands at a moment, and its lines.
use Rattle.std.specs.Prelude.{ℕ, List, [], ◌∷◌, ◌++◌, codes, decimal}
use Rattle.std.specs.List.{flat_map}
use Rattle.ira_event.specs.LogText.{load_text}
use Rattle.ira_view_election.specs.declared.due.Due.{Due}
use Rattle.ira_view_election.specs.declared.due.Due.TheVariants.{Draw, Send, Receive}
use Rattle.ira_view_election.specs.declared.due.NodeDue.{NodeDue}
use Rattle.ira_view_page.specs.Numbers.{places_text}
use Rattle.ira_view_election.specs.declared.election.Election.{Election}
use Rattle.ira_view_election.specs.declared.election.Election.TheVariants.{Over, GoesOn}

-- it is over, or these come next, and these can still lead, or it is left unsaid who can
pub data Standing : Type 0 where
  over : Standing
  goes_on : (next : List NodeDue) (contenders : List ℕ) → Standing

abbrev pub standing_of : {A : Type 0} → Election A → Standing
standing_of Over = over
standing_of (GoesOn next contenders) = goes_on next.items contenders.items

-- what comes next at a node
abbrev pub due_text : Due → List ℕ
due_text Draw = codes "draws"
due_text (Send load) = codes "sends " ++ load_text load
due_text (Receive load) = codes "receives " ++ load_text load

-- the line of a node
abbrev pub node_due_text : NodeDue → List ℕ
node_due_text next = codes "  " ++ codes "node " ++ decimal next.node ++ codes " " ++ due_text next.due ++ codes "\n"

-- who can still lead, unless that is left unsaid
abbrev pub contenders_text : List ℕ → List ℕ
contenders_text [] = []
contenders_text (place ∷ []) = codes " By the draws none but node " ++ decimal place ++ codes " can lead in this term."
contenders_text places = codes " By the draws none but nodes " ++ places_text places ++ codes " can lead in this term."

-- that it isn't over, who can still lead, and what comes next
abbrev pub next_text : List NodeDue → List ℕ → List ℕ
next_text [] contenders =
    codes "  " ++ codes "The election isn't over, and nothing comes next: no node is an initiator." ++ codes "\n"
next_text (first ∷ rest) contenders =
    codes "  " ++ codes "The election isn't over." ++ contenders_text contenders ++ codes " What comes next:"
    ++ codes "\n"
    ++ flat_map node_due_text (first ∷ rest)

-- the same, where it isn't over
abbrev pub unfinished_text : Standing → List ℕ
unfinished_text over = []
unfinished_text (goes_on next contenders) = next_text next contenders

-- whether it is over, and if it isn't, what comes next
abbrev pub standing_text : Standing → List ℕ
standing_text over = codes "  " ++ codes "The election is over." ++ codes "\n"
standing_text (goes_on next contenders) = next_text next contenders
