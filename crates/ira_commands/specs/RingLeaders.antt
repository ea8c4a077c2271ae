-- Who is to lead when the logs of a ring end.
use Rattle.std.specs.Prelude.{◌≡◌, ℕ, List, [], None, Option, Some}
use Rattle.ira_event.specs.Log.{Log}
use Rattle.ira_view_page.specs.declared.named_text.NamedText.{NamedText}
use Rattle.ira_view.specs.Differences.{AreDifferences, AreDifferencesExplained, ArePlaces, TellsOfLeader}
use Rattle.ira_commands.specs.declared.ring_leaders.RingLeaders.{RingLeaders}
use Rattle.ira_commands.specs.declared.ring_leaders.RingLeaders.TheVariants.{Any, NotAsked, Places}

-- the places of the nodes that are to lead, if some are named
abbrev pub named_places : RingLeaders → Option (List ℕ)
named_places NotAsked = None
named_places Any = None
named_places (Places places) = Some places.now

-- one of them is none of the ring
abbrev pub AreNoPlaces : List Log → RingLeaders → Type 0
AreNoPlaces logs NotAsked = ⊥
AreNoPlaces logs Any = ⊥
AreNoPlaces logs (Places places) = ¬ (ArePlaces logs places.now)

-- there are no differences exactly where those lead when the logs end who are to: these nodes and no other, or some
-- node; and none where that isn't asked
abbrev pub AreDifferencesOf : List Log → RingLeaders → List ℕ → Type 0
AreDifferencesOf logs NotAsked differences = differences ≡ []
AreDifferencesOf logs Any differences = TellsOfLeader logs differences
AreDifferencesOf logs (Places places) differences = AreDifferences logs places.now differences

-- why the nodes lead or don't that such lines name, of logs in these files
abbrev pub AreReasonsOf : List NamedText → List Log → RingLeaders → List ℕ → Type 0
AreReasonsOf files logs NotAsked why = why ≡ []
AreReasonsOf files logs Any why = why ≡ []
AreReasonsOf files logs (Places places) why = AreDifferencesExplained files logs places.now why
