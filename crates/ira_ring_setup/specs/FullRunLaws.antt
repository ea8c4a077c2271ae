-- Laws of full runs.
use Rattle.std.specs.Prelude.{◌≡◌, ◌≢◌, ℕ, ◌≤◌, ◌⊎◌, List, Some, slice_get}
use Rattle.ira_event.specs.declared.event.Event.{Event}
use Rattle.ira_event.specs.declared.load.Load.{Load}
use Rattle.ira_event.specs.Log.{Log}
use Rattle.ira_node.specs.declared.node_state.NodeState.{NodeState}
use Rattle.ira_node.specs.declared.phase.Phase.TheVariants.{Leader as Leads}
use Rattle.ira_order.specs.Run.{Configuration, IsRingRun}
use Rattle.ira_safety.specs.OneLeader.{IsIn}
use Rattle.ira_election.specs.Tables.{Elects, rows_from}
use Rattle.ira_ring_setup.specs.declared.node_end.NodeEnd.{NodeEnd}
use Rattle.ira_ring_setup.specs.declared.node_end.NodeEnd.TheVariants.{Leader, DrawsSpent, LogFull, NoStep, Quiet}
use Rattle.ira_ring_setup.specs.Setup.{Setup, KeepsRules}
use Rattle.ira_ring_setup.specs.FullRun.{AreLogsOf, IsFullRun}
use Rattle.ira_ring_setup.specs.Run.{Run}
use Rattle.ira_ring_setup.specs.ShownEnd.{IsLoneRun}

-- a full run of a setup is a run of the ring whose nodes start as logs of the setup's ring say
abbrev pub FullRunsAreRuns : Type 0
FullRunsAreRuns =
    (s : Setup) (logs : List Log) (run : List (ℕ × Event)) (end : Configuration) → AreLogsOf s logs
    → IsFullRun s run end → IsRingRun logs run

-- some node of each full run of a setup that keeps the rules ends otherwise than Quiet
abbrev pub FullRunsAreBusy : Type 0
FullRunsAreBusy =
    (s : Setup) (lone : Run) → KeepsRules s → IsLoneRun s lone
    → (i : ℕ) × (end : NodeEnd) × (slice_get lone.ends i ≡ Some end) × (end ≢ Quiet)

-- no node of a full run ends as NoStep
abbrev pub NoFullRunLacksAStep : Type 0
NoFullRunLacksAStep =
    (s : Setup) (lone : Run) (i : ℕ) (l : Load) → KeepsRules s → IsLoneRun s lone
    → slice_get lone.ends i ≢ Some (NoStep l)

-- so some node of each full run leads, in the last term or in a later one, or is out of draws, or has a full log
abbrev pub FullRunsElectOrStop : Type 0
FullRunsElectOrStop =
    (s : Setup) (lone : Run) → KeepsRules s → IsLoneRun s lone
    → (i : ℕ) × (end : NodeEnd) × (slice_get lone.ends i ≡ Some end)
    × ((end ≡ Leader) ⊎ ((end ≡ DrawsSpent) ⊎ (end ≡ LogFull)))

-- and where one leads each other one waits for a load that doesn't come, or has a full log
abbrev pub FullRunLeadersAreAlone : Type 0
FullRunLeadersAreAlone =
    (s : Setup) (lone : Run) (i j : ℕ) (end : NodeEnd) → KeepsRules s → IsLoneRun s lone
    → slice_get lone.ends i ≡ Some Leader → slice_get lone.ends j ≡ Some end → j ≢ i → (end ≡ Quiet) ⊎ (end ≡ LogFull)

-- who leads in the first term of a full run is whom the IDs that nodes are given elect, as a table of as many rounds at
-- least
abbrev pub FullRunsElectByDraws : Type 0
FullRunsElectByDraws =
    (s : Setup) (lone : Run) → KeepsRules s → IsLoneRun s lone
    → (i events last id rounds : ℕ) (state : NodeState) → IsIn lone.logs i events state → state.phase ≡ Leads last id
    → state.term ≡ 1 → last ≤ rounds → Elects s.initiators (rows_from s.draws 0 rounds) i
