-- A full run is a run of the ring.
use Rattle.std.proofs.Common.{◌≡◌, ℕ, ◌<◌, false, List, [], Some, length, get_or, refl, sym, ◌∙◌, subst, ap}
use Rattle.std.specs.Prelude.{slice_get}
use Rattle.std.proofs.lemmas.Option.{slice_get-get_or}
use Rattle.ira_event.specs.declared.event.Event.{Event}
use Rattle.ira_event.specs.Log.{Log}
use Rattle.ira_node.specs.NodeState.{first_state}
use Rattle.ira_order.specs.Run.{Configuration, Chains, IsRingRun, opening as ring_opening, is_initiator as starts}
use Rattle.ira_order.proofs.Runs.{prev_below}
use Rattle.ira_ring_setup.specs.Setup.{Setup, is_initiator}
use Rattle.ira_ring_setup.specs.FullRun.{opening_of, AreLogsOf, IsFullRun}
use Rattle.ira_ring_setup.proofs.Walks.{walk_chains, chains_from}

abbrev pub no_log : Log
no_log = record { version = 1; nodes = 0; place = 0; initiator = false; events = [] }

same_start : (s : Setup) (logs : List Log) → AreLogsOf s logs → (i : ℕ) → i < length logs
    → first_state (starts (slice_get logs i)) ≡ first_state (is_initiator s i)
same_start s logs of_setup i l =
    let at : slice_get logs i ≡ Some (get_or logs i no_log) = slice_get-get_or logs i no_log l in
    ap first_state (ap starts at ∙ of_setup.kinds i (get_or logs i no_log) at)

pub full_run_is_run : (s : Setup) (logs : List Log) (run : List (ℕ × Event)) (end : Configuration) → AreLogsOf s logs
    → IsFullRun s run end → IsRingRun logs run
full_run_is_run s logs run end of_setup full =
    let P : ℕ → Type 0 = λ n. Chains n (opening_of s) run in
    chains_from (length logs) (opening_of s) (ring_opening logs) run (λ i l.
    prev_below (length logs) i l) (same_start s logs of_setup) (λ i l. refl)
    (subst P (sym of_setup.number) (walk_chains s [] (opening_of s) run end full.walk))
