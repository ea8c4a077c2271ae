-- What is found of the two sides of a link, load by load.
use Rattle.std.proofs.Common.{◌≡◌, ◌<◌, ◌∙◌, ℕ, List, Option, None, Some, ap, drop, false, get_or, length, subst, sym, take}
use Rattle.std.specs.Prelude.{IfSome, slice_get}
use Rattle.std.proofs.lemmas.List.{take-append-drop}
use Rattle.std.proofs.lemmas.Option.{slice_get-get_or}
use Rattle.ira_event.specs.declared.load.Load.{Load}
use Rattle.ira_event.specs.declared.load.Load.TheVariants.{Msg as Message}
use Rattle.ira_event.specs.Log.{Log}
use Rattle.ira_node.specs.NodeState.{first_state}
use Rattle.ira_node.specs.declared.node_state.NodeState.{NodeState}
use Rattle.ira_order.specs.Matching.{got, sent}
use Rattle.ira_order.specs.Ring.{log_of, next, prev}
use Rattle.ira_order.proofs.Runs.{next_prev}
use Rattle.ira_replay.specs.LocalRun.{LeadsTo}
use Rattle.ira_view_explain.specs.LinkHint.{IsCallMissing, IsNowhere, LeadsAt}
use Rattle.ira_view_explain.specs.RingHint.{IsPassedOn}

-- what stands at no place of a list
abbrev pub no_load : Load
no_load = Message (record { round = 0; id = 0; hop = 0; dirty = false })

pub leads_at : (logs : List Log) (place : ℕ) (log : Log) (n : ℕ) (state : NodeState) → slice_get logs place ≡ Some log
    → LeadsTo log.nodes (first_state log.initiator) (take n log.events) state → LeadsAt logs place state
leads_at logs place log n state is leads =
    (log, is, take n log.events, drop n log.events, sym (take-append-drop n log.events), leads)

-- what isn't among the receipts of a node and was sent to it
pub call_missing : (logs : List Log) (writer before : ℕ) (load : Load) (taken given : List Load) (call : Option Load)
    → writer < length logs → before ≡ prev (length logs) writer → given ≡ sent (log_of logs before)
    → taken ≡ got (log_of logs (next (length logs) before))
    → IfSome call (λ c. IsPassedOn c load × ((i : ℕ) × (slice_get given i ≡ Some c)) × IsNowhere taken c)
    → IfSome call (IsCallMissing logs writer load)
call_missing logs writer before load taken given None there is all none h = tt
call_missing logs writer before load taken given (Some call) there is all none h =
    let here : sent (log_of logs before) ≡ sent (log_of logs (prev (length logs) writer)) =
    ap (λ (i : ℕ). sent (log_of logs i)) is in
    let home : got (log_of logs (next (length logs) before)) ≡ got (log_of logs writer) =
    ap (λ (i : ℕ). got (log_of logs (next (length logs) i))) is
    ∙ ap (λ (i : ℕ). got (log_of logs i)) (next_prev (length logs) writer there) in (
      h.0,
      (h.1.0, subst (λ xs. slice_get xs h.1.0 ≡ Some call) (all ∙ here) h.1.1),
      subst (λ xs. IsNowhere xs call) (none ∙ home) h.2,
    )

pub same_at : (loads : List Load) (i j : ℕ) → i < length loads → j < length loads
    → get_or loads i no_load ≡ get_or loads j no_load → slice_get loads i ≡ slice_get loads j
same_at loads i j first second same =
    slice_get-get_or loads i no_load first ∙ (ap Some same ∙ sym (slice_get-get_or loads j no_load second))
