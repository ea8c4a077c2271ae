-- Nodes that a reset woke.
use Rattle.std.proofs.Common.{◌≡◌, ◌∙◌, ◌+◌, ◌<◌, ◌≤◌, ℕ, Bool, List, Some, ap, arith, false, get_or, length, sym, take, true}
use Rattle.std.specs.List.{list_any}
use Rattle.std.specs.Prelude.{◌&&◌, ◌||◌, count_by, nat_lt, not, slice_get, slice_index}
use Rattle.std.proofs.lemmas.Bool.{le-ltb, lt-ltb}
use Rattle.std.proofs.lemmas.List.{get_or-map, take_all}
use Rattle.std.proofs.lemmas.List.Folds.{list_any_at, list_any_more}
use Rattle.std.proofs.lemmas.Option.{get_or_from_slice_get, slice_get_within}
use Rattle.ira_event.specs.Log.{Log}
use Rattle.ira_view_moment.specs.Moment.{IsMoment, Moment, whole_cut}
use Rattle.ira_view_moment.specs.NodeProgress.{is_draw}
use Rattle.ira_view_moment.specs.declared.node_progress.NodeProgress.{NodeProgress}
use Rattle.ira_view.specs.RunFeatures.{is_woken}

pub begun_awake : (log : Log) → log.initiator ≡ true → is_woken log ≡ false
begun_awake log initiator = ap (λ b. not b && nat_lt 0 (count_by is_draw log.events)) initiator

pub sleeps : (logs : List Log) (i : ℕ) (log : Log) → slice_get logs i ≡ Some log → is_woken log ≡ false
    → list_any is_woken (take i logs) ≡ false → list_any is_woken (take (i + 1) logs) ≡ false
sleeps logs i log at never none =
    list_any_more is_woken logs i log (slice_get_within logs i log at)
    ∙ ap (λ b. b || is_woken (get_or logs i log)) none
    ∙ ap is_woken (get_or_from_slice_get logs i log log at) ∙ never

module _ (logs : List Log) (m : Moment) (i : ℕ) (log : Log) (p : NodeProgress) (is_end : IsMoment logs (whole_cut logs) m)
    (at : slice_get logs i ≡ Some log) (there : slice_get m.nodes i ≡ Some p) where
  -- at the end a node has made all draws of its log
  draws : p.draws ≡ count_by is_draw log.events
  draws =
      let q = is_end.nodes i log p at there in
      let whole : slice_index (whole_cut logs) i ≡ length log.events =
      get_or-map (λ (l : Log). length l.events) logs i log 0 (slice_get_within logs i log at)
      ∙ ap (λ (l : Log). length l.events) (get_or_from_slice_get logs i log log at) in
      q.draws ∙ ap (λ k. count_by is_draw (take k log.events)) whole
      ∙ ap (count_by is_draw) (take_all (length log.events) log.events (omega arith))

  is : {b : Bool} → log.initiator ≡ false → nat_lt 0 p.draws ≡ b → is_woken log ≡ b
  is passive drew =
      ap (λ b. not b && nat_lt 0 (count_by is_draw log.events)) passive ∙ ap (nat_lt 0) (sym draws) ∙ drew

  pub wakes : log.initiator ≡ false → 0 < p.draws → list_any is_woken logs ≡ true
  wakes passive drew =
      list_any_at is_woken logs i log (slice_get_within logs i log at)
      (ap is_woken (get_or_from_slice_get logs i log log at) ∙ is passive (lt-ltb 0 p.draws drew))

  pub never_drew : log.initiator ≡ false → p.draws ≤ 0 → is_woken log ≡ false
  never_drew passive none = is passive (le-ltb 0 p.draws none)
