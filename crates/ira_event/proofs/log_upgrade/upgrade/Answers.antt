use Rattle.std.proofs.Common.{◌≡◌, ◌++◌, [], ap, sym, subst, refl, ◌∙◌, rules}
use Rattle.std.proofs.lemmas.List.{append-nil}
use Rattle.ira_event.specs.Log.{IsLog}
use Rattle.ira_event.specs.LogText.{head_of}
use Rattle.ira_event.proofs.Upgrades.{upgraded_is_log}
use Rattle.ira_event.proofs.log_upgrade.upgrade.Goals as goal

pub of_records-requires : goal.of_records-requires
of_records-requires g c =
    let log = c.args.log.now in
    let none : c.loop-event.event-iterator ≡ [] = search rules in
    let all : c.loop-event.events ≡ log.events =
    sym (append-nil c.loop-event.events) ∙ ap (λ es. c.loop-event.events ++ es) (sym none)
    ∙ c.loop-event.invariant.all in
    let head : c.head.result ≡ head_of log = c.head.ensures in
    subst (λ l. IsLog l) (rw (head, all) refl) (upgraded_is_log log c.len.ensures.valid)
