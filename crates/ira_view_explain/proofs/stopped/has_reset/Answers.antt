use Rattle.std.proofs.Common.{List, rules, tests}
use Rattle.std.proofs.lemmas.Iterator.Consumers.{YieldsList-from_first}
use Rattle.std.proofs.lemmas.Iterator.Search.{any_from_yields_List}
use Rattle.ira_event.specs.declared.event.Event.{Event}
use Rattle.ira_view_explain.specs.StopHint.{is_of_reset}
use Rattle.ira_view_explain.proofs.stopped.has_reset.Goals as goal

pub returns : goal.returns
returns g c = any_from_yields_List is_of_reset _ _ _ c.any.ensures.ran
    (YieldsList-from_first (λ (e : Event). e) (λ (es : List Event). es) c.args.log.now.events c.events.ensures.list)
    (λ x b q k. search (rules, tests))
