use Rattle.std.proofs.Common.{◌∙◌, ◌&&◌, Bool, nat_eq, nat_lt, rules, tests}
use Rattle.std.proofs.lemmas.Iterator.{YieldsList-from_slice}
use Rattle.std.proofs.lemmas.Iterator.Search.{find_from_yields_List}
use Rattle.ira_order.specs.declared.faulty_event.FaultyEvent.{FaultyEvent}
use Rattle.ira_view_explain.proofs.faulty_link.stop_before.Goals as goal

pub returns : goal.returns
returns c =
    let at = c.in_ok-at.field-0.at in
    let test : FaultyEvent → Bool = λ stop. nat_eq stop.at.place at.place && nat_lt stop.at.position at.position in
    rw c.in_ok-at.was (c.copied.ensures ∙ find_from_yields_List test _ _ c.find.result c.find.ensures.ran
    (YieldsList-from_slice c.args.faulty.now c.iter.ensures.rest) (λ x b q k. search (rules, tests)))
