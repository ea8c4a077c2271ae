use Rattle.std.proofs.Common.{◌∙◌, ap, length}
use Rattle.std.specs.Prelude.{codes}
use Rattle.ira_order.proofs.Bridge.{before_places}
use Rattle.ira_view_page.proofs.Adding.{◌&◌, added_as}
use Rattle.ira_view_page.specs.Numbers.{number_of_text}
use Rattle.ira_view_explain_question.specs.EliminationLines.{links_between}
use Rattle.ira_view_explain_question.proofs.asked_ring.AskedRing.print_by.Goals as goal

pub links_between-requires : goal.links_between-requires
links_between-requires g c =
    let node = (before_places c.args.self.now.asked.now.logs _ _ _ _ c.requires).0 in
    rw (c.get-nodes.ensures.value, c.size.ensures.value, c.logs.ensures.value) node

pub returns : goal.returns
returns g c =
    let e = c.args.elimination in
    let nodes = c.get-nodes.ensures.value ∙ c.size.ensures.value ∙ ap length c.logs.ensures.value in
    let messages = c.links_between.ensures ∙ ap (λ n. links_between n e.node e.other) nodes in
    c.begin.ensures & c.numbered.ensures & c.words.ensures & c.number.ensures & c.print_event.ensures
    & c.words-2.ensures
    & added_as (ap (λ n. number_of_text n (codes "message")) messages) c.number_of.ensures
    & c.end.ensures
