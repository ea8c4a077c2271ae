use Rattle.std.proofs.Common.{◌≡◌, ◌≤◌, ◌∙◌, ap, arith, false, length, nat_eq, sym}
use Rattle.std.specs.List.{enumerate_from, flat_map}
use Rattle.std.proofs.lemmas.Bool.Decides.{nat_tests}
use Rattle.std.proofs.lemmas.List.{take_all}
use Rattle.std.proofs.lemmas.List.FromFn.{length-enumerate_from}
use Rattle.ira_order.specs.Ring.{next}
use Rattle.ira_view_moment.specs.Totals.{capped_sum}
use Rattle.ira_view_show.specs.Way.{link_text, numbered_link_text}
use Rattle.ira_view_page.proofs.Adding.{◌&◌, added_as, added_at, element_at}
use Rattle.ira_view_show.proofs.Parts.{some_way}
use Rattle.ira_view_show.proofs.way.show_way.Goals as goal

pub loop-link-preserved : goal.loop-link-preserved
loop-link-preserved g c =
    let links = c.args.moment.now.links in
    let link = c.loop-link.link in
    let loads = c.on_link.result.now in
    let size = c.size-size.ensures.value ∙ sym c.size-size.ensures.links in
    let reader = c.successor.ensures.value ∙ ap (λ n. next n link) size in
    added_at (numbered_link_text (length links)) (enumerate_from 0 links) link (link, loads)
    (element_at links link loads c.on_link.ensures) c.loop-link.invariant
    (added_as (ap (λ r. link_text link r loads) reader) c.show_link.ensures)

pub returns : goal.returns
returns g c =
    let links = c.args.moment.now.links in
    let link = c.loop-link.link in
    let all = enumerate_from 0 links in
    let some : nat_eq (capped_sum length links) 0 ≡ false =
    grind (arith, nat_tests, c.number_on_the_way.ensures, c.if-number_on_the_way-eq0.false) in
    let count : length all ≤ link =
    omega (
      arith,
      length-enumerate_from 0 links,
      c.loop-link-test.false,
      c.size-size.ensures.value,
      c.size-size.ensures.links,
    ) in
    let lines = ap (flat_map (numbered_link_text (length links))) (take_all link all count) in
    added_as (some_way links some) (c.line-2.ensures & added_as lines c.loop-link.invariant)
