use Rattle.std.proofs.Common.{inl, inr, true}
use Rattle.ira_view_moment.specs.Moment.{whole_cut}
use Rattle.ira_view_page.proofs.Adding.{◌&◌, finished}
use Rattle.ira_view_election.specs.Election.{standing_of}
use Rattle.ira_view_show.proofs.Lines.{ok_then}
use Rattle.ira_view_show.specs.Heading.{heading_text}
use Rattle.ira_view_show.specs.MomentText.{TellsMoment}
use Rattle.ira_view_show.proofs.moment_page.show_moment.Goals as goal

pub returns-in-AtEnd : goal.returns-in-AtEnd
returns-in-AtEnd g c =
    let text =
    finished c.finish.result c.new-page.ensures (c.blank.ensures & c.show_summary.ensures & c.show_tables.ensures)
    c.finish.ensures
    in
    rw c.in-AtEnd.is
    (ok_then _ _ c.finish.result
    (λ t is. record {
      moment = c.in_ok-moment-in-AtEnd.moment;
      of_cut = c.in_ok-moment-in-AtEnd.ensures;
      rounds = c.in_ok-rounds-in-AtEnd.rounds;
      drawn = c.in_ok-rounds-in-AtEnd.ensures;
      standing = standing_of c.in_ok-election-in-AtEnd.election;
      stands = c.in_ok-election-in-AtEnd.ensures.stands;
      names = c.in_ok-election-in-AtEnd.ensures.names (whole_cut c.args.logs.now) c.in_ok-moment-in-AtEnd.ensures
          c.in_ok-rounds-in-AtEnd.ensures;
      lines = is;
    })
    text)

pub returns-in-AtCut : goal.returns-in-AtCut
returns-in-AtCut g c =
    let text =
    finished c.finish-in-AtCut.result c.new-page.ensures
    (c.blank.ensures & c.print_heading-in-AtCut.ensures & c.show_tables-in-AtCut.ensures) c.finish-in-AtCut.ensures
    in
    let of_cut = rw c.deref.ensures.value at c.in_ok-moment-in-AtCut.ensures in
    let drawn = rw c.deref-in-AtCut.ensures.value at c.in_ok-rounds-in-AtCut.ensures in
    let tells = ok_then _
    (TellsMoment c.args.logs.now c.in-AtCut.cut.items true (λ _. heading_text c.args.chosen.now))
    c.finish-in-AtCut.result
    (λ t is. record {
      moment = c.in_ok-moment-in-AtCut.moment;
      of_cut = of_cut;
      rounds = c.in_ok-rounds-in-AtCut.rounds;
      drawn = drawn;
      standing = standing_of c.in_ok-election-in-AtCut.election;
      stands = c.in_ok-election-in-AtCut.ensures.stands;
      names = c.in_ok-election-in-AtCut.ensures.names c.in-AtCut.cut.items of_cut drawn;
      lines = is;
    })
    text
    in
    elim c.in-AtCut.is [
      | inl cut ↦ rw cut (rw cut at tells)
      | inr case ↦ rw case.2 (rw case.2 at tells)
    ]
