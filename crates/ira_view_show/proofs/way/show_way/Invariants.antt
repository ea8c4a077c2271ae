use Rattle.std.proofs.Common.{length, take}
use Rattle.std.specs.List.{enumerate_from, flat_map}
use Rattle.ira_view_page.specs.Page.{Added}
use Rattle.ira_view_show.specs.Way.{numbered_link_text}
use Rattle.ira_view_show.proofs.way.show_way.Given as goal

abbrev pub invariant-loop-link : goal.invariant-loop-link
invariant-loop-link g l =
    Added l.initial.page
    (flat_map (numbered_link_text (length l.moment.links)) (take l.link (enumerate_from 0 l.moment.links))) l.page
