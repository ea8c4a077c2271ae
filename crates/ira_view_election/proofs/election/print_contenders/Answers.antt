use Rattle.ira_view_page.proofs.Adding.{◌&◌, added_as}
use Rattle.ira_view_election.proofs.Lines.{one_named, several_named}
use Rattle.ira_view_election.proofs.election.print_contenders.Goals as goal

pub returns-in-len1 : goal.returns-in-len1
returns-in-len1 g c =
    added_as (one_named c.args.contenders.now c.in-len1.len_at_least c.in-len1.len_below)
    (c.words.ensures & c.number.ensures & c.words-in-len1.ensures)

pub returns-in_default : goal.returns-in_default
returns-in_default g c =
    added_as (several_named c.args.contenders.now c.in_default.len_at_least)
    (c.words-in_default.ensures & c.places.ensures & c.words-in_default-2.ensures)
