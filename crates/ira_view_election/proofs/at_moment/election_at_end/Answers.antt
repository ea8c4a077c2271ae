use Rattle.ira_view_moment.specs.Moment.{whole_cut}
use Rattle.ira_view_election.proofs.at_moment.election_at_end.Goals as goal

pub returns : goal.returns
returns g c = record {
  moment = c.in_ok-moment.moment;
  of_cut = c.in_ok-moment.ensures;
  stands = c.in_ok-election.ensures.stands;
  names = c.in_ok-election.ensures.names (whole_cut c.args.logs.now) c.in_ok-moment.ensures c.in_ok-rounds.ensures;
}
