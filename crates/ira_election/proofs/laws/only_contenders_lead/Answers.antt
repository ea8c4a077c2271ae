use Rattle.ira_election.proofs.Contenders.{only_contenders_lead}
use Rattle.ira_election.proofs.laws.only_contenders_lead.Goals as goal

pub returns : goal.returns
returns c = only_contenders_lead
