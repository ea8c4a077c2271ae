use Rattle.ira_commands.proofs.OneReply.{checking_has_one_reply, judging_has_one_reply, mending_has_one_reply, upgrading_has_one_reply}
use Rattle.ira_commands.proofs.laws.answers_have_one_reply.Goals as goal

pub returns-clause-judging : goal.returns-clause-judging
returns-clause-judging c = judging_has_one_reply

pub returns-clause-checking : goal.returns-clause-checking
returns-clause-checking c = checking_has_one_reply

pub returns-clause-upgrading : goal.returns-clause-upgrading
returns-clause-upgrading c = upgrading_has_one_reply

pub returns-clause-mending : goal.returns-clause-mending
returns-clause-mending c = mending_has_one_reply
