use Rattle.ira_view.specs.Texts.{texts_of}
use Rattle.ira_view.proofs.Asked.{found_of_asked}
use Rattle.ira_view.proofs.question.explain_asked.Goals as goal

pub returns-clause-found : goal.returns-clause-found
returns-clause-found g c =
    (found_of_asked (texts_of c.args.files.logs.now) c.args.files.question.now.text.now c.args.asked.now
    c.in_ok-findings.findings c.requires c.in_ok-findings.ensures).0
