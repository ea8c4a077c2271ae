use Rattle.ira_web.proofs.Written.{adds_none}
use Rattle.ira_web.proofs.told.Told.add_files.Goals as goal

pub returns-in-Nothing : goal.returns-in-Nothing
returns-in-Nothing g c = rw c.in-Nothing.is (adds_none c.args.self.now)

pub returns-in-Text : goal.returns-in-Text
returns-in-Text g c = rw c.in-Text.is (rw c.bytes.ensures at c.add_text.ensures)

pub returns-in-Page : goal.returns-in-Page
returns-in-Page g c = rw c.in-Page.is (rw c.bytes-in-Page.ensures.text at c.add_text-in-Page.ensures)

pub returns-in-Logs : goal.returns-in-Logs
returns-in-Logs g c = rw c.in-Logs.is c.add_logs.ensures

pub returns-in-Run : goal.returns-in-Run
returns-in-Run g c = rw c.in-Run.is (rw c.logs.ensures.value at c.add_logs-in-Run.ensures)
