use Rattle.ira_view_page.proofs.Adding.{◌&◌}
use Rattle.ira_view_draw.proofs.highlight.write_receipt.Goals as goal

pub returns-in-NoSending-fault : goal.returns-in-NoSending-fault
returns-in-NoSending-fault g c =
    (_, c.words.ensures & c.number.ensures & c.words-in-NoSending-fault.ensures)

pub returns-in-Differs : goal.returns-in-Differs
returns-in-Differs g c = (_, c.words.ensures & c.number.ensures & c.words-in-Differs.ensures)
