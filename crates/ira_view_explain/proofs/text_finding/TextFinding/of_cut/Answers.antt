use Rattle.ira_view_explain.proofs.text_finding.TextFinding.of_cut.Goals as goal

pub returns : goal.returns
returns c =
    (c.new-last.result.text, rw (c.new-last.ensures, c.new.ensures) (rw c.new-last.ensures at c.of_cut.ensures))
