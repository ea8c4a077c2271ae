use Rattle.std.proofs.Common.{◌∙◌, ap, inr, sym}
use Rattle.ira_main.specs.LeadersFile.{has_slash}
use Rattle.ira_main.proofs.leaders_file.leaders_file.Goals as goal

pub returns-then-contains : goal.returns-then-contains
returns-then-contains g c =
    inr (
      inr (ap has_slash (sym c.as_bytes.ensures.value) ∙ sym c.contains.ensures.value ∙ c.if-contains.true),
      c.in_ok-given.ensures,
    )
