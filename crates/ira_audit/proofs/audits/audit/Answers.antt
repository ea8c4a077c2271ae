use Rattle.std.proofs.Common.{map}
use Rattle.ira_audit.proofs.audits.audit.Goals as goal

pub returns : goal.returns
returns g c =
    let texts = map (λ t. t.now) c.args.texts.now in
    let is = c.in_ok-judged.ensures texts c.in_ok-of_texts.ensures in
    record {
      answer = λ a. c.check.ensures.answer texts a is;
      reportable = c.check.ensures.reportable texts is;
      yes = c.check.ensures.yes texts is;
    }
