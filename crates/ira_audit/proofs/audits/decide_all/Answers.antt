use Rattle.std.proofs.Common.{map}
use Rattle.ira_audit.proofs.audits.decide_all.Goals as goal

pub returns : goal.returns
returns g c =
    let texts = map (λ t. t.now) c.args.texts.now in
    let is = c.in_ok-judge.ensures texts c.in_ok-of_texts.ensures in
    record {
      refused = λ r. c.decide.ensures.refused texts r is;
      found = c.decide.ensures.found texts is;
      reportable = c.decide.ensures.reportable texts is;
    }
