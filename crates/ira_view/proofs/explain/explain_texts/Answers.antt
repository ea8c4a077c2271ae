use Rattle.std.proofs.Common.{refl}
use Rattle.ira_view.specs.Texts.{texts_of}
use Rattle.ira_view.proofs.explain.explain_texts.Goals as goal
use Rattle.ira_view.proofs.explain.explain_texts.Goals.{in-Good+in_ok-clone-in-Good+in_ok-election-in-Good+in_ok-explanation-in-Good as in-Good, in-Refused, in-NoRing}

pub returns-clause-answer : goal.returns-clause-answer
returns-clause-answer g c =
    (c.answer-answer.ensures.answer (texts_of c.args.texts.now) c.answer-answer.result c.requires).0 refl

pub returns-clause-reportable : goal.returns-clause-reportable
returns-clause-reportable g c = c.answer-answer.ensures.reportable (texts_of c.args.texts.now) c.requires

pub returns-clause-explained : goal.returns-clause-explained
returns-clause-explained g c =
    let told = c.in_ok-explanation.ensures in
    elim c.match-judged.branch [
      | in-Good w ↦
          (let stands = rw w.logs.ensures.value at w.in_ok-election-in-Good.ensures in
          rw (w.explanation-is, w.election-is) (record {
            ring = told.ring;
            told = told.told;
            election = rw w.in-Good.is (stands, w.in_ok-explanation-in-Good.ensures);
          }))
      | in-Refused w ↦
          rw (w.explanation-is, w.election-is)
          (record { ring = told.ring; told = told.told; election = rw w.in-Refused.is refl })
      | in-NoRing w ↦
          rw (w.explanation-is, w.election-is)
          (record { ring = told.ring; told = told.told; election = rw w.in-NoRing.is refl })
    ]
