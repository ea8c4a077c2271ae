-- What comes of judging logs.
use Rattle.std.specs.Prelude.{◌≡◌, ℕ, List}
use Rattle.ira_audit.specs.LogTextAnswer.{IsLogTextAnswer}
use Rattle.ira_audit.specs.RingAnswer.{IsRingAnswer}
use Rattle.ira_audit.specs.TextRuns.{AreTextsOfRuns}
use Rattle.ira_audit.specs.declared.answer.Answer.{Answer}
use Rattle.ira_audit.specs.declared.answer.Answer.TheVariants.{Yes}
use Rattle.ira_commands.specs.Reply.{Reply, Telling}

-- the answer of the text of one log alone is told
pub record JudgesLog (Tells : Telling) (text : List ℕ) (reply : Reply) : Type 0 where
  pub answer : Answer
  pub judged : IsLogTextAnswer text answer
  pub told : Tells answer reply

-- the answer of the texts of a ring's logs is told, which after a yes are texts of runs
pub record JudgesLogs (Tells : Telling) (texts : List (List ℕ)) (reply : Reply) : Type 0 where
  pub answer : Answer
  pub judged : IsRingAnswer texts answer
  pub runs : answer ≡ Yes → AreTextsOfRuns texts
  pub told : Tells answer reply
