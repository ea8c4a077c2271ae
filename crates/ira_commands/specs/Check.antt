-- What comes of checking a certificate.
use Rattle.std.specs.Prelude.{◌≡◌, ℕ, List}
use Rattle.ira_audit.specs.CheckAnswer.{IsCheckAnswer}
use Rattle.ira_audit.specs.Never.{NoCaseIsMet}
use Rattle.ira_audit.specs.declared.answer.Answer.{Answer}
use Rattle.ira_audit.specs.declared.answer.Answer.TheVariants.{Yes}
use Rattle.ira_commands.specs.Reply.{Reply, Telling}

-- the answer of the texts of a question, of a certificate and of a ring's logs is told; after a yes no case of the question
-- is met
pub record ChecksTexts (Tells : Telling) (question certificate : List ℕ) (texts : List (List ℕ)) (reply : Reply)
    : Type 0 where
  pub answer : Answer
  pub judged : IsCheckAnswer texts question certificate answer
  pub never : answer ≡ Yes → NoCaseIsMet texts question certificate
  pub told : Tells answer reply
