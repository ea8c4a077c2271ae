-- What comes of asking for the question of all pairs.
use Rattle.std.specs.Prelude.{◌≡◌, ℕ}
use Rattle.ira_event.specs.RingSize.{IsRingSize}
use Rattle.ira_pred.specs.Pairs.{ArePairCases}
use Rattle.ira_pred.specs.Question.{QuestionCases}
use Rattle.ira_pred.specs.QuestionText.{question_text}
use Rattle.ira_commands.specs.Reply.{Reply, printed, refused}
use Rattle.ira_commands.specs.declared.command_fault.CommandFault.TheVariants.{RingSize}
use Rattle.ira_view.specs.declared.status.Status.TheVariants.{Yes}

-- the question whether two nodes of a ring of so many ever lead at once is printed; or no ring has so many
pub data AsksPairs (nodes : ℕ) (reply : Reply) : Type 0 where
  asked : IsRingSize nodes → (question : QuestionCases) → question.nodes ≡ nodes → ArePairCases nodes question.cases
      → reply ≡ printed Yes (question_text question) → AsksPairs nodes reply
  no_ring : ¬ (IsRingSize nodes) → reply ≡ refused RingSize → AsksPairs nodes reply
