-- What comes of asking for the question that a sentence stands for.
use Rattle.std.specs.Prelude.{◌≡◌, ℕ, List}
use Rattle.ira_ask.specs.SentenceAnswer.{IsAsked, IsSentenceFault}
use Rattle.ira_ask.specs.declared.sentence_fault.SentenceFault.{SentenceFault}
use Rattle.ira_event.specs.RingSize.{IsRingSize}
use Rattle.ira_pred.specs.Question.{QuestionCases}
use Rattle.ira_pred.specs.QuestionText.{question_text}
use Rattle.ira_commands.specs.Reply.{Reply, printed, refused, with_files}
use Rattle.ira_commands.specs.Reply.MadeFiles.{one_text}
use Rattle.ira_commands.specs.declared.command_fault.CommandFault.TheVariants.{NoSentence, RingSize}
use Rattle.ira_view.specs.declared.status.Status.TheVariants.{Yes}
use Rattle.ira_view_page.specs.Printable.{IsPrintable}

-- the text is that of the question of the sentence, where a ring has so many nodes
abbrev pub IsAskedText : ℕ → List ℕ → List ℕ → Type 0
IsAskedText nodes sentence text = IsRingSize nodes
    → (question : QuestionCases) × IsAsked nodes sentence question × (text ≡ question_text question)

-- the sentence has no question, and is refused for that; the only file is for a person, of where it goes on as none does
abbrev pub RefusesSentence : ℕ → List ℕ → Reply → Type 0
RefusesSentence nodes sentence reply =
    (fault : SentenceFault) × IsSentenceFault nodes sentence fault × (page : List ℕ) × IsPrintable page
    × (reply ≡ with_files (refused (NoSentence fault)) (one_text page))

-- the question of the sentence for a ring of so many nodes is printed; or the text has none; or no ring has so many
pub data AsksSentence (nodes : ℕ) (sentence : List ℕ) (reply : Reply) : Type 0 where
  asked : IsRingSize nodes → (question : QuestionCases) → IsAsked nodes sentence question
      → reply ≡ printed Yes (question_text question) → AsksSentence nodes sentence reply
  no_question : IsRingSize nodes → RefusesSentence nodes sentence reply → AsksSentence nodes sentence reply
  no_ring : ¬ (IsRingSize nodes) → reply ≡ refused RingSize → AsksSentence nodes sentence reply
