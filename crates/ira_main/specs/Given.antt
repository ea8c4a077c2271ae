-- What a command is given: a question, of a file or of a sentence, and a certificate, where they are named, and logs.
use Rattle.std.specs.Prelude.{◌≡◌, ◌⊎◌, ⊤, ℕ, Bool, List, [], ◌∷◌, ◌++◌, Option, Some, None, codes, length}
use Rattle.std.specs.Borrow.{Bor}
use Rattle.ira_commands.specs.Ask.{IsAskedText, RefusesSentence}
use Rattle.ira_commands.specs.Given.{File, Given}
use Rattle.ira_commands.specs.Reply.{Reply}
use Rattle.ira_main_cli.specs.declared.log_source.LogSource.{LogSource}
use Rattle.ira_main_cli.specs.declared.question_source.QuestionSource.{QuestionSource}
use Rattle.ira_main_cli.specs.declared.question_source.QuestionSource.TheVariants as source
use Rattle.ira_main_files.specs.Shelf.{Reading}
use Rattle.ira_main.specs.FilesRead.{HasFound, ReadsFiles, Stops}
use Rattle.ira_main.specs.Overwriting.{KeepsFiles, ReplacesInput, input_names}
use Rattle.ira_main.specs.SourceNames.{HasNames, IsNamesFault}
use Rattle.ira_main.specs.declared.given.Given as read
use Rattle.ira_main.specs.declared.file_fault.FileFault.{FileFault}
use Rattle.ira_main.specs.declared.file_fault.FileFault.TheVariants.{WouldOverwrite}

-- no file is at fault
abbrev pub HasNoFault : {A : Type 0} → FileFault A → Type 0
HasNoFault fault = ⊥

-- the file that is named, if one is, and its text
abbrev pub named : Option (Bor (List ℕ)) → List (List ℕ)
named (Some name) = name.now ∷ []
named None = []

abbrev pub named_text : Option (Bor (List ℕ)) → List ℕ → List (List ℕ)
named_text (Some name) text = text ∷ []
named_text None text = []

-- the file that is named, with this text; where none is named it has no name
abbrev pub named_file : Option (Bor (List ℕ)) → List ℕ → File
named_file (Some name) text = record { name = name.now; text = text }
named_file None text = record { name = []; text = text }

-- the file that the question is read of, if it is one's
abbrev pub question_file : Option QuestionSource → Option (Bor (List ℕ))
question_file (Some (source.File name)) = Some name
question_file other = None

-- the sentence that stands for it, if it is one's
abbrev pub sentence_of : Option QuestionSource → Option (Bor (List ℕ))
sentence_of (Some (source.Sentence sentence)) = Some sentence
sentence_of other = None

-- this comes of what is given; where there is a sentence, with its question for a ring of as many nodes as there are logs, or
-- it has none and is refused
abbrev pub OfSentence : Option (Bor (List ℕ)) → (Given → Reply → Type 0) → Given → Reply → Type 0
OfSentence None IsReply given reply = IsReply given reply
OfSentence (Some sentence) IsReply given reply =
    ((text : List ℕ) × IsAskedText (length given.names) sentence.now text
    × IsReply (record given { question = record { name = codes "--ask"; text = text } }) reply)
    ⊎ RefusesSentence (length given.names) sentence.now reply

-- the file that is made, if there is one, is none of those that are read; all of these were read, and this reply comes of it
pub record OfFiles {S : Type 0} (reads : Reading S) (made : Option (Bor (List ℕ))) (question : Option QuestionSource)
    (certificate : Option (Bor (List ℕ))) (source : LogSource) (shelf : S) (IsReply : Given → Reply → Type 0)
    (reply : Reply) : Type 0 where
  pub names : List (List ℕ)
  pub names_are : HasNames reads shelf source names
  pub kept : KeepsFiles reads shelf made (input_names (question_file question) names)
  pub asked : List ℕ
  pub certified : List ℕ
  pub texts : List (List ℕ)
  pub given : ReadsFiles reads shelf (named (question_file question) ++ named certificate ++ names)
      (named_text (question_file question) asked ++ named_text certificate certified ++ texts) None
  pub reply_is : OfSentence (sentence_of question) IsReply (record {
    question = named_file (question_file question) asked;
    certificate = named_file certificate certified;
    names = names;
    texts = texts;
  }) reply

-- why nothing comes of what is read: there are no names of logs; or the file that is made is one of those that are read, or
-- one of these can't be read
abbrev pub IsUnread : {A S : Type 0} → Reading S → Option (Bor (List ℕ)) → Option QuestionSource → Option (Bor (List ℕ))
    → LogSource → S → FileFault A → Type 0
IsUnread reads made question certificate source shelf fault =
    IsNamesFault reads shelf source fault
    ⊎ ((names : List (List ℕ)) × HasNames reads shelf source names
    × (((name : List ℕ) × ReplacesInput reads shelf made (input_names (question_file question) names) name
    × (fault ≡ WouldOverwrite name))
    ⊎ Stops reads shelf (named (question_file question) ++ named certificate ++ names) fault))

-- ---- Helpers, no definitions.

-- what a command reads was read
pub record HasGiven {A S : Type 0} (reads : Reading S) (made : Option (Bor (List ℕ))) (question : Option QuestionSource)
    (certificate : Option (Bor (List ℕ))) (source : LogSource) (shelf : S) (keep : Bool) (given : read.Given A)
    : Type 0 where
  pub names_are : HasNames reads shelf source given.names.items
  pub kept : KeepsFiles reads shelf made (input_names (question_file question) given.names.items)
  pub texts : List (List ℕ)
  pub many : length texts ≡ length given.names.items
  pub found : HasFound keep given.logs texts
  pub all : ReadsFiles reads shelf (named (question_file question) ++ named certificate ++ given.names.items)
      (named_text (question_file question) given.question ++ named_text certificate given.certificate ++ texts) None

-- the text is that of the question of the sentence, if there is one; or that is refused
abbrev pub HasAsked : Option (Bor (List ℕ)) → ℕ → List ℕ → Type 0
HasAsked (Some sentence) nodes text = IsAskedText nodes sentence.now text
HasAsked None nodes text = ⊤

abbrev pub IsRefused : Option (Bor (List ℕ)) → ℕ → Reply → Type 0
IsRefused (Some sentence) nodes reply = RefusesSentence nodes sentence.now reply
IsRefused None nodes reply = ⊥

-- the question of this text, if there is a sentence, and else this file
abbrev pub asked_file : Option (Bor (List ℕ)) → List ℕ → File → File
asked_file (Some sentence) text file = record { name = codes "--ask"; text = text }
asked_file None text file = file
