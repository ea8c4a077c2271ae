-- What was read for a command.
use Rattle.std.proofs.Common.{◌≡◌, ℕ, ◌≢◌, Bool, Err, List, None, Option, Result, Some, inl, inr, length, refl}
use Rattle.std.specs.Borrow.{Bor}
use Rattle.ira_commands.specs.Given.{File, Given}
use Rattle.ira_commands.specs.Reply.{Reply}
use Rattle.ira_main_cli.specs.declared.log_source.LogSource.{LogSource}
use Rattle.ira_main_cli.specs.declared.question_source.QuestionSource.{QuestionSource}
use Rattle.ira_main_files.specs.Shelf.{Reading}
use Rattle.ira_main_files.specs.declared.shelf_fault.ShelfFault.{ShelfFault}
use Rattle.ira_main_files.specs.declared.shelf_fault.ShelfFault.TheVariants as fault
use Rattle.ira_main.specs.Given.{HasAsked, HasGiven, IsRefused, OfFiles, OfSentence, asked_file, named_file, question_file}
use Rattle.ira_main.specs.Given.{sentence_of}
use Rattle.ira_main.specs.declared.given.Given as read

-- a read that failed, of an input that is there, and not for want of memory
pub input_failed : {T P : Type 0} (r : Result T ShelfFault) (f : ShelfFault) → r ≡ Err f → f ≢ fault.OutOfMemory
    → (r ≡ Err fault.Device → P) → r ≢ Err fault.NotFound → P
input_failed r fault.Device is full failed found = failed is
input_failed r fault.NotFound is full failed found = absurd (found is)
input_failed r fault.OutOfMemory is full failed found = absurd (full refl)

-- the reply to what was read
pub of_given : {A S : Type 0} (reads : Reading S) (made : Option (Bor (List ℕ))) (question : Option QuestionSource)
    (certificate : Option (Bor (List ℕ))) (source : LogSource) (shelf : S) (keep : Bool) (given : read.Given A)
    (IsReply : Given → Reply → Type 0) (reply : Reply) (h : HasGiven reads made question certificate source shelf keep given)
    → OfSentence (sentence_of question) IsReply (record {
      question = named_file (question_file question) given.question;
      certificate = named_file certificate given.certificate;
      names = given.names.items;
      texts = h.texts;
    }) reply
    → OfFiles reads made question certificate source shelf IsReply reply
of_given reads made question certificate source shelf keep given IsReply reply h is = record {
  names = given.names.items;
  names_are = h.names_are;
  kept = h.kept;
  asked = given.question;
  certified = given.certificate;
  texts = h.texts;
  given = h.all;
  reply_is = is;
}

-- the reply to what is given with the text of a sentence's question, or with what was read
pub of_asked : (sentence : Option (Bor (List ℕ))) (IsReply : Given → Reply → Type 0) (file certificate : File)
    (text : List ℕ) (names texts : List (List ℕ)) (reply : Reply) → HasAsked sentence (length names) text
    → IsReply (record {
      question = asked_file sentence text file;
      certificate = certificate;
      names = names;
      texts = texts;
    }) reply
    → OfSentence sentence IsReply (record {
      question = file;
      certificate = certificate;
      names = names;
      texts = texts;
    }) reply
of_asked (Some sentence) IsReply file certificate text names texts reply asked is = inl (text, asked, is)
of_asked None IsReply file certificate text names texts reply asked is = is

-- the reply to a sentence that is refused
pub of_refused : (sentence : Option (Bor (List ℕ))) (IsReply : Given → Reply → Type 0) (given : Given) (reply : Reply)
    → IsRefused sentence (length given.names) reply → OfSentence sentence IsReply given reply
of_refused (Some sentence) IsReply given reply refused = inr refused
of_refused None IsReply given reply refused = absurd refused
