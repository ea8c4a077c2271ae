-- What the answer of a folder's logs, a file that can't be read, and a sum over runs are as JSON.
use Rattle.std.specs.Prelude.{ℕ, List, Option, Some, None, codes, count_by, length}
use Rattle.json.specs.Json.{Json, Members, member, no_members, object, string}
use Rattle.ira_audit.specs.declared.answer.Answer.{Answer}
use Rattle.ira_view_json.specs.AnswerValue.{answer_members}
use Rattle.ira_view_json.specs.Members.{natural, with_words}
use Rattle.ira_view_json.specs.declared.run_features.RunFeatures.{RunFeatures}

-- an answer, the status that goes with it, and the folder of the logs
abbrev pub folder_answer_value : List ℕ → ℕ → Answer → Json
folder_answer_value folder status answer = object (with_words (codes "dir") folder (answer_members status answer))

-- a file that can't be read, and the status that goes with it
abbrev pub unread_members : List ℕ → ℕ → Members
unread_members file status =
    member (codes "fault") (string (codes "cannot read"))
    (member (codes "file") (string file)
    (member (codes "status") (natural status)
    (member (codes "type") (string (codes "fault"))
    (member (codes "version") (natural 1) no_members))))

-- the folder, where one is given
abbrev pub with_folder : Option (List ℕ) → Members → Members
with_folder (Some folder) members = with_words (codes "dir") folder members
with_folder None members = members

abbrev pub unread_value : Option (List ℕ) → List ℕ → ℕ → Json
unread_value folder file status = object (with_folder folder (unread_members file status))

-- how many runs there are, and how many of them had what
abbrev pub sum_value : List RunFeatures → Json
sum_value runs = object
    (member (codes "dropped") (natural (count_by (λ run. run.dropped) runs))
    (member (codes "runs") (natural (length runs))
    (member (codes "second_round") (natural (count_by (λ run. run.second_round) runs))
    (member (codes "second_term") (natural (count_by (λ run. run.second_term) runs))
    (member (codes "tie") (natural (count_by (λ run. run.tie) runs))
    (member (codes "type") (string (codes "sum"))
    (member (codes "wake_up") (natural (count_by (λ run. run.wake_up) runs)) no_members)))))))
