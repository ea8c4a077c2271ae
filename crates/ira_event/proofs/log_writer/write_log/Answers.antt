use Rattle.std.proofs.Common.{◌≡◌, ◌++◌, ℕ, List, length, refl, sym, ap, ◌∙◌, append_assoc}
use Rattle.std.proofs.lemmas.Result.{err_from_is_err_and}
use Rattle.std.specs.List.{flat_map}
use Rattle.ira_event.specs.Log.{Log}
use Rattle.ira_event.specs.LogText.{record_text, head_of, head_text, end_text, log_text}
use Rattle.ira_event.specs.declared.log_head.LogHead.{LogHead}
use Rattle.ira_event.proofs.Writing.{HasWritten-start, HasWritten-more, HasWritten-stops, HasWritten-last}
use Rattle.ira_event.proofs.log_writer.write_log.Goals as goal

-- what follows the head of a log's text
abbrev body_text : Log → List ℕ
body_text log = flat_map record_text log.events ++ end_text (length log.events)

head-then-body : (log : Log) (line : List ℕ) (head : LogHead) → line ≡ head_text head → head ≡ head_of log
    → line ++ body_text log ≡ log_text log
head-then-body log line head e a =
    sym (append_assoc line (flat_map record_text log.events) (end_text (length log.events)))
    ∙ ap (λ w. w ++ flat_map record_text log.events ++ end_text (length log.events)) (e ∙ ap head_text a)

pub returns-in_err-write : goal.returns-in_err-write
returns-in_err-write g c =
    let log = c.args.log.now in
    let p = err_from_is_err_and c.from_residual.result c.from_residual.ensures.1 in
    let whole = head-then-body log c.head-2.result c.head.result c.head-2.ensures c.head.ensures in
    HasWritten-stops _ _ p.1 (log_text log) (log_text log) c.head-2.result (body_text log) _ _ _
    (HasWritten-start (log_text log) _) whole c.in_err-write.ensures

pub returns : goal.returns
returns g c =
    let log = c.args.log.now in
    let whole = head-then-body log c.head-2.result c.head.result c.head-2.ensures c.head.ensures in
    HasWritten-last _ (log_text log) (body_text log) (body_text log) _ _ _
    (HasWritten-more (log_text log) (log_text log) c.head-2.result (body_text log) _ _ _
    (HasWritten-start (log_text log) _) whole c.in_ok-write.ensures) refl c.write_records_and_end.ensures
