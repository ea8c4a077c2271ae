use Rattle.std.proofs.Common.{◌≡◌, ◌++◌, ℕ, List, [], ◌∷◌, length, sym, ap, ◌∙◌, append_assoc}
use Rattle.std.proofs.lemmas.Result.{err_from_is_err_and}
use Rattle.std.specs.List.{flat_map}
use Rattle.ira_event.specs.declared.event.Event.{Event}
use Rattle.ira_event.specs.LogText.{record_text, end_text}
use Rattle.ira_event.proofs.Writing.{HasWritten-more, HasWritten-stops, HasWritten-last}
use Rattle.ira_event.proofs.log_writer.write_records_and_end.Goals as goal

-- the line of the first of these events, and then those of the others
next-line : (line : List ℕ) (e : Event) (events others : List Event) (end : List ℕ) → line ≡ record_text e
    → events ≡ e ∷ others → line ++ (flat_map record_text others ++ end) ≡ flat_map record_text events ++ end
next-line line e events others end is first =
    sym (append_assoc line (flat_map record_text others) end)
    ∙ ap (λ w. w ++ end) (ap (λ w. w ++ flat_map record_text others) is
    ∙ ap (λ x. flat_map record_text x) (sym first))

-- the end line, after no event
last-line : (line : List ℕ) (events : List Event) (n count : ℕ) → line ≡ end_text n → n ≡ count → events ≡ []
    → line ≡ flat_map record_text events ++ end_text count
last-line line events n count is same none =
    is ∙ ap (λ x. end_text x) same ∙ ap (λ x. flat_map record_text x ++ end_text count) (sym none)

pub loop-event-preserved : goal.loop-event-preserved
loop-event-preserved g c =
    let end = end_text (length c.args.log.now.events) in
    let text = flat_map record_text c.args.log.now.events ++ end in
    let left = flat_map record_text c.loop-event.event-iterator ++ end in
    let rest = flat_map record_text c.next.new.self ++ end in
    let next = next-line c.add_record.new.line c.in-Some.event c.loop-event.event-iterator c.next.new.self end
    c.add_record.ensures c.in-Some.ensures.steps in
    HasWritten-more text left c.add_record.new.line rest _ _ _ c.loop-event.invariant next c.in_ok-write.ensures

pub returns-in_err-write : goal.returns-in_err-write
returns-in_err-write g c =
    let p = err_from_is_err_and c.from_residual.result c.from_residual.ensures.1 in
    let end = end_text (length c.args.log.now.events) in
    let text = flat_map record_text c.args.log.now.events ++ end in
    let left = flat_map record_text c.loop-event.event-iterator ++ end in
    let rest = flat_map record_text c.next.new.self ++ end in
    let next = next-line c.add_record.new.line c.in-Some.event c.loop-event.event-iterator c.next.new.self end
    c.add_record.ensures c.in-Some.ensures.steps in
    HasWritten-stops _ _ p.1 text left c.add_record.new.line rest _ _ _ c.loop-event.invariant next
    c.in_err-write.ensures

pub returns : goal.returns
returns g c =
    let end = end_text (length c.args.log.now.events) in
    let text = flat_map record_text c.args.log.now.events ++ end in
    let left = flat_map record_text c.loop-event.event-iterator ++ end in
    let last = last-line c.add_end.new.line c.loop-event.event-iterator c.len.result (length c.args.log.now.events)
    c.add_end.ensures c.len.ensures.value c.in-None.ensures.steps.0 in
    HasWritten-last _ text left c.add_end.new.line _ _ _ c.loop-event.invariant last c.write-2.ensures
