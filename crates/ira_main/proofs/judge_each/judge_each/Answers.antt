use Rattle.std.proofs.Common.{◌≡◌, ◌<◌, ◌∙◌, Err, ap, arith, length, rules, sym}
use Rattle.std.proofs.lemmas.List.{length-append, length-drop, nil_from_length}
use Rattle.std.proofs.lemmas.Result.{err_from_is_err_and}
use Rattle.std.specs.List.{filter_map}
use Rattle.ira_event.proofs.Writing.{Takes-append}
use Rattle.ira_main.proofs.Folders.{more_told, stops_next, stops_summing, told_next, told_none, told_whole}
use Rattle.ira_main.specs.Each.{IsTold}
use Rattle.ira_main.specs.Each.TellsEach.{no_memory, told}
use Rattle.ira_main.specs.FolderText.{features_of}
use Rattle.ira_main.proofs.judge_each.judge_each.Goals as goal

pub returns-in_err-clone : goal.returns-in_err-clone
returns-in_err-clone g c =
    let none = told_none (IsTold g.row.A.Denot g.F.TextSource.reads c.args.asked.form
    c.args.asked.expected.now c.args.asked.detail c.args.asked.is_summed c.args.shelf.now) c.args.folders.now (g.W.Sink.state c.args.out.now) in
    no_memory none.0 _ none.1 none.2 none.3 (search rules)

pub loop-answers-init : goal.loop-answers-init
loop-answers-init g c = rw c.new-answers.ensures.items (told_none _ _ _)

pub returns-in_err-tell_some : goal.returns-in_err-tell_some
returns-in_err-tell_some g c =
    let p = err_from_is_err_and c.from_residual-in_err-tell_some.result c.from_residual-in_err-tell_some.ensures.1 in
    let before = c.loop-answers.invariant in
    let here : c.len-in-loop-answers.result ≡ length c.loop-answers.answers.items = omega arith in
    let few : length c.loop-answers.answers.items < length c.args.folders.now = omega (arith, c.loop-answers-test.true) in
    stops_next _ _ _ _ before.0 before.2 c.thread_count-size.result _ _ _ _ _ _ _ here few c.chunk_from-some.ensures
    before.3 c.in_err-tell_some.ensures (p.1 ∙ ap (λ f. Err f) p.2)

pub returns-in_err-append : goal.returns-in_err-append
returns-in_err-append g c =
    let before = c.loop-answers.invariant in
    let here : c.len-in-loop-answers.result ≡ length c.loop-answers.answers.items = omega arith in
    let few : length c.loop-answers.answers.items < length c.args.folders.now = omega (arith, c.loop-answers-test.true) in
    let more = rw (c.chunk_from-some.ensures, here) at c.in_ok-tell_some.ensures in
    let next = told_next _ _ _ _ before.0 before.2 c.thread_count-size.result _ more.0 few more.1 in
    no_memory _ _ _ next (Takes-append _ _ _ _ _ before.3 more.2) (search rules)

pub loop-answers-smaller : goal.loop-answers-smaller
loop-answers-smaller g c =
    let before = c.loop-answers.invariant in
    let here : c.len-in-loop-answers.result ≡ length c.loop-answers.answers.items = omega arith in
    let few : length c.loop-answers.answers.items < length c.args.folders.now = omega (arith, c.loop-answers-test.true) in
    let more = rw (c.chunk_from-some.ensures, here) at c.in_ok-tell_some.ensures in
    let many = more_told _ _ _ _ before.0 before.2 c.thread_count-size.result _ more.0 more.1 in
    let room = length-drop (length c.loop-answers.answers.items) c.args.folders.now in
    let longer = ap length c.in_ok-append.ensures.items ∙ length-append c.loop-answers.answers.items c.in_ok-tell_some.field-0.items in
    omega (arith, many, room, few, longer, c.thread_count-size.ensures)

pub loop-answers-preserved : goal.loop-answers-preserved
loop-answers-preserved g c =
    let before = c.loop-answers.invariant in
    let here : c.len-in-loop-answers.result ≡ length c.loop-answers.answers.items = omega arith in
    let few : length c.loop-answers.answers.items < length c.args.folders.now = omega (arith, c.loop-answers-test.true) in
    let more = rw (c.chunk_from-some.ensures, here) at c.in_ok-tell_some.ensures in
    let next = told_next _ _ _ _ before.0 before.2 c.thread_count-size.result _ more.0 few more.1 in
    rw c.in_ok-append.ensures.items (_, _, next, Takes-append _ _ _ _ _ before.3 more.2)

pub returns-in_err-clone-2 : goal.returns-in_err-clone-2
returns-in_err-clone-2 g c =
    let before = c.loop-answers.invariant in no_memory before.0 _ before.1 before.2 before.3 (search rules)

pub returns-in_err-runs : goal.returns-in_err-runs
returns-in_err-runs g c =
    let before = c.loop-answers.invariant in no_memory before.0 _ before.1 before.2 before.3 (search rules)

pub returns-in_err-clone-3 : goal.returns-in_err-clone-3
returns-in_err-clone-3 g c =
    let before = c.loop-answers.invariant in no_memory before.0 _ before.1 before.2 before.3 (search rules)

pub returns-in_err-unread : goal.returns-in_err-unread
returns-in_err-unread g c =
    let before = c.loop-answers.invariant in no_memory before.0 _ before.1 before.2 before.3 (search rules)

pub returns-in_err-write_sum : goal.returns-in_err-write_sum
returns-in_err-write_sum g c =
    let p = err_from_is_err_and c.from_residual-in_err-write_sum.result c.from_residual-in_err-write_sum.ensures.1 in
    let before = c.loop-answers.invariant in
    let runs = c.deref-3.ensures.value ∙ c.in_ok-runs.ensures ∙ ap (filter_map features_of) c.deref-2.ensures.value in
    stops_summing _ _ _ _ before.0 before.2 _ _ _ _ _ _ runs (omega (arith, c.loop-answers-test.false)) before.3
    c.in_err-write_sum.ensures (p.1 ∙ ap (λ f. Err f) p.2)

pub returns-then-is_empty : goal.returns-then-is_empty
returns-then-is_empty g c =
    let before = c.loop-answers.invariant in
    let sum = rw (c.deref-3.ensures.value, c.in_ok-runs.ensures, c.deref-2.ensures.value) at c.in_ok-write_sum.ensures in
    told _ _ sum.0 (told_whole _ _ _ _ before.0 before.2 (omega (arith, c.loop-answers-test.false))) sum.1
    (Takes-append _ _ _ _ _ before.3 sum.2) (sym c.in_ok-unread.ensures ∙ nil_from_length _ (search rules), (search rules))

pub returns : goal.returns
returns g c =
    let before = c.loop-answers.invariant in
    let sum = rw (c.deref-3.ensures.value, c.in_ok-runs.ensures, c.deref-2.ensures.value) at c.in_ok-write_sum.ensures in
    told _ _ sum.0 (told_whole _ _ _ _ before.0 before.2 (omega (arith, c.loop-answers-test.false))) sum.1
    (Takes-append _ _ _ _ _ before.3 sum.2) ((search rules), (search rules))
