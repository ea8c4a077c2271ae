use Rattle.std.proofs.Common.{◌≡◌, arith, length, rules}
use Rattle.ira_main.proofs.GivenFiles.{of_asked, of_given, of_refused}
use Rattle.ira_main.proofs.answer_files.answer_files.Goals as goal

pub answer_read-requires : goal.answer_read-requires
answer_read-requires g c =
    let h = rw (c.needs_texts.ensures, c.in-Ok.is) at c.in_ok-given.ensures in
    let judged = c.in_ok-judged-in-Ok.ensures h.texts h.found.0 in
    let many = h.many in
    let kept = h.found.1 in (h.texts, judged, search rules, λ needs. rw c.deref-in-Ok-2.ensures.value (h.found.1 needs))

pub returns-in_ok-answer_read-in-Ok : goal.returns-in_ok-answer_read-in-Ok
returns-in_ok-answer_read-in-Ok g c =
    let h = rw (c.needs_texts.ensures, c.in-Ok.is) at c.in_ok-given.ensures in
    let judged = c.in_ok-judged-in-Ok.ensures h.texts h.found.0 in
    let kept = h.found.1 in
    let nodes : c.len.result ≡ length c.in-Ok.given.names.items = omega arith in
    of_given _ _ _ _ _ _ _ c.in-Ok.given _ _ h
    (of_asked _ _ _ _ _ _ _ _ (rw (c.in-Ok-2.is, nodes) at c.in_ok-text-in-Ok.ensures)
    (rw (c.question-question.ensures, c.named_file-certificate.ensures, c.bytes.ensures, c.bytes-in-Ok.ensures, c.deref.ensures.value, c.deref-in-Ok.ensures.value)
    at (c.in_ok-answer_read-in-Ok.ensures h.texts judged (λ needs. rw c.deref-in-Ok-2.ensures.value (h.found.1 needs)))))

pub returns-in-Err-2 : goal.returns-in-Err-2
returns-in-Err-2 g c =
    let h = rw (c.needs_texts.ensures, c.in-Ok.is) at c.in_ok-given.ensures in
    let nodes : c.len.result ≡ length c.in-Ok.given.names.items = omega arith in
    let refused = rw (c.in-Err-2.is, nodes) at c.in_ok-text-in-Ok.ensures in
    of_given _ _ _ _ _ _ _ c.in-Ok.given _ _ h (of_refused _ _ _ _ refused)
