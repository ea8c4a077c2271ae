use Rattle.std.proofs.Common.{◌≡◌, ◌∙◌, ◌++◌, List, ℕ, ap, false, true}
use Rattle.ira_event.specs.Sink.{Memory}
use Rattle.ira_view.specs.declared.status.Status.{Status}
use Rattle.ira_commands.specs.Explain.ExplainsAll.{alone, goes_on}
use Rattle.ira_commands.specs.Reply.{Reply, printed}
use Rattle.ira_commands.proofs.explain.explain_all.Goals as goal
use Rattle.ira_commands.proofs.explain.explain_all.Goals.{else-goes_on, then-goes_on+in_ok-write_begun}

-- what is printed, after a sink took it
told : (reply : Reply) (status other : Status) (bytes text : List ℕ) → reply ≡ printed status bytes → status ≡ other
    → bytes ≡ text → reply ≡ printed other text
told reply status other bytes text is same so =
    is ∙ ap (λ (s : Status). printed s bytes) same ∙ ap (λ (t : List ℕ). printed other t) so

pub returns : goal.returns
returns g c =
    let answer = c.in_ok-answer.answer in
    let wrote = c.in_ok-answer.ensures.text in
    let first : c.write_explained.new.text.bytes ≡ wrote.0 = wrote.2
    ∙ ap (λ (m : Memory). m.bytes ++ wrote.0) c.new-text.ensures in
    elim c.if-goes_on.branch [
      | then-goes_on+in_ok-write_begun w ↦
          let more = w.in_ok-write_begun.ensures in
          goes_on answer wrote.0 more.0 wrote.1 (c.goes_on.ensures.0 w.if-goes_on.true) more.1
          (told c.printed.result c.of_answer.result _ c.if-goes_on.text.bytes (wrote.0 ++ more.0) c.printed.ensures
          c.of_answer.ensures (ap (λ (m : Memory). m.bytes) w.text-is ∙ more.2
          ∙ ap (λ (t : List ℕ). t ++ more.0) first))
      | else-goes_on w ↦
          alone answer wrote.0 wrote.1
          (λ on. (let yes : c.goes_on.result ≡ true = c.goes_on.ensures.1 on in
          let no : c.goes_on.result ≡ false = w.if-goes_on.false in cc))
          (told c.printed.result c.of_answer.result _ c.if-goes_on.text.bytes wrote.0 c.printed.ensures
          c.of_answer.ensures (ap (λ (m : Memory). m.bytes) w.text-is ∙ first))
    ]
