use Rattle.std.proofs.Common.{◌∙◌, List, ap, length, subst, sym, ℕ}
use lib.ListN.{length-map}
use Rattle.ira_view.specs.Texts.{AreFiles}
use Rattle.ira_main.proofs.answer_files.answer_read.Goals as goal

pub answer-requires-clause-judged : goal.answer-requires-clause-judged
answer-requires-clause-judged g c = (c.requires.0, c.requires.1, c.in_ok-paths.ensures ∙ sym c.requires.2)

pub returns : goal.returns
returns g c = λ given judged kept.
    c.answer.ensures c.args.names.now given judged (λ needs.
    let many = sym (length-map c.args.texts.now (λ text. text.items)) ∙ ap length (c.requires.3 needs) ∙ c.requires.2 in
    rw c.deref.ensures.value (subst (λ (ts : List (List ℕ)). AreFiles c.args.names.now ts c.in_ok-logs.logs.items) (kept needs)
    (c.in_ok-logs.ensures many)))
