use Rattle.std.proofs.Common.{◌≡◌, ◌<◌, ◌≤◌, ◌⊎◌, refl, sym, ap, subst, ◌∙◌, arith, inr, length, ℕ, Vec}
use Rattle.std.specs.Prelude.{codes}
use Rattle.std.proofs.lemmas.Result.{err_from_is_err_and}
use Rattle.ira_ask.specs.declared.sentence_fault.SentenceFault.TheVariants.{OutOfMemory}
use Rattle.ira_ask.specs.AskedTexts.{Writes, asked_of}
use Rattle.ira_ask.specs.Choices.{choices}
use Rattle.ira_ask.specs.SentenceAnswer.{IsSentenceFault, many_cases}
use Rattle.ira_ask.proofs.Answering.{answered, clauses_of, deep_fault, stop_fault}
use Rattle.ira_ask.proofs.Taking.{no_word}
use Rattle.ira_ask.proofs.question.ask.Goals as goal

pub returns-in_err-sentence : goal.returns-in_err-sentence
returns-in_err-sentence g c =
    let p = err_from_is_err_and c.from_residual.result c.from_residual.ensures.1 in
    let short : length c.args.sentence.now ≤ 65536 = omega (arith, c.if-sentence-gt-MAX_SENTENCE.false) in
    rw p.1 (subst (λ e. (e ≡ OutOfMemory) ⊎ IsSentenceFault c.args.nodes c.args.sentence.now e) (sym p.2)
    (stop_fault c.args.nodes c.args.sentence.now _ short (λ node.
    no_word (codes "node ") c.args.sentence.now node.0 c.in_default.ensures node.1) c.in_err-sentence.ensures))

pub returns-in_err-clauses : goal.returns-in_err-clauses
returns-in_err-clauses g c =
    let p = err_from_is_err_and c.from_residual-in_err-clauses.result c.from_residual-in_err-clauses.ensures.1 in
    let short : length c.args.sentence.now ≤ 65536 = omega (arith, c.if-sentence-gt-MAX_SENTENCE.false) in
    let read = c.in_ok-sentence.ensures in
    rw p.1 (subst (λ e. (e ≡ OutOfMemory) ⊎ IsSentenceFault c.args.nodes c.args.sentence.now e) (sym p.2)
    (deep_fault c.args.nodes c.args.sentence.now read.0 c.in_ok-sentence.sentence _ short read.1 read.2
    c.in_err-clauses.ensures))

pub returns-then-len-gt-MAX_CASES : goal.returns-then-len-gt-MAX_CASES
returns-then-len-gt-MAX_CASES g c =
    let short : length c.args.sentence.now ≤ 65536 = omega (arith, c.if-sentence-gt-MAX_SENTENCE.false) in
    let read = c.in_ok-sentence.ensures in
    let list : c.in_ok-choices.choices.items ≡ choices c.args.nodes c.picks.result =
    c.in_ok-choices.ensures ∙ ap (λ n. choices n c.picks.result) c.get-nodes.ensures.value in
    inr (many_cases read.0 c.picks.result short read.1
    (clauses_of c.in_ok-clauses.clauses read.0 (c.in_ok-clauses.ensures read.0 read.2))
    (c.picks.ensures read.0 read.2 read.1.parts)
    (subst (λ l. 32385 < length l) list
    (omega (arith, c.if-len-gt-MAX_CASES.true, c.len.ensures ∙ c.in_ok-choices.choices.ok.0))) refl)

pub returns : goal.returns
returns g c =
    let short : length c.args.sentence.now ≤ 65536 = omega (arith, c.if-sentence-gt-MAX_SENTENCE.false) in
    let read = c.in_ok-sentence.ensures in
    let asked = c.in_ok-clauses.ensures read.0 read.2 in
    let list : c.in_ok-choices.choices.items ≡ choices c.args.nodes c.picks.result =
    c.in_ok-choices.ensures ∙ ap (λ n. choices n c.picks.result) c.get-nodes.ensures.value in
    answered (λ
    (t : Vec ℕ g.row.A.Denot). t.items) c.args.nodes c.args.sentence.now read.0 c.picks.result
    c.in_ok-choices.choices.items c.question_text.result short
    read.1 (clauses_of c.in_ok-clauses.clauses read.0 asked) (c.picks.ensures read.0 read.2 read.1.parts) list
    (omega (arith, c.if-len-gt-MAX_CASES.false, c.len.ensures ∙ c.in_ok-choices.choices.ok.0))
    (subst (λ l. Writes (λ (t : Vec ℕ g.row.A.Denot). t.items)
    (asked_of c.args.nodes read.0 l) c.question_text.result) c.deref.ensures.value
    (subst (λ n. Writes (λ (t : Vec ℕ g.row.A.Denot). t.items)
    (asked_of n read.0 c.deref.result.now) c.question_text.result) c.get-nodes.ensures.value
    (c.question_text.ensures read.0 asked)))
