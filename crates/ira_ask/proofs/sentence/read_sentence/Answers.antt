use Rattle.std.proofs.Common.{Some, ◌≡◌, ◌⊎◌, subst, sym}
use Rattle.std.proofs.lemmas.Result.{err_from_is_err_and}
use Rattle.ira_ask.specs.declared.sentence_fault.SentenceFault.TheVariants.{OutOfMemory}
use Rattle.ira_ask.specs.declared.sentence_part.SentencePart.TheVariants.{Any}
use Rattle.ira_ask.specs.Reading.{TakesPart, texts}
use Rattle.ira_ask.specs.SentenceText.{StopsAt}
use Rattle.ira_ask.proofs.PartsRead.{any_failed, each_failed, none_read, other_failed, some_read}
use Rattle.ira_ask.proofs.sentence.read_sentence.Goals as goal

pub returns-in_err-any : goal.returns-in_err-any
returns-in_err-any g c =
    let p = err_from_is_err_and c.from_residual.result c.from_residual.ensures.1 in
    rw p.1 (subst (λ e. (e ≡ OutOfMemory) ⊎ StopsAt c.args.text.now e) (sym p.2)
    (any_failed c.args.text.now _ _ c.new-parts.ensures c.in_err-any.ensures))

pub read_last-requires : goal.read_last-requires
read_last-requires g c =
    (none_read c.args.text.now c.take.new.self c.requires
    (subst (λ p. TakesPart Any (Some c.args.text.now) c.take.new.self (texts p)) c.in_default.is
    (subst (λ o. TakesPart Any o c.take.new.self
    (texts c.in_ok-any.field-0)) c.new-parts.ensures c.in_ok-any.ensures))).short

pub returns-in_default : goal.returns-in_default
returns-in_default g c =
    c.read_last.ensures c.args.text.now (none_read c.args.text.now c.take.new.self c.requires
    (subst (λ p. TakesPart Any (Some c.args.text.now) c.take.new.self (texts p)) c.in_default.is
    (subst (λ o. TakesPart Any o c.take.new.self
    (texts c.in_ok-any.field-0)) c.new-parts.ensures c.in_ok-any.ensures)))

pub returns-in_err-other : goal.returns-in_err-other
returns-in_err-other g c =
    let p = err_from_is_err_and c.from_residual-in_err-other.result c.from_residual-in_err-other.ensures.1 in
    rw p.1 (subst (λ e. (e ≡ OutOfMemory) ⊎ StopsAt c.args.text.now e) (sym p.2)
    (other_failed c.args.text.now c.in-Some.any.now c.take.new.self _
    (subst (λ p. TakesPart Any (Some c.args.text.now) c.take.new.self (texts p)) c.in-Some.is
    (subst (λ o. TakesPart Any o c.take.new.self
    (texts c.in_ok-any.field-0)) c.new-parts.ensures c.in_ok-any.ensures)) c.in_err-other.ensures))

pub returns-in_err-each_other : goal.returns-in_err-each_other
returns-in_err-each_other g c =
    let p = err_from_is_err_and c.from_residual-in_err-each_other.result c.from_residual-in_err-each_other.ensures.1 in
    rw p.1 (subst (λ e. (e ≡ OutOfMemory) ⊎ StopsAt c.args.text.now e) (sym p.2)
    (each_failed c.args.text.now c.in-Some.any.now (texts c.in_ok-other.other) c.take.new.self c.take-2.new.self _
    (subst (λ p. TakesPart Any (Some c.args.text.now) c.take.new.self (texts p)) c.in-Some.is
    (subst (λ o. TakesPart Any o c.take.new.self
    (texts c.in_ok-any.field-0)) c.new-parts.ensures c.in_ok-any.ensures)) c.in_ok-other.ensures
    c.in_err-each_other.ensures))

pub read_last-requires-2 : goal.read_last-requires-2
read_last-requires-2 g c =
    (some_read c.args.text.now c.in-Some.any.now (texts c.in_ok-other.other) (texts c.in_ok-each_other.each_other)
    c.take.new.self c.take-2.new.self c.take-3.new.self c.requires
    (subst (λ p. TakesPart Any (Some c.args.text.now) c.take.new.self (texts p)) c.in-Some.is
    (subst (λ o. TakesPart Any o c.take.new.self
    (texts c.in_ok-any.field-0)) c.new-parts.ensures c.in_ok-any.ensures))
    c.in_ok-other.ensures c.in_ok-each_other.ensures).short

pub returns : goal.returns
returns g c =
    c.read_last-2.ensures c.args.text.now (some_read c.args.text.now c.in-Some.any.now (texts c.in_ok-other.other)
    (texts c.in_ok-each_other.each_other) c.take.new.self c.take-2.new.self c.take-3.new.self c.requires
    (subst (λ p. TakesPart Any (Some c.args.text.now) c.take.new.self (texts p)) c.in-Some.is
    (subst (λ o. TakesPart Any o c.take.new.self
    (texts c.in_ok-any.field-0)) c.new-parts.ensures c.in_ok-any.ensures))
    c.in_ok-other.ensures c.in_ok-each_other.ensures)
