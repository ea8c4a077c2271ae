use Rattle.std.proofs.Common.{sym, ap, subst, ◌∙◌, ◌≡◌, ◌⊎◌, inr}
use Rattle.std.proofs.lemmas.Result.{err_from_is_err_and}
use Rattle.ira_ask.specs.declared.sentence_fault.SentenceFault.TheVariants.{OutOfMemory}
use Rattle.ira_ask.specs.Reading.{texts}
use Rattle.ira_ask.specs.SentenceText.{StopsAt}
use Rattle.ira_ask.proofs.PartsRead.{all_failed, last_read, read_whole, stops}
use Rattle.ira_ask.proofs.sentence.read_last.Goals as goal

pub returns-in_err-all : goal.returns-in_err-all
returns-in_err-all g c text h =
    let p = err_from_is_err_and c.from_residual.result c.from_residual.ensures.1 in
    rw p.1 (subst (λ e. (e ≡ OutOfMemory) ⊎ StopsAt text e) (sym p.2)
    (all_failed text c.args.parts _ _ _ _ h c.in_err-all.ensures))

pub returns-in-Some : goal.returns-in-Some
returns-in-Some g c text h =
    let read = last_read text c.args.parts c.take.new.self (texts c.args.any) (texts c.args.other)
    (texts c.args.each_other) (texts c.in_ok-all.all) h c.in_ok-all.ensures in
    let is = sym c.left.ensures ∙ ap texts c.in-Some.is in
    inr (stops text _ c.take.new.self _ _ _ _ c.last_part.result is read (c.last_part.ensures read.sentence (record {
      any = read.any_is;
      other = read.other_is;
      each_other = read.each_other_is;
      all = read.all_is;
    })))

pub returns-in-None : goal.returns-in-None
returns-in-None g c text h =
    let read = last_read text c.args.parts c.take.new.self (texts c.args.any) (texts c.args.other)
    (texts c.args.each_other) (texts c.in_ok-all.all) h c.in_ok-all.ensures in
    let is = sym c.left.ensures ∙ ap texts c.in-None.is in (
      read.sentence,
      read_whole text c.take.new.self _ _ _ _ is read,
      record { any = read.any_is; other = read.other_is; each_other = read.each_other_is; all = read.all_is },
      record { any = h.any_fits; other = h.other_fits; each_other = h.each_other_fits; all = read.all_fits },
    )
