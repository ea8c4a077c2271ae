use Rattle.std.proofs.Common.{◌≡◌, ◌∙◌, ◌++◌, ap, arith, map}
use Rattle.std.proofs.lemmas.List.{take_all}
use Rattle.ira_event.specs.LogText.{log_text}
use Rattle.ira_event.specs.Sink.{Memory}
use Rattle.ira_commands.proofs.OneByOne.{made_next}
use Rattle.ira_commands.proofs.begun.log_texts.Goals as goal

pub loop-place-preserved : goal.loop-place-preserved
loop-place-preserved g c =
    let text : c.write_log.new.sink.bytes ≡ log_text c.log.result.now = c.in-Ok.ensures.took
    ∙ ap (λ (m : Memory). m.bytes ++ log_text c.log.result.now) c.new-text.ensures in
    rw c.in_ok-push.ensures.items (made_next (λ (m : Memory). m.bytes) log_text c.loop-place.texts.items c.args.logs.now
    c.loop-place.place c.write_log.new.sink c.log.result.now c.loop-place.invariant c.log.ensures.value text)

pub returns : goal.returns
returns g c =
    c.loop-place.invariant ∙ ap (map log_text) (take_all c.loop-place.place c.args.logs.now (omega (
      arith,
      c.loop-place-test.false,
      c.get-nodes.ensures.value,
      c.size.ensures.value,
    )))
