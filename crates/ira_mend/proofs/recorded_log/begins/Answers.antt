use Rattle.std.proofs.Common.{◌≡◌, ◌∙◌, ◌++◌, ap, drop, length, sym}
use Rattle.std.proofs.lemmas.Bool.Decides.{Decides-eqb}
use Rattle.std.proofs.lemmas.Slice.Eq.{starts_is}
use Rattle.ira_event.specs.LogText.{log_text}
use Rattle.ira_event.specs.Sink.{Memory}
use Rattle.ira_mend.proofs.recorded_log.begins.Goals as goal

pub returns : goal.returns
returns g c =
    let all = log_text c.args.log.now in
    let whole : c.bytes.result.now ≡ all = c.bytes.ensures ∙ c.in-Ok.ensures.took
    ∙ ap (λ (m : Memory). m.bytes ++ all) c.new-whole.ensures in
    let is = starts_is Decides-eqb c.bytes.result.now c.args.text.now c.starts_with.result c.starts_with.ensures.value in (
      λ yes. (drop (length c.args.text.now) c.bytes.result.now, sym (is.0 yes) ∙ whole),
      λ some. is.1 some.0 (whole ∙ sym some.1),
    )
