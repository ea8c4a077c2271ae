use Rattle.std.proofs.Common.{◌∙◌, ◌++◌, ℕ, List, None, ap, string_bytes, subst, sym}
use Rattle.std.specs.Borrow.{Bor}
use Rattle.std.specs.Option.{option_map}
use Rattle.ira_event.specs.Log.{Log}
use Rattle.ira_event.specs.Sink.{Memory}
use Rattle.ira_view_json.specs.PageLine.{IsYesLine}
use Rattle.ira_view_moment.specs.Told.{at_end}
use Rattle.ira_view.specs.Status.{status_number}
use Rattle.ira_commands.proofs.Outputs.{front}
use Rattle.ira_commands.specs.RingLeaders.{named_places}
use Rattle.ira_commands.proofs.expected.expected_text.Goals.{in-Json+in_ok-line-in-Json, in-Words}
use Rattle.ira_commands.proofs.expected.expected_text.Goals as goal

pub returns-in-Ok : goal.returns-in-Ok
returns-in-Ok g c = elim c.match-form.branch [
  | in-Json+in_ok-line-in-Json w ↦
      let line = string_bytes w.in_ok-line-in-Json.line in
      let named = named_places c.args.expected.leaders in
      let took = rw (sym w.written-is ∙ c.in-Ok.is) at w.write_bytes-written.ensures in
      let bytes = took.took ∙ ap (λ (m : Memory). m.bytes ++ w.as_bytes.result.now) c.new-text.ensures
      ∙ w.as_bytes.ensures.value in
      let lent = option_map (λ (places : Bor (List ℕ)). places.now) w.named.result in
      let numbered = subst (λ n. IsYesLine w.logs.result.now lent n at_end None line) w.number.ensures
      w.in_ok-line-in-Json.ensures in
      let called = subst (λ names. IsYesLine w.logs.result.now names (status_number c.args.status) at_end None line)
      w.named.ensures numbered in
      let is = subst (λ (logs : List Log). IsYesLine logs named (status_number c.args.status) at_end None line)
      w.logs.ensures.value called in
      rw (w.in-Json.is, w.text-is, bytes) is
  | in-Words w ↦
      let took = rw (sym w.written-is ∙ c.in-Ok.is) at w.write_view-written.ensures in
      rw (w.in-Words.is, w.text-is)
      (took.took ∙ ap (λ (m : Memory). m.bytes ++ front w.bytes.result.now) c.new-text.ensures
      ∙ ap front w.bytes.ensures.text)
]
