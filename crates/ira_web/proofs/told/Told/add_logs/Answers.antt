use Rattle.std.proofs.Common.{◌∙◌, ◌++◌, ◌∷◌, [], List, ap, arith, map, subst, sym, take, ℕ}
use Rattle.std.proofs.lemmas.List.{map-append, take_all}
use Rattle.ira_audit.proofs.LogTexts.{next_taken}
use Rattle.ira_event.specs.Log.{Log}
use Rattle.ira_event.specs.LogText.{log_text}
use Rattle.ira_web.specs.Told.{Adds}
use Rattle.ira_web.specs.declared.told.Told.{Told}
use Rattle.ira_web.proofs.Written.{adds_both, adds_none, adds_part, grown}
use Rattle.ira_web.proofs.told.Told.add_logs.Goals as goal

pub loop-place-init : goal.loop-place-init
loop-place-init g c = record { within = omega arith; added = adds_none c.args.self.now }

pub loop-place-preserved : goal.loop-place-preserved
loop-place-preserved g c =
    let logs = c.args.logs.now in let log = c.log.result.now in let old = c.loop-place.self in
    let front = take c.loop-place.place logs in let took = c.in-Ok.ensures.took in
    let size = grown c.bytes-began.result.now c.bytes.result.now old.text.bytes _ (log_text log) c.bytes-began.ensures
    c.bytes.ensures took in
    let new : Told _ = record { text = c.write_log.new.sink; sizes = c.push.new.self } in
    let one = adds_part (log_text log) old new took
    (c.in_ok-push.ensures.items ∙ ap (λ (n : ℕ). old.sizes.items ++ n ∷ []) size) in
    let more = sym (map-append log_text front (log ∷ []))
    ∙ ap (λ (ls : List Log). map log_text ls) (next_taken logs c.loop-place.place log c.log.ensures.value) in
    record {
      within = omega (arith, c.size.ensures.value, c.get-place-end.ensures.value, c.loop-place-test.true);
      added = subst (λ (parts : List (List ℕ)). Adds parts c.args.self.now new) more
          (adds_both (map log_text front) (log_text log ∷ []) c.args.self.now old new c.loop-place.invariant.added one);
    }

pub returns : goal.returns
returns g c =
    let logs = c.args.logs.now in
    let all = take_all c.loop-place.place logs
    (omega (arith, c.size.ensures.value, c.get-place-end.ensures.value, c.loop-place-test.false)) in
    subst (λ (ls : List Log). Adds (map log_text ls) c.args.self.now c.loop-place.self) all c.loop-place.invariant.added
