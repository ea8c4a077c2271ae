use Rattle.std.proofs.Common.{◌≡◌, ◌∙◌, ◌++◌, ◌∷◌, [], ap, append-nil, append_assoc, arith, length, refl, rules, subst, sym}
use Rattle.std.specs.Vec.Iter.{into_iter_items}
use Rattle.std.proofs.lemmas.List.{nil_from_length}
use Rattle.std.proofs.lemmas.Result.{err_from_is_err_and}
use Rattle.ira_mend.specs.RecordedLogs.{AreLeftTexts, no_ring, none}
use Rattle.ira_event.specs.Logs.{AreLogs}
use Rattle.ira_mend.proofs.RecordedTexts.{AreLogsOf, all_left, first_reportable, next_log, none_recorded, none_yet}
use Rattle.ira_mend.proofs.RecordedTexts.{refused_log, ring_is_log}
use Rattle.ira_mend.proofs.recorded_logs.RecordedLogs.gather.Goals as goal

pub returns-in_default : goal.returns-in_default
returns-in_default g c = λ texts has.
    let is = c.first_fault.ensures texts has in
    let empty = c.in_default.ensures in
    (none (λ log. none_recorded c.args.self texts log has empty) is, first_reportable texts c.first_fault.result is)

pub loop-it-init : goal.loop-it-init
loop-it-init g c = record {
  may_go_on = tt;
  ends = tt;
  left = search rules;
  done = [];
  parts = search rules;
  logs_are = none_yet _ c.in-Some.ring c.args.guess c.in_ok-logs.logs.items c.in_ok-logs.ensures.items;
}

pub into_log-requires : goal.into_log-requires
into_log-requires g c = ring_is_log c.args.self c.in-Some.ring c.args.guess c.in-Some.ensures

pub returns-in_err-log : goal.returns-in_err-log
returns-in_err-log g c = λ texts has.
    let rest : into_iter_items c.loop-it.it-iterator ≡ c.in-Some-it.it ∷ into_iter_items c.next.new.self =
    c.in-Some-it.ensures.steps.0 in
    let done = c.loop-it.invariant.done in
    let logs = c.loop-it.logs.items in
    let number : c.len-in-loop-it.result ≡ length logs = search rules in
    let parts = ap (λ xs. done ++ xs) (sym rest) ∙ c.loop-it.invariant.parts in
    let p = err_from_is_err_and c.from_residual-in_err-log.result c.from_residual-in_err-log.ensures.1 in
    let same : p.0 ≡ c.in_err-log.field-0.0 = p.2 in
    rw (p.1, same) (refused_log c.args.self done (into_iter_items c.next.new.self) c.in-Some-it.it c.in-Some.ring
    c.args.guess logs c.in_err-log.field-0.0 (λ made. AreLeftTexts c.args.guess texts made × AreLogs made)
    c.in-Some.ensures parts c.loop-it.invariant.logs_are (rw number at c.in_err-log.ensures) texts has)

pub loop-it-preserved : goal.loop-it-preserved
loop-it-preserved g c =
    let left = into_iter_items c.next.new.self in
    let steps = c.in-Some-it.ensures.steps in
    let it = c.in-Some-it.it in
    let rest : into_iter_items c.loop-it.it-iterator ≡ it ∷ left = steps.0 in
    let done = c.loop-it.invariant.done in
    let logs = c.loop-it.logs.items in
    let number : c.len-in-loop-it.result ≡ length logs = search rules in
    let more = next_log done it c.in-Some.ring c.args.guess logs c.in_ok-log.log c.loop-it.invariant.logs_are
    (rw number at c.in_ok-log.ensures) in
    record {
      may_go_on = tt;
      ends = tt;
      left = omega (arith, ap length rest, steps.1);
      done = done ++ it ∷ [];
      parts = append_assoc done (it ∷ []) left ∙ ap (λ xs. done ++ xs) (sym rest) ∙ c.loop-it.invariant.parts;
      logs_are = subst (AreLogsOf (done ++ it ∷ []) c.in-Some.ring c.args.guess) (sym c.in-Ok.ensures.items) more;
    }

pub returns-in_err-gather : goal.returns-in_err-gather
returns-in_err-gather g c = λ texts has.
    let gone : into_iter_items c.loop-it.it-iterator ≡ [] =
    (let ended = c.in-None.ensures.steps.0 in nil_from_length _ (omega arith)) in
    let done = c.loop-it.invariant.done in
    let logs = c.loop-it.logs.items in
    let whole = sym (append-nil done) ∙ ap (λ xs. done ++ xs) (sym gone) ∙ c.loop-it.invariant.parts in
    let are = subst (λ rs. AreLogsOf rs c.in-Some.ring c.args.guess logs) whole c.loop-it.invariant.logs_are in
    let left = all_left c.args.self c.in-Some.ring c.args.guess logs c.in-Some.ensures are texts has in
    let f = c.in_err-gather.field-0.0 in
    let fault = (c.in_err-gather.ensures.err f).0 refl in
    let p = err_from_is_err_and c.from_residual-in_err-gather.result c.from_residual-in_err-gather.ensures.1 in
    rw (p.1, p.2) (no_ring logs f left fault refl, tt)

pub returns : goal.returns
returns g c = λ texts has.
    let gone : into_iter_items c.loop-it.it-iterator ≡ [] =
    (let ended = c.in-None.ensures.steps.0 in nil_from_length _ (omega arith)) in
    let done = c.loop-it.invariant.done in
    let logs = c.loop-it.logs.items in
    let whole = sym (append-nil done) ∙ ap (λ xs. done ++ xs) (sym gone) ∙ c.loop-it.invariant.parts in
    let are = subst (λ rs. AreLogsOf rs c.in-Some.ring c.args.guess logs) whole c.loop-it.invariant.logs_are in
    let left = all_left c.args.self c.in-Some.ring c.args.guess logs c.in-Some.ensures are texts has in
    let ok = (c.in_ok-gather.ensures.ok c.in_ok-gather.field-0).0 refl in
    (subst (AreLeftTexts c.args.guess texts) (sym ok.0) left, ok.1)
