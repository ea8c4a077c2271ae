use Rattle.std.proofs.Common.{◌∙◌, ap, map, subst, sym}
use Rattle.std.specs.List.{AllZip}
use Rattle.std.proofs.lemmas.Result.{IfOk-weaker}
use Rattle.ira_mend.specs.RecordedLogs.{SaysLost, is_lost}
use Rattle.ira_mend.proofs.RecordedTexts.{all_said}
use Rattle.ira_mend.proofs.recorded_logs.RecordedLogs.lost.Goals as goal

pub returns : goal.returns
returns g c =
    IfOk-weaker c.lost_of.result _ _ (λ lost is texts has.
    let all = is ∙ ap (map is_lost) (c.deref.ensures.value ∙ c.self.view_is) in
    subst (AllZip SaysLost texts) (sym all) (all_said c.args.self.now texts has)) c.lost_of.ensures
