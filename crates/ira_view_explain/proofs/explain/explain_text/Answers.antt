use Rattle.std.proofs.Common.{refl}
use Rattle.ira_view_explain.specs.TextTold.{IsTextTold}
use Rattle.ira_view_explain.proofs.Told.{told_as}
use Rattle.ira_view_explain.proofs.explain.explain_text.Goals as goal

pub returns-clause-told : goal.returns-clause-told
returns-clause-told g c =
    told_as (IsTextTold c.args.file.now c.args.fault) c.of_page.result _ c.of_page.ensures.evidence (record {
      stop = c.find-finding.result.stop;
      is_stop = c.find-finding.ensures;
      one = c.in_ok-evidence.field-0;
      told_is = rw (c.in_ok-push.ensures.items, c.new-evidence.ensures.items) refl;
      one_is = c.in_ok-evidence.ensures;
    })
