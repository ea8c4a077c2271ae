use Rattle.std.proofs.Common.{map, subst}
use Rattle.ira_audit.specs.Judged.{IsJudged}
use Rattle.ira_view_page.specs.declared.named_text.NamedText.{NamedText}
use Rattle.ira_view_explain.proofs.explain.explain_logs.Goals as goal

pub explain_no_ring-requires : goal.explain_no_ring-requires
explain_no_ring-requires g c =
    subst (IsJudged (map (λ (file : NamedText). file.text.now) c.args.files.now)) c.in-NoRing.is c.requires
