use Rattle.std.proofs.Common.{◌∙◌, ◌++◌, ap, refl, string_bytes, subst}
use Rattle.std.specs.Prelude.{List, None, Option}
use Rattle.ira_audit.proofs.Judging.{no_ring_judged, refused_judged}
use Rattle.ira_audit.specs.Judged.{IsJudged}
use Rattle.ira_audit.specs.Report.{IsReportableReason}
use Rattle.ira_audit.specs.declared.judged.Judged.{Judged}
use Rattle.ira_audit.specs.declared.judged.Judged.TheVariants.{Good, NoRing, Refused}
use Rattle.ira_audit.specs.declared.reason.Reason.{Reason}
use Rattle.ira_view_page.specs.declared.explanation.Explanation.{Explanation}
use Rattle.ira_view_page.specs.declared.named_text.NamedText.{NamedText}
use Rattle.ira_view_election.specs.Election.{Standing}
use Rattle.ira_view_json.specs.Line.{IsLineOf}
use Rattle.ira_view_json.specs.PageLine.{explanation_value}
use Rattle.ira_view.specs.Explained.{IsExplanation}
use Rattle.ira_view.specs.Html.{HasReason}
use Rattle.ira_view.specs.Texts.{texts_of}
use Rattle.ira_view.proofs.html.refused_lines.Goals as goal

-- nothing is known of the election of logs of no run
untold : {A : Type 0} (files : List NamedText) (judged : Judged A) (r : Reason) (explanation : Explanation A)
    (known : Option Standing) → HasReason judged r → IsExplanation files judged explanation known
    → IsExplanation files judged explanation None
untold files (Good logs) r explanation known of is = absurd of
untold files (Refused refused) r explanation known of is = record { ring = is.ring; told = is.told; election = refl }
untold files (NoRing reason) r explanation known of is = record { ring = is.ring; told = is.told; election = refl }

reportable : {A : Type 0} (files : List NamedText) (judged : Judged A) (r : Reason) → IsJudged (texts_of files) judged
    → HasReason judged r → IsReportableReason r
reportable files (Good logs) r is of = absurd of
reportable {A} files (Refused refused) r is of =
    rw of (refused_judged {A = A} (texts_of files) (Refused refused) is refused refl).1
reportable {A} files (NoRing reason) r is of =
    rw of (no_ring_judged {A = A} (texts_of files) (NoRing reason) is reason refl).1

pub view_line-requires : goal.view_line-requires
view_line-requires g c =
    reportable c.args.files.now c.args.judged.now c.args.reason c.requires.judged c.requires.reason

pub returns : goal.returns
returns g c =
    let explanation = c.in_ok-ring.ring.view.explanation in
    let line = string_bytes c.in_ok-told.told in
    let added = c.in_ok-add_logs.ensures in
    let page = string_bytes c.in_ok-page.page in (
      explanation,
      line,
      page,
      added.0,
      untold c.args.files.now c.args.judged.now c.args.reason explanation _ c.requires.reason c.in_ok-ring.ensures.explained,
      c.in_ok-told.ensures,
      subst (λ text. IsLineOf (explanation_value text) page) c.as_str.ensures.text c.in_ok-page.ensures,
      added.1,
      added.2 ∙ ap (λ text. text ++ added.0) (c.in_ok-push_str.ensures.bytes ∙ ap (λ more. line ++ more) c.as_str-2.ensures.value),
    )
