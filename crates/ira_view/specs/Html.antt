-- Pages to move in a picture of a ring.
use Rattle.std.specs.Prelude.{◌≡◌, ℕ, List, ◌++◌, None, Option, map}
use Rattle.std.specs.List.{zip}
use Rattle.ira_event.specs.Log.{Log}
use Rattle.ira_audit.specs.declared.answer.Answer.TheVariants.{No}
use Rattle.ira_audit.specs.declared.judged.Judged.{Judged}
use Rattle.ira_audit.specs.declared.judged.Judged.TheVariants.{Good, NoRing, Refused}
use Rattle.ira_audit.specs.declared.reason.Reason.{Reason}
use Rattle.ira_view_moment.specs.Told.{Told}
use Rattle.ira_view_page.specs.declared.explanation.Explanation.{Explanation}
use Rattle.ira_view_page.specs.declared.named_text.NamedText.{NamedText}
use Rattle.ira_view_draw.specs.MomentLine.{cut_with_line}
use Rattle.ira_view_html.specs.HtmlPage.{IsHtmlPage}
use Rattle.ira_view_json.specs.Line.{AreLinesOf, IsLineOf}
use Rattle.ira_view_json.specs.LogValue.{log_value}
use Rattle.ira_view_json.specs.PageLine.{IsYesLine, explanation_value}
use Rattle.ira_view_json.specs.PictureValue.{picture_value}
use Rattle.ira_view_picture.specs.Picture.{Drawn, IsShown}
use Rattle.ira_view_picture.specs.Window.{asked_window}
use Rattle.ira_view_picture.specs.declared.arrow.Arrow.{Arrow}
use Rattle.ira_view.specs.Explained.{IsExplanation}
use Rattle.ira_view.specs.ShownRing.{ShownRing}
use Rattle.ira_view.specs.Status.{status_number}
use Rattle.ira_view.specs.ViewText.{IsViewText}
use Rattle.ira_view.specs.declared.form.Form.TheVariants.{Json}
use Rattle.ira_view.specs.declared.status.Status.TheVariants.{Yes}

-- the text is the line of JSON of a picture of the logs at the columns that are asked for, with a line at the moment of the
-- cut, where that isn't the end of the logs
pub record IsPictureTold (logs : List Log) (told : Told) (cut : Option (List ℕ)) (from to : Option ℕ) (text : List ℕ)
    : Type 0 where
  pub last : ℕ
  pub line : Option ℕ
  pub lanes : List Drawn
  pub arrows : List Arrow
  pub shown : IsShown logs (cut_with_line told cut) (asked_window from to last) last line lanes arrows
  pub is : IsLineOf (picture_value (asked_window from to last) last line told lanes arrows) text

-- the text is the page of such lines of JSON, and of that of such a picture after them
abbrev pub IsHtmlOf : (List ℕ → Type 0) → (List ℕ → Type 0) → List ℕ → Type 0
IsHtmlOf IsPicture AreTold text =
    (picture : List ℕ) × (told : List ℕ) × IsPicture picture × AreTold told × IsHtmlPage (told ++ picture) text

-- the lines of JSON on logs, each with the name of its file: its node, and how that starts
abbrev pub AreLogLines : List (List ℕ × Log) → List ℕ → Type 0
AreLogLines files text = AreLinesOf (map (λ file. log_value file.0 file.1.place file.1.initiator) files) text

-- the lines of JSON that a page tells of a ring, whose logs are in files of these names: that of its yes, and those on
-- the logs
abbrev pub IsRingTold : List (List ℕ) → ShownRing → List ℕ → Type 0
IsRingTold names ring told =
    (line : List ℕ) × (others : List ℕ) × IsYesLine ring.logs None (status_number Yes) ring.told ring.cut line
    × AreLogLines (zip names ring.logs) others × (told ≡ line ++ others)

-- the text is the page of a ring at these columns
abbrev pub IsRingHtml : ShownRing → Option ℕ → Option ℕ → List ℕ → Type 0
IsRingHtml ring from to text =
    (names : List (List ℕ))
    × IsHtmlOf (IsPictureTold ring.logs ring.told ring.cut from to) (IsRingTold names ring) text

-- texts that were judged are those of no run, for this reason
abbrev pub HasReason : {A : Type 0} → Judged A → Reason → Type 0
HasReason (Good logs) r = ⊥
HasReason (Refused refused) r = r ≡ refused.reason
HasReason (NoRing reason) r = r ≡ reason

-- the lines of JSON that a page of such texts in files tells: that of the answer with its reason and what it rests on, that
-- of what a person reads of it, and those on the logs that are drawn
abbrev pub IsRefusalTold : {A : Type 0} → List NamedText → Judged A → Reason → List Log → List ℕ → Type 0
IsRefusalTold {A} files judged r logs told =
    (explanation : Explanation A) × (line : List ℕ) × (page : List ℕ) × (others : List ℕ)
    × IsExplanation files judged explanation None
    × IsViewText Json (No r) explanation None line
    × IsLineOf (explanation_value explanation.page) page
    × AreLogLines (zip (map (λ file. file.name.now) files) logs) others × (told ≡ line ++ page ++ others)
