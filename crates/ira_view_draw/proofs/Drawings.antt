-- Pictures of logs.
use Rattle.std.proofs.Common.{◌≡◌, ◌∙◌, ℕ, List, ◌++◌, Option, None, ap, length, subst}
use Rattle.std.specs.Prelude.{codes}
use Rattle.ira_event.specs.Log.{Log}
use Rattle.ira_view_moment.specs.ChosenMoment.{cut_of, numbers_of}
use Rattle.ira_view_moment.specs.declared.chosen_moment.ChosenMoment.{ChosenMoment}
use Rattle.ira_view_page.specs.Printable.{IsPrintable}
use Rattle.ira_view_picture.specs.declared.arrow.Arrow.{Arrow}
use Rattle.ira_view_picture.specs.declared.window.Window.{Window}
use Rattle.ira_view_picture.specs.Picture.{Drawn, IsShown}
use Rattle.ira_view_picture.specs.Window.{asked_window}
use Rattle.ira_view_draw.specs.Drawing.{IsDrawing, IsLogsDrawing}
use Rattle.ira_view_draw.specs.Marks.{marks_text}
use Rattle.ira_view_draw.specs.MomentLine.{asked_of, cut_with_line, line_of_moment, words_of_moment}
use Rattle.ira_view_moment.specs.Told.{told_of}
use Rattle.ira_view_draw.proofs.Moments.{numbers_have_line}

-- what was written one after the other, by the same numbers
pub drawing_of : {A : Type 0} (logs : List Log) (moment : ChosenMoment A) (from to : Option ℕ) (found : Option (List ℕ))
    (window : Window) (last : ℕ) (line : Option ℕ) (lanes : List Drawn) (arrows : List Arrow) (nodes : ℕ)
    (below middle before words text : List ℕ) → found ≡ numbers_of moment
    → IsShown logs found window last line lanes arrows → window ≡ asked_window from to last → nodes ≡ length logs
    → words ≡ words_of_moment (told_of moment) → IsPrintable text → text ≡ before ++ codes "</svg>\n"
    → before ≡ middle ++ line_of_moment nodes window last line words (asked_of (told_of moment))
    → middle ≡ below ++ marks_text nodes window lanes
    → IsDrawing logs (cut_of logs moment) (told_of moment) from to text
drawing_of logs moment from to found window last line lanes arrows nodes below middle before words text cut shown is n
    said printable ends over marked =
    let w = asked_window from to last in
    let asked = asked_of (told_of moment) in
    let marks : marks_text nodes window lanes ≡ marks_text (length logs) (asked_window from to last) lanes =
    ap (λ (k : ℕ). marks_text k window lanes) n ∙ ap (λ (x : Window). marks_text (length logs) x lanes) is in
    let lines : line_of_moment nodes window last line words (asked_of (told_of moment))
    ≡ line_of_moment (length logs) (asked_window from to last) last line (words_of_moment (told_of moment))
    (asked_of (told_of moment)) =
    ap (λ (k : ℕ). line_of_moment k window last line words asked) n
    ∙ ap (λ (x : Window). line_of_moment (length logs) x last line words asked) is
    ∙ ap (λ (x : List ℕ). line_of_moment (length logs) w last line x asked) said in
    record {
      last = last;
      line = line;
      lanes = lanes;
      arrows = arrows;
      shown =
          subst
          (λ (x : Window). IsShown logs (cut_with_line (told_of moment) (cut_of logs moment)) x last line lanes arrows) is
          (subst (λ (x : Option (List ℕ)). IsShown logs x window last line lanes arrows)
          (cut ∙ numbers_have_line logs moment) shown);
      below = below;
      printable = printable;
      is =
          ends
          ∙ ap (λ (x : List ℕ). x ++ codes "</svg>\n")
          (over
          ∙ ap (λ (x : List ℕ). x ++ line_of_moment nodes window last line words asked)
          (marked ∙ ap (λ (x : List ℕ). below ++ x) marks)
          ∙ ap (λ (x : List ℕ). below ++ marks_text (length logs) w lanes ++ x) lines);
    }

-- the same of no moment
pub logs_drawing_of : (logs : List Log) (from to : Option ℕ) (window : Window) (last : ℕ) (line : Option ℕ)
    (lanes : List Drawn) (arrows : List Arrow) (nodes : ℕ) (below middle before more text : List ℕ)
    → IsShown logs None window last line lanes arrows → window ≡ asked_window from to last → nodes ≡ length logs
    → IsPrintable text → text ≡ before ++ codes "</svg>\n" → before ≡ middle ++ more
    → middle ≡ below ++ marks_text nodes window lanes → IsLogsDrawing logs from to text
logs_drawing_of logs from to window last line lanes arrows nodes below middle before more text shown is n printable
    ends over marked =
    let marks : marks_text nodes window lanes ≡ marks_text (length logs) (asked_window from to last) lanes =
    ap (λ (k : ℕ). marks_text k window lanes) n ∙ ap (λ (x : Window). marks_text (length logs) x lanes) is in
    let none : IsShown logs None window last None lanes arrows =
    subst (λ (x : Option ℕ). IsShown logs None window last x lanes arrows) shown.line_is shown in
    record {
      last = last;
      lanes = lanes;
      arrows = arrows;
      shown = subst (λ (x : Window). IsShown logs None x last None lanes arrows) is none;
      below = below;
      above = more;
      printable = printable;
      is =
          ends
          ∙ ap (λ (x : List ℕ). x ++ codes "</svg>\n")
          (over ∙ ap (λ (x : List ℕ). x ++ more) (marked ∙ ap (λ (x : List ℕ). below ++ x) marks));
    }
