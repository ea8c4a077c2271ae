-- Pictures of logs.
use Rattle.std.specs.Prelude.{◌≡◌, ℕ, List, ◌++◌, Option, None, codes, length}
use Rattle.ira_event.specs.Log.{Log}
use Rattle.ira_view_page.specs.Printable.{IsPrintable}
use Rattle.ira_view_picture.specs.declared.arrow.Arrow.{Arrow}
use Rattle.ira_view_picture.specs.Picture.{Drawn, IsShown}
use Rattle.ira_view_picture.specs.Window.{asked_window}
use Rattle.ira_view_draw.specs.Marks.{marks_text}
use Rattle.ira_view_draw.specs.MomentLine.{asked_of, cut_with_line, line_of_moment, words_of_moment}
use Rattle.ira_view_moment.specs.Told.{Told}

-- the text is a picture of the logs at the columns that are asked for, with a line at the moment of the cut: above what is
-- below them, and is printable, it has the marks of the events at these columns, and the line of the moment
pub record IsDrawing (logs : List Log) (cut : Option (List ℕ)) (told : Told) (from to : Option ℕ) (text : List ℕ)
    : Type 0 where
  pub last : ℕ
  pub line : Option ℕ
  pub lanes : List Drawn
  pub arrows : List Arrow
  pub shown : IsShown logs (cut_with_line told cut) (asked_window from to last) last line lanes arrows
  pub below : List ℕ
  pub printable : IsPrintable text
  pub is : text ≡ below ++ marks_text (length logs) (asked_window from to last) lanes
      ++ line_of_moment (length logs) (asked_window from to last) last line (words_of_moment told)
      (asked_of told)
      ++ codes "</svg>\n"

-- the text is a picture of logs, and of no moment, at the columns that are asked for: above what is below them, and is
-- printable, it has the marks of the events at these columns
pub record IsLogsDrawing (logs : List Log) (from to : Option ℕ) (text : List ℕ) : Type 0 where
  pub last : ℕ
  pub lanes : List Drawn
  pub arrows : List Arrow
  pub shown : IsShown logs None (asked_window from to last) last None lanes arrows
  pub below : List ℕ
  pub above : List ℕ
  pub printable : IsPrintable text
  pub is : text ≡ below ++ marks_text (length logs) (asked_window from to last) lanes ++ above
      ++ codes "</svg>\n"
