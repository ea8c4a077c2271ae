-- The lines of JSON of pictures.
use Rattle.std.proofs.Common.{◌≡◌, ℕ, List, Option, subst}
use Rattle.ira_event.specs.Log.{Log}
use Rattle.ira_view_draw.specs.MomentLine.{cut_with_line}
use Rattle.ira_view_json.specs.Line.{IsLineOf}
use Rattle.ira_view_json.specs.PictureValue.{picture_value}
use Rattle.ira_view_moment.specs.Told.{Told}
use Rattle.ira_view_picture.specs.Picture.{Drawn, IsShown}
use Rattle.ira_view_picture.specs.Window.{asked_window}
use Rattle.ira_view_picture.specs.declared.arrow.Arrow.{Arrow}
use Rattle.ira_view_picture.specs.declared.window.Window.{Window}
use Rattle.ira_view.specs.Html.{IsPictureTold}

-- the line of a picture of the columns that are asked for
pub picture_told : (logs : List Log) (told : Told) (cut found : Option (List ℕ)) (from to : Option ℕ) (window : Window)
    (last : ℕ) (line : Option ℕ) (lanes : List Drawn) (arrows : List Arrow) (text : List ℕ)
    → found ≡ cut_with_line told cut → window ≡ asked_window from to last
    → IsShown logs found window last line lanes arrows
    → IsLineOf (picture_value window last line told lanes arrows) text → IsPictureTold logs told cut from to text
picture_told logs told cut found from to window last line lanes arrows text same is shown read = record {
  last = last;
  line = line;
  lanes = lanes;
  arrows = arrows;
  shown =
      subst (λ (w : Window). IsShown logs (cut_with_line told cut) w last line lanes arrows) is
      (subst (λ (c : Option (List ℕ)). IsShown logs c window last line lanes arrows) same shown);
  is = subst (λ (w : Window). IsLineOf (picture_value w last line told lanes arrows) text) is read;
}
