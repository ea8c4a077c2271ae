-- Pages to move in a picture.
use Rattle.std.proofs.Common.{◌≡◌, ℕ, List, Err, IfOk, Ok, Result, subst, sym}
use Rattle.ira_view.specs.Html.{IsHtmlOf}

-- a page of these lines is one of such lines, where they are such
pub html_told : {E : Type 0} (IsPicture AreTold : List ℕ → Type 0) (told : List ℕ) (r : Result (List ℕ) E)
    → AreTold told
    → IfOk r (IsHtmlOf IsPicture (λ lines. lines ≡ told)) → IfOk r (IsHtmlOf IsPicture AreTold)
html_told IsPicture AreTold told (Ok text) are is = (is.0, is.1, is.2, subst AreTold (sym is.3) are, is.4)
html_told IsPicture AreTold told (Err f) are is = tt
