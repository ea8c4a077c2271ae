-- The texts of files with names.
use Rattle.std.proofs.Common.{◌≡◌, ℕ, zero, suc, ◌<◌, List, [], ◌∷◌, Some, arith, length, refl}
use Rattle.std.specs.Prelude.{slice_get, slice_index_or}
use Rattle.ira_view_page.specs.declared.named_text.NamedText.{NamedText}
use Rattle.ira_view.specs.Texts.{texts_of}

-- the text at an index
pub text_at : (files : List NamedText) (i : ℕ) (d : NamedText) → i < length files
    → slice_get (texts_of files) i ≡ Some (slice_index_or files i d).text.now
text_at [] i d lt = absurd (omega (arith, lt))
text_at (f ∷ fs) zero d lt = refl
text_at (f ∷ fs) (suc i) d lt = text_at fs i d (omega (arith, lt))
