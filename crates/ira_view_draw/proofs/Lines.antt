-- Parts of the line of a moment.
use Rattle.std.proofs.Common.{◌≡◌, ℕ, Option, Some, None, arith, refl, true}
use Rattle.std.specs.Prelude.{option_map}
use Rattle.std.proofs.lemmas.Bool.Decides.{nat_tests}
use Rattle.ira_pred.specs.Case.{Conjunct}
use Rattle.ira_view_picture.specs.declared.window.Window.{Window}
use Rattle.ira_view_picture.specs.Window.{IsIn, is_in}

pub column_drawn : (w : Window) (column : ℕ) → IsIn w column → is_in w column ≡ true
column_drawn w column inside = grind (arith, nat_tests, inside.0, inside.1)

-- a node that is asked
pub place_at : (o : Option Conjunct) (place : ℕ) → option_map (λ c. c.place) o ≡ Some place
    → (asked : Conjunct) × (o ≡ Some asked) × (place ≡ asked.place)
place_at None place is = absurd cc
place_at (Some asked) place is = (asked, refl, cc)
