use Rattle.std.proofs.Common.{◌≡◌, ◌∙◌, ◌↔◌, ◌++◌, ℕ, List, [], ◌∷◌, Result, Ok, Err, IfOk, refl, sym}
use Rattle.std.specs.Prelude.{codes}
use Rattle.ira_event.specs.Log.{Log}
use Rattle.ira_view_election.specs.ElectionAt.{StandsAt}
use Rattle.ira_view_moment.specs.Moment.{whole_cut}
use Rattle.ira_view_election.specs.Election.{Standing, goes_on, over, unfinished_text}
use Rattle.ira_view_page.proofs.Adding.{finished}
use Rattle.ira_view.specs.Differences.{TellsUnfinished}
use Rattle.ira_view.proofs.leads.unfinished_election.Goals as goal

is_line : (rest : List ℕ) → codes "  " ++ rest ≡ [] → ⊥
is_line rest e = cc

-- there are lines exactly where it isn't over
said : (standing : Standing) → (unfinished_text standing ≡ []) ↔ (standing ≡ over)
said over = (λ e. refl, λ e. refl)
said (goes_on [] contenders) = (λ e. absurd (is_line _ e), λ e. cc)
said (goes_on (first ∷ rest) contenders) = (λ e. absurd (is_line _ e), λ e. cc)

tells : {E : Type 0} (logs : List Log) (standing : Standing) (lines : Result (List ℕ) E)
    → StandsAt logs (whole_cut logs) standing → IfOk lines (λ text. text ≡ unfinished_text standing)
    → IfOk lines (TellsUnfinished logs)
tells logs standing (Ok text) stands is = record {
  standing = standing;
  stands = stands;
  text = is;
  none = (λ e. (said standing).0 (sym is ∙ e), λ e. is ∙ (said standing).1 e);
}
tells logs standing (Err f) stands is = tt

pub returns : goal.returns
returns g c =
    tells c.args.logs.now _ c.finish.result (rw c.logs.ensures.value at c.in_ok-election.ensures)
    (finished c.finish.result c.new-page.ensures c.print_unfinished.ensures c.finish.ensures)
