-- Parts of pages.
use Rattle.std.proofs.Common.{◌≡◌, ◌∙◌, ℕ, Bool, false, List, [], ◌∷◌, ◌++◌, ◌-◌, ap, decimal, length}
use Rattle.std.proofs.Common.{map, nat_eq, refl, sym, take}
use Rattle.std.specs.Prelude.{◌==◌, codes, if◌then◌else◌}
use Rattle.std.specs.List.{enumerate_from, flat_map, list_any}
use Rattle.std.proofs.lemmas.List.{take-map}
use Rattle.std.proofs.lemmas.List.Folds.{flat_map-map}
use Rattle.ira_event.specs.declared.load.Load.{Load}
use Rattle.ira_view_moment.specs.Rounds.{DrawnRound, drawn}
use Rattle.ira_view_moment.specs.declared.rounds.Round.{Round}
use Rattle.ira_view_show.proofs.Lines.{list_any-map}
use Rattle.ira_view_moment.specs.Totals.{capped_sum}
use Rattle.ira_view_show.specs.RoundLines.{beyond_text, head_cells, is_later, round_row, round_rows, rounds_text}
use Rattle.ira_view_show.specs.Way.{link_text, loads_text, numbered_link_text, way_text}
use Rattle.ira_view_page.specs.Table.{table_row, table_text}
use Rattle.ira_view_page.specs.declared.page.Emphasis.TheVariants.{Plain}

pub some_loads : (link reader : ℕ) (loads : List Load) → (length loads == 0) ≡ false
    → codes "  " ++ codes "link " ++ decimal link ++ codes ", node " ++ decimal link ++ codes " to " ++ decimal reader
    ++ codes ": " ++ loads_text loads ++ codes "\n" ≡ link_text link reader loads
some_loads link reader [] none = cc
some_loads link reader (l ∷ loads) some = refl

pub some_rounds : (rounds : List DrawnRound) → (length rounds == 0) ≡ false
    → table_text (round_rows (list_any is_later rounds) rounds) ++ beyond_text (length rounds - 20) ++ codes "\n"
    ≡ rounds_text rounds
some_rounds [] none = cc
some_rounds (r ∷ rounds) some = refl

pub some_way : (links : List (List Load)) → nat_eq (capped_sum length links) 0 ≡ false
    → codes "  " ++ codes "On their way, the next to be received first:" ++ codes "\n"
    ++ flat_map (numbered_link_text (length links)) (enumerate_from 0 links) ≡ way_text links
some_way links some =
    ap (λ none. if none then codes "  " ++ codes "No message is on its way." ++ codes "\n"
    else codes "  " ++ codes "On their way, the next to be received first:" ++ codes "\n"
    ++ flat_map (numbered_link_text (length links)) (enumerate_from 0 links)) (sym some)

-- the rows of rounds, by what was drawn in them
pub rounds_are : {R : Type 0} (rounds : List (Round R)) (seen : List DrawnRound) (later : Bool)
    → map drawn rounds ≡ seen → later ≡ list_any (λ r. is_later (drawn r)) rounds
    → table_row Plain (head_cells later) ∷ [] ++ flat_map (λ r. round_row later (drawn r)) (take 20 rounds)
    ≡ round_rows (list_any is_later seen) seen
rounds_are rounds seen later same is =
    let terms : later ≡ list_any is_later seen =
    is ∙ sym (list_any-map is_later drawn rounds) ∙ ap (list_any is_later) same in
    let first : map drawn (take 20 rounds) ≡ take 20 seen = sym (take-map drawn 20 rounds) ∙ ap (take 20) same in
    let rows : flat_map (λ r. round_row later (drawn r)) (take 20 rounds) ≡ flat_map (round_row later) (take 20 seen) =
    sym (flat_map-map (round_row later) drawn (take 20 rounds)) ∙ ap (flat_map (round_row later)) first in
    ap (λ more. table_row Plain (head_cells later) ∷ [] ++ more) rows ∙ ap (λ t. round_rows t seen) terms
