use Rattle.std.proofs.Common.{◌≡◌, ◌<◌, List, [], ◌∷◌, arith, length, refl}
use Rattle.ira_commands.proofs.Served.{if_ok, if_some}
use Rattle.ira_view_page.specs.declared.named_text.NamedText.{NamedText}
use Rattle.ira_web.proofs.serve.serve.Goals as goal

-- a list shorter than 1
none : (files : List NamedText) → length files < 1 → files ≡ []
none [] short = refl
none (file ∷ files) short = absurd (omega (arith, short))

pub returns-in_ok-ask_pairs-in-Pairs : goal.returns-in_ok-ask_pairs-in-Pairs
returns-in_ok-ask_pairs-in-Pairs g c = rw c.in-Pairs.is (if_ok c.only-in-Pairs.result (λ served only.
    if_some served (λ replies is. (
      c.in_ok-ask_pairs-in-Pairs.field-0,
      (none c.args.files.now c.in-empty.len_below, c.in_ok-ask_pairs-in-Pairs.ensures),
      is,
    )) only) c.only-in-Pairs.ensures)

pub returns-in_ok-upgrade-in-Upgrade : goal.returns-in_ok-upgrade-in-Upgrade
returns-in_ok-upgrade-in-Upgrade g c = rw c.in-Upgrade.is (if_ok c.only-in-Upgrade.result (λ served only.
    if_some served (λ replies is. (c.in_ok-upgrade-in-Upgrade.field-0, c.in_ok-upgrade-in-Upgrade.ensures, is)) only)
    c.only-in-Upgrade.ensures)

pub returns-in_ok-mend-in-Mend : goal.returns-in_ok-mend-in-Mend
returns-in_ok-mend-in-Mend g c = rw c.in-Mend.is (if_ok c.only-in-Mend.result (λ served only.
    if_some served (λ replies is. (c.in_ok-mend-in-Mend.field-0, c.in_ok-mend-in-Mend.ensures, is)) only)
    c.only-in-Mend.ensures)

pub returns-in_ok-run_asked-in-Run : goal.returns-in_ok-run_asked-in-Run
returns-in_ok-run_asked-in-Run g c = rw c.in-Run.is (if_ok c.only-in-Run.result (λ served only.
    if_some served (λ replies is. (
      c.in_ok-run_asked-in-Run.field-0,
      (none c.args.files.now c.in-empty-files.len_below, c.in_ok-run_asked-in-Run.ensures),
      is,
    )) only) c.only-in-Run.ensures)
