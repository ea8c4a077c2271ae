use Rattle.std.proofs.Common.{◌≡◌, None, arith, rules}
use Rattle.ira_main_files.proofs.LeadersTexts.{no_line_feed, no_number, place_there, too_large}
use Rattle.ira_main_files.proofs.leaders_text.scan_place.Goals as goal

pub returns-in_err-place : goal.returns-in_err-place
returns-in_err-place c =
    let none : c.from_residual.result ≡ None = search rules in
    rw none (no_number c.args.text.now c.in_err-place.ensures)

pub returns-in_err-rest : goal.returns-in_err-rest
returns-in_err-rest c =
    let none : c.from_residual-in_err-rest.result ≡ None = search rules in
    rw none (no_line_feed c.args.text.now _ _ c.in_ok-place.ensures c.in_err-rest.ensures)

pub returns-then-place : goal.returns-then-place
returns-then-place c =
    place_there c.args.text.now _ _ _ c.in_ok-place.ensures c.in_ok-rest.ensures (omega (arith, c.if-place.true))

pub returns-else-place : goal.returns-else-place
returns-else-place c = too_large c.args.text.now _ _ c.in_ok-place.ensures (omega (arith, c.if-place.false))
