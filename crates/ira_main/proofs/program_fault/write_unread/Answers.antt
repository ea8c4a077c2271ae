use Rattle.std.proofs.Common.{◌≡◌, ◌+◌, ◌<◌, ◌++◌, ℕ, List, add-one, drop, drop-cons, length, refl, subst, sym}
use Rattle.std.specs.Prelude.{slice_index_or}
use Rattle.std.specs.List.{flat_map}
use Rattle.std.proofs.lemmas.Result.{err_from_is_err_and}
use Rattle.ira_event.proofs.Writing.{HasWritten-more, HasWritten-stops}
use Rattle.ira_ring_setup.proofs.EndLines.{next-text}
use Rattle.ira_main.specs.FileFault.{unread_text}
use Rattle.ira_main.proofs.program_fault.write_unread.Goals as goal

-- the lines from a name on begin with its own
next_line : (names : List (List ℕ)) (i : ℕ) (name : List ℕ) → i < length names → name ≡ slice_index_or names i name
    → unread_text name ++ flat_map unread_text (drop (i + 1) names) ≡ flat_map unread_text (drop i names)
next_line names i name l is =
    subst (λ (n : List ℕ). unread_text n ++ flat_map unread_text (drop (i + 1) names) ≡ flat_map unread_text (drop i names))
    (sym is) (next-text unread_text (unread_text (slice_index_or names i name)) (slice_index_or names i name) (drop i names)
    (drop (i + 1) names) refl (rw (add-one, drop-cons names i name l) refl))

pub returns-in_err-write_naming : goal.returns-in_err-write_naming
returns-in_err-write_naming g c =
    let names = c.args.names.now in
    let i = c.loop-name.name-index in
    let p = err_from_is_err_and c.from_residual.result c.from_residual.ensures.1 in
    HasWritten-stops _ _ p.1 (flat_map unread_text names) (flat_map unread_text (drop i names)) _
    (flat_map unread_text (drop (i + 1) names)) _ _ _ c.loop-name.invariant
    (next_line names i _ c.loop-name-test.true c.name-item.is) (rw c.as_str.ensures at c.in_err-write_naming.ensures)

pub loop-name-preserved : goal.loop-name-preserved
loop-name-preserved g c =
    let names = c.args.names.now in
    let i = c.loop-name.name-index in
    HasWritten-more (flat_map unread_text names) (flat_map unread_text (drop i names)) _
    (flat_map unread_text (drop (i + 1) names)) _ _ _ c.loop-name.invariant
    (next_line names i _ c.loop-name-test.true c.name-item.is) (rw c.as_str.ensures at c.in_ok-write_naming.ensures)
