use Rattle.std.proofs.Common.{◌≡◌, ◌∙◌, ◌+◌, ◌<◌, ◌++◌, ℕ, List, add-one, ap, arith, drop, drop-cons, length, refl, subst, sym}
use Rattle.std.specs.Prelude.{slice_index_or}
use Rattle.std.proofs.lemmas.Result.{err_from_is_err_and}
use Rattle.ira_event.specs.Sink.{Wrote}
use Rattle.ira_event.proofs.Writing.{HasWritten-more, HasWritten-stops}
use Rattle.ira_view_page.specs.Printable.{shown, shown_byte}
use Rattle.ira_main.proofs.ShownNames.{plain_shown}
use Rattle.ira_main.proofs.shown_name.write_shown.Goals as goal

-- what shows the bytes from one on begins with what shows it
next_byte : (bytes : List ℕ) (i d : ℕ) → i < length bytes
    → shown_byte (slice_index_or bytes i d) ++ shown (drop (i + 1) bytes) ≡ shown (drop i bytes)
next_byte bytes i d l = rw (add-one, drop-cons bytes i d l) refl

pub returns-then-shown_width-bytes : goal.returns-then-shown_width-bytes
returns-then-shown_width-bytes g c =
    let bytes = c.as_bytes-bytes.result.now in
    let same : length (shown bytes) ≡ length bytes =
    omega (arith, c.shown_width.ensures, c.if-shown_width-bytes.true, c.as_bytes-bytes.type_inv.1) in
    let plain : shown c.args.name.now ≡ bytes =
    ap shown (sym c.as_bytes-bytes.ensures.value) ∙ plain_shown bytes same in
    subst (λ text. Wrote c.write_bytes.result text (g.W.Sink.state c.args.sink.now)
    (g.W.Sink.state c.write_bytes.new.sink)) (sym plain) c.write_bytes.ensures

pub returns-in_err-write_shown_byte : goal.returns-in_err-write_shown_byte
returns-in_err-write_shown_byte g c =
    let bytes = c.as_bytes-bytes.result.now in
    let i = c.loop-byte.byte-index in
    let p = err_from_is_err_and c.from_residual.result c.from_residual.ensures.1 in
    HasWritten-stops _ _ p.1 (shown c.args.name.now) (shown (drop i bytes)) _ (shown (drop (i + 1) bytes)) _ _ _
    c.loop-byte.invariant (next_byte bytes i _ c.loop-byte-test.true) c.in_err-write_shown_byte.ensures

pub loop-byte-preserved : goal.loop-byte-preserved
loop-byte-preserved g c =
    let bytes = c.as_bytes-bytes.result.now in
    let i = c.loop-byte.byte-index in
    HasWritten-more (shown c.args.name.now) (shown (drop i bytes)) _ (shown (drop (i + 1) bytes)) _ _ _
    c.loop-byte.invariant (next_byte bytes i _ c.loop-byte-test.true) c.in_ok-write_shown_byte.ensures
