use Rattle.std.proofs.Common.{◌≤◌, arith, length, sym}
use Rattle.std.proofs.lemmas.List.{length-take-le}
use Rattle.ira_view_draw.proofs.moment_line.write_words.Goals as goal

pub slice_bounds-text-length : goal.slice_bounds-text-length
slice_bounds-text-length g c =
    let many : 98 ≤ length c.args.words.now = omega (arith, c.if-words-le-MOST.false) in
    sym (length-take-le 98 c.args.words.now many)
