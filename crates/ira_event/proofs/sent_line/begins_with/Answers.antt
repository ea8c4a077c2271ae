use Rattle.std.proofs.Common.{◌-◌, arith}
use lib.Lanes.{chunk}
use Rattle.std.proofs.lemmas.Simd.{length-chunk}
use Rattle.ira_event.proofs.SameBytes.{ends_meet, same_lanes}
use Rattle.ira_event.proofs.sent_line.begins_with.Goals as goal

pub returns : goal.returns
returns c = λ yes.
    let text = c.args.text.now in
    let line = c.args.line.now in
    let start = c.args.len - 16 in
    let same = same_lanes (chunk 0 16 text) (chunk 0 16 line) (chunk start 16 text) (chunk start 16 line)
    (length-chunk 0 16 text (omega arith)) (length-chunk 0 16 line (omega arith))
    (length-chunk start 16 text (omega arith)) (length-chunk start 16 line (omega arith))
    yes in
    ends_meet _ _ c.args.len c.requires.least c.requires.most same.0 same.1
