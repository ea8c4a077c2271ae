use Rattle.std.proofs.Common.{◌≤◌, arith, length}
use Rattle.ira_event.proofs.PassedOn.{ones_raised, tens_raised}
use Rattle.ira_event.proofs.sent_line.raise_hop.Goals as goal

pub returns-then-ones-lt57 : goal.returns-then-ones-lt57
returns-then-ones-lt57 c = λ word m line.
    let long : c.args.len ≤ length c.args.room.now = omega (arith, c.told-room, c.requires.most) in
    ones_raised word c.args.room.now c.args.len m long line c.if-ones-lt57.true

pub returns : goal.returns
returns c = λ word m line.
    let long : c.args.len ≤ length c.args.room.now = omega (arith, c.told-room, c.requires.most) in
    tens_raised word c.args.room.now c.args.len m long line c.if-ones-lt57.false c.if-tens-lt48.false
    c.if-tens-ge57.false
