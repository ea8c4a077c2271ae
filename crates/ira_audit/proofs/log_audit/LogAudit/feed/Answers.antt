use Rattle.std.proofs.Common.{◌≡◌, ◌≤◌, ◌++◌, ◌-◌, ap, arith, drop, length, length-append, take}
use Rattle.std.proofs.lemmas.List.{length-take-le}
use Rattle.ira_audit.proofs.LogAudits.{left_past, suffix_shorter, suffix_trans, taken_lines}
use Rattle.ira_audit.proofs.log_audit.LogAudit.feed.Goals as goal

pub overflow_sub-taken : goal.overflow_sub-taken
overflow_sub-taken c =
    let suffix = suffix_trans _ _ _ c.read_on-replay.ensures.suffix c.in-Ok.ensures.suffix in
    omega (arith, c.unread.ensures, suffix_shorter _ c.args.piece.now suffix)

pub invariant_of-self : goal.invariant_of-self
invariant_of-self c =
    let short = c.in-Ok.ensures.short in
    (omega (arith, short, ap (λ a. a.taken) c.self.view_is), c.read_on-replay.ensures.few)

pub returns-clause-taken : goal.returns-clause-taken
returns-clause-taken c = λ text h.
    let piece = c.args.piece.now in
    let left = c.read_on-replay.result.1 in
    let n = length piece - c.unread.result in
    let suffix = suffix_trans _ _ _ c.read_on-replay.ensures.suffix c.in-Ok.ensures.suffix in
    let many : n ≡ length piece - length left.rest = ap (λ k. length piece - k) c.unread.ensures in
    let within : n ≤ length piece = omega arith in
    let begun = c.read_on-replay.ensures.begun (text ++ piece) (c.in-Ok.ensures.begun text h) in (
      omega (
        arith,
        ap (λ a. a.taken) c.self.view_is,
        h.0,
        length-append text (take n piece),
        length-take-le n piece within,
      ),
      rw (
        c.read_on-replay.ensures.version,
        c.read_on-replay.ensures.count,
      ) at
          (taken_lines text piece c.read_on-replay.result.0 left n many suffix begun),
    )

pub returns-clause-all : goal.returns-clause-all
returns-clause-all c = λ short.
    let left = c.read_on-replay.result.1 in
    let suffix = suffix_trans _ _ _ c.read_on-replay.ensures.suffix c.in-Ok.ensures.suffix in
    let rest : drop (length c.args.piece.now - c.unread.result) c.args.piece.now ≡ left.rest =
    rw c.unread.ensures (left_past c.args.piece.now left.rest suffix) in (
      c.read_on-replay.result.2,
      rw (rest, ← c.read_on-replay.ensures.version, ← c.read_on-replay.ensures.count) c.read_on-replay.ensures.end,
    )
