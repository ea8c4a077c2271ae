use Rattle.std.proofs.Common.{◌≡◌, ◌≤◌, ◌<◌, false, length, ap, ◌∙◌, sym, rules, arith, subst}
use Rattle.ira_main_files.proofs.Reading.{filled_more, length-taken, reads_left}
use Rattle.ira_main_files.proofs.read_text.read_text.Goals as goal

pub loop-input-preserved : goal.loop-input-preserved
loop-input-preserved g c =
    let before = c.loop-input.invariant in
    let read = c.read_more.ensures in
    let once = c.in_ok-filled.ensures.once in
    let bound = c.in_ok-filled.ensures.bound in
    let f = c.loop-input.filled in
    let n = c.in_ok-filled.field-0 in
    let ys = c.read_more.new.buffer.items in
    let given = length-taken ys f n bound in
    let unread : c.loop-input.input.is_over ≡ false = search rules in
    let before_read = rw unread at before.reads in
    let short : f ≤ 67108864 = c.if-filled-le-MAX_TEXT.true in
    let some : c.read_more.new.input.is_over ≡ false → 0 < n = λ e. subst (λ k. 0 < k) given (once.going e) in
    let after = reads_left c.read_more.new.input.is_over c.loop-input.input.reads c.read_more.new.input.reads n
    read.count some in
    record {
      filled = bound;
      size = omega (arith, read.size, before.size);
      bytes = filled_more _ _ _ _ ys f n read.front before.bytes once.given;
      reads = omega (arith, before_read, after);
      over = λ e.
          let none : n ≡ 0 = sym given ∙ ap length (once.end e).0 in
          omega (arith, none, short);
      fine = λ _. once.fine;
      end = λ _ e. (once.end e).1;
    }
