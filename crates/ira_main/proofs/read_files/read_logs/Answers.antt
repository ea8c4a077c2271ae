use Rattle.std.proofs.Common.{◌≡◌, ◌+◌, ◌*◌, ◌/◌, ◌%◌, ◌<◌, ◌≤◌, ◌∷◌, ap, arith, drop, get_or, length, min, rules}
use Rattle.std.proofs.Common.{subst, sym, take}
use Rattle.std.proofs.lemmas.Grind.{div_ceil_times}
use Rattle.std.specs.Vec.Iter.{into_iter_items}
use Rattle.ira_main.proofs.Shares.{AreShares, IsGathering, IsShare, after_chunk, chunk_shares, chunk_within}
use Rattle.ira_main.proofs.Shares.{gathered, gathering_fault, gathering_next, gathering_none}
use Rattle.ira_main.specs.FilesRead.{HasTakenFiles, Stops}
use Rattle.ira_main.proofs.read_files.read_logs.Goals as goal

pub loop-share-init : goal.loop-share-init
loop-share-init g c =
    let reads = g.F.TextSource.reads in
    let names = c.args.names.now in
    let shelf = c.args.shelf.now in
    let keep = c.args.keep in
    let size = c.share_size-size.result in
    let shares = c.in_ok-shares.shares.items in
    let rest : into_iter_items c.into_iter-share-iterator.result ≡ shares =
    c.into_iter-share-iterator.ensures.into_iter_gives.0 in
    let some : 0 < size = omega arith in
    let many : length shares ≡ length names / size + min 1 (length names % size) = search rules in
    let few = subst (λ n. length names ≤ n * size) (sym many) (div_ceil_times (length names) size some).0 in
    let are : AreShares (IsShare reads shelf keep) size names shares =
    chunk_shares (IsShare reads shelf keep) size names shares few (λ n d lt.
    let given = (c.in_ok-shares.ensures.each n d lt).1 in
    subst (λ some. IsShare reads shelf keep some (get_or shares n d)) given.argument_is.value given.call) in
    record {
      may_go_on = tt;
      ends = tt;
      left = search rules;
      within = omega arith;
      gathering = rw rest (gathering_none reads keep (IsShare reads shelf keep) size names shelf c.in_ok-logs.logs shares
          (c.in_ok-logs.ensures keep) are);
    }

pub returns-in-Err : goal.returns-in-Err
returns-in-Err g c =
    let reads = g.F.TextSource.reads in
    let names = c.args.names.now in
    let shelf = c.args.shelf.now in
    let keep = c.args.keep in
    let rest : into_iter_items c.loop-share.share-iterator ≡ c.in-Some.share ∷ into_iter_items c.next.new.self =
    c.in-Some.ensures.steps.0 in
    let fault = subst (λ some. Stops reads shelf some c.in-Err.fault)
    c.chunk_from-some.ensures (rw c.in-Err.is at c.in_ok-more.ensures) in
    gathering_fault reads keep (IsShare reads shelf keep) c.share_size-size.result names shelf
    (drop c.loop-share.done names) c.loop-share.logs _ _ _ c.loop-share.invariant.gathering rest _ fault

pub loop-share-preserved : goal.loop-share-preserved
loop-share-preserved g c =
    let reads = g.F.TextSource.reads in
    let names = c.args.names.now in
    let shelf = c.args.shelf.now in
    let keep = c.args.keep in
    let size = c.share_size-size.result in
    let done = c.loop-share.done in
    let steps = c.in-Some.ensures.steps in
    let rest : into_iter_items c.loop-share.share-iterator ≡ c.in-Some.share ∷ into_iter_items c.next.new.self =
    steps.0 in
    let long : length c.chunk_from-some.result.now ≡ length (take size (drop done names)) =
    ap length c.chunk_from-some.ensures in
    let taken = subst (λ some. HasTakenFiles reads shelf keep some c.in-Ok.more)
    c.chunk_from-some.ensures (rw c.in-Ok.is at c.in_ok-more.ensures) in
    let more = gathering_next reads keep (IsShare reads shelf keep) size names shelf (drop done names) c.loop-share.logs _ _ _
    c.loop-share.invariant.gathering rest c.in-Ok.more c.append.new.self taken
    c.in_ok-append-in-Ok.ensures in
    record {
      may_go_on = tt;
      ends = tt;
      left = omega (arith, ap length rest, steps.1);
      within = rw long (chunk_within size done names c.loop-share.invariant.within);
      gathering = rw long (subst (λ left. IsGathering reads keep (IsShare reads shelf keep) size names left shelf
          c.append.new.self (into_iter_items c.next.new.self)) (sym (after_chunk size done names)) more);
    }

pub returns : goal.returns
returns g c =
    let reads = g.F.TextSource.reads in
    let ended = c.in-None.ensures.steps.0 in
    gathered reads c.args.keep (IsShare reads c.args.shelf.now c.args.keep) c.share_size-size.result c.args.names.now
    c.args.shelf.now _ _ _ c.loop-share.invariant.gathering (omega arith)
