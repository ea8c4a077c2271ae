use Rattle.std.proofs.Common.{◌≡◌, ◌∙◌, ◌+◌, ◌≤◌, ap, arith, drop, inl, inr, length, length-append, subst, sym, take}
use Rattle.std.proofs.lemmas.List.{take_all}
use Rattle.ira_main_files.specs.Shelf.{writing_by}
use Rattle.ira_main.proofs.LogFiles.{drafted_next, named_or_not}
use Rattle.ira_main.proofs.PartsAt.{parts_at}
use Rattle.ira_main.specs.LogFiles.{DraftsLogs}
use Rattle.ira_main.specs.LogFiles.StopsInLogs.{undrafted}
use Rattle.ira_main.specs.ProgramFault.{write_log_fault}
use Rattle.ira_main.proofs.log_files.write_files.Goals as goal

pub loop-place-preserved : goal.loop-place-preserved
loop-place-preserved g c =
    let writes = writing_by g.F.Shelf.creates g.F.Shelf.closes g.F.Shelf.keeps g.F.Out.Sink.state in
    let before = c.loop-place.invariant in
    let file = c.in-Ok.file in
    record {
      room = c.push_reserved.ensures.capacity ∙ before.room;
      count = omega (arith, before.count, simp length-append at (ap length c.push_reserved.ensures.items));
      drafted = elim c.in-Ok.ensures [
        | inl wrote ↦ subst (λ xs. DraftsLogs writes c.args.folder.now (take (c.loop-place.place + 1) c.args.logs.now) xs
            c.args.shelf.now c.write_file.new.shelf) (sym c.push_reserved.ensures.items)
            (drafted_next writes c.args.folder.now c.args.logs.now c.loop-place.files.items c.loop-place.place
            c.log.result.now file c.args.shelf.now c.loop-place.shelf c.write_file.new.shelf c.log.ensures.value
            before.drafted wrote)
        | inr none ↦ let never = none.1 in absurd cc
      ];
    }

pub returns-in-Err : goal.returns-in-Err
returns-in-Err g c =
    let logs = c.args.logs.now in
    let i = c.loop-place.place in
    let log = c.log.result.now in
    let at_place : log.place ≡ i = c.log.ensures.valid.places i log c.log.ensures.value in
    undrafted (record {
      front = take i logs;
      log = log;
      back = drop (i + 1) logs;
      parts = parts_at logs i log c.log.ensures.value;
      files = c.loop-place.files.items;
      between = c.loop-place.shelf;
      drafted = c.loop-place.invariant.drafted;
      why = c.in-Err.fault;
      undrafted = elim c.in-Err.ensures [
        | inl wrote ↦ inl wrote
        | inr none ↦ let told = none.1 in inr (none.0, cc)
      ];
      told = c.cannot_write_log.ensures ∙ ap (λ k. write_log_fault c.args.folder k c.in-Err.fault) (sym at_place);
    })

pub returns : goal.returns
returns g c =
    let writes = writing_by g.F.Shelf.creates g.F.Shelf.closes g.F.Shelf.keeps g.F.Out.Sink.state in
    let short : length c.args.logs.now ≤ c.loop-place.place = omega arith in
    let drafted = subst (λ xs. DraftsLogs writes c.args.folder.now xs c.loop-place.files.items c.args.shelf.now
    c.loop-place.shelf) (take_all c.loop-place.place c.args.logs.now short) c.loop-place.invariant.drafted in
    named_or_not writes c.args.folder c.args.logs.now c.loop-place.files.items c.args.shelf.now c.loop-place.shelf
    c.keep_files.new.shelf c.keep_files.result drafted c.keep_files.ensures
