use Rattle.std.proofs.Common.{◌≡◌, ◌++◌, List, length}
use Rattle.std.specs.Vec.Iter.{into_iter_items}
use Rattle.ira_main_files.specs.Shelf.{NamesAll, writing_by}
use Rattle.ira_main.proofs.log_files.keep_files.Given as goal

abbrev pub invariant-loop-file : goal.invariant-loop-file
invariant-loop-file g l = record {
  may_go_on : (goal.iterator-loop-file g).can_next l.file-iterator;
  ends : (goal.iterator-loop-file g).is_finite l.file-iterator;
  front : List g.row.F-Written.Denot;
  parts : front ++ into_iter_items l.file-iterator ≡ l.fn.files.items;
  at : l.place ≡ length front;
  named : NamesAll (writing_by g.F.Shelf.creates g.F.Shelf.closes g.F.Shelf.keeps g.F.Out.Sink.state) front
      l.fn.shelf l.shelf;
}
