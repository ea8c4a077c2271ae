use Rattle.std.proofs.Common.{refl}
use Rattle.std.proofs.lemmas.List.{append_assoc}
use Rattle.std.proofs.lemmas.Option.{slice_get-get_or}
use Rattle.ira_view_explain.specs.Refused.{AreStuckTold}
use Rattle.ira_view_page.specs.Parts.{none}
use Rattle.ira_view_page.proofs.Parts.{parts_all, parts_more}
use Rattle.ira_view_explain.proofs.ring_files.RingFiles.stuck_evidence.Goals as goal

pub loop-at-init : goal.loop-at-init
loop-at-init g c = rw c.new-told.ensures.items none

pub loop-at-preserved : goal.loop-at-preserved
loop-at-preserved g c =
    parts_more (AreStuckTold c.args.self.now.files.now) c.args.stuck.now c.loop-at.at-index _ c.loop-at.told.items _ _
    (slice_get-get_or c.args.stuck.now c.loop-at.at-index _ c.loop-at-test.true) c.loop-at.invariant
    (c.in_ok-record.field-0, c.in_ok-record-2.field-0, refl, c.in_ok-record.ensures, c.in_ok-record-2.ensures)
    (rw (c.in_ok-push-2.ensures.items, c.in_ok-push.ensures.items) (append_assoc c.loop-at.told.items _ _))

pub returns : goal.returns
returns g c =
    parts_all (AreStuckTold c.args.self.now.files.now) c.args.stuck.now c.loop-at.at-index c.loop-at.told.items
    c.loop-at-test.false c.loop-at.invariant
