use Rattle.std.proofs.Common.{ap, sym, subst, ◌∙◌}
use Rattle.ira_ring_threads.specs.Recorder.{Recorder, IsRecorder}
use Rattle.ira_ring_setup.specs.Recording.{IsRecorded}
use Rattle.ira_ring_setup.specs.Terms.{version_of}
use Rattle.ira_ring_threads.proofs.WantedEvents.{recorded}
use Rattle.ira_ring_threads.proofs.node_thread.node_body.Goals as goal

pub returns-clause-recorded : goal.returns-clause-recorded
returns-clause-recorded g c =
    let P : Recorder → Type 0 = λ r. IsRecorder r in
    let Q : Recorder → Type 0 =
    λ r. IsRecorded r.log.nodes r.log.place r.log.initiator c.args.work.draws.now r.cap c.args.work.terms
    c.into_log.result c.in_ok-end.end in
    let ended = c.in_ok-end.ensures in
    subst Q c.new-node.ensures
    (recorded c.turns.new.node c.new-node.result c.into_log.result c.in_ok-end.end c.args.work.draws.now
    c.args.work.terms (subst P c.node.view_is c.node.invariant.0) ended.node.0
    (ap (λ (r : Recorder). r.log.version) c.new-node.ensures ∙ c.log_version.ensures.value
    ∙ ap (λ (r : Recorder). version_of r.log.nodes c.args.work.terms) (sym c.new-node.ensures)) ended.node.1
    c.into_log.ensures ended.draws ended.yields ended.end)
