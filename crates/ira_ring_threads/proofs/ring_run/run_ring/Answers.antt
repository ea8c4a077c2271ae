use Rattle.std.proofs.Common.{◌≡◌, ◌∙◌, ℕ, List, Option, None, replicate, ap, sym, refl, length, arith}
use Rattle.std.proofs.lemmas.List.{length-replicate}
use Rattle.ira_event.specs.Log.{Log}
use Rattle.ira_ring_setup.specs.declared.node_end.NodeEnd.{NodeEnd}
use mir.Syntax.{of_param}
use denote.Exit.{unseen}
use denote.Param.Send.{Quiet-if}
use Rattle.ira_ring_setup.specs.Setup.{Setup, KeepsRules}
use Rattle.ira_ring_threads.specs.FinishedNode.{AreFinishedOnRing}
use Rattle.ira_ring_threads.proofs.SettledLinks.{ok_of}
use Rattle.ira_ring_threads.proofs.Recordings.{is_recording}
use Rattle.ira_ring_setup.proofs.AgreementLaws.{recording_agrees}
use Rattle.ira_ring_threads.proofs.ring_run.run_ring.Goals as goal

pub scoped-requires : goal.scoped-requires
scoped-requires g c =
    let kept : KeepsRules c.args.setup.now = c.if-not-keeps_rules.ensures.0 refl in
    let room = c.in_ok-room.ensures in
    let bounds = c.type_bounds in
    record {
      at = λ a. (
        (kept, room.tasks, room.started_nodes.0, room.started_nodes.1, room.finished_nodes.0, room.finished_nodes.1),
        (
          record {
            owned = bounds.send-A.owned;
            leaving = λ k. Quiet-if (k (of_param 2)) unseen unseen (λ x w. tt) (λ x w. tt);
          },
          record { shared = bounds.sync-R.shared },
          record { shared = bounds.sync-G.shared },
          record { shared = bounds.sync-A.shared },
          bounds.frees-A-Allocator,
        ),
      );
    }

collected : (n : ℕ) (taken : List (Option (Log × NodeEnd))) → taken ≡ replicate n None → length taken ≡ n
collected n taken is = ap length is ∙ length-replicate n None

pub settle_all-requires-clause-none : goal.settle_all-requires-clause-none
settle_all-requires-clause-none g c =
    let taken = c.in_ok-room.room.collector in
    let is = c.in_ok-room.ensures.collector in
    is ∙ ap (λ (n : ℕ). replicate n None) (sym (collected c.args.setup.now.nodes taken is))

pub settle_all-requires-clause-size : goal.settle_all-requires-clause-size
settle_all-requires-clause-size g c =
    let kept : KeepsRules c.args.setup.now = c.if-not-keeps_rules.ensures.0 refl in
    omega (
      arith,
      kept.size.0,
      collected c.args.setup.now.nodes c.in_ok-room.room.collector c.in_ok-room.ensures.collector,
    )

pub settle_all-requires-clause-ring : goal.settle_all-requires-clause-ring
settle_all-requires-clause-ring g c =
    let s : Setup = c.args.setup.now in (
      s,
      sym (collected s.nodes c.in_ok-room.room.collector c.in_ok-room.ensures.collector),
      ok_of c.scoped.result c.in_ok-finished_nodes.finished_nodes (λ finished_nodes.
          AreFinishedOnRing s finished_nodes.items) c.in_ok-finished_nodes.was c.scoped.ensures.1.0,
      c.if-not-keeps_rules.ensures.0 refl,
    )

pub returns-clause-recording : goal.returns-clause-recording
returns-clause-recording g c =
    let s : Setup = c.args.setup.now in
    let ring = ok_of c.scoped.result c.in_ok-finished_nodes.finished_nodes (λ finished_nodes.
    AreFinishedOnRing s finished_nodes.items) c.in_ok-finished_nodes.was c.scoped.ensures.1.0 in
    let settled = c.settle_all.ensures in
    is_recording s c.in_ok-finished_nodes.finished_nodes.items c.settle_all.result settled.valid ring settled.passed
    settled.logs settled.ends

pub returns-clause-agrees : goal.returns-clause-agrees
returns-clause-agrees g c =
    recording_agrees c.args.setup.now c.settle_all.result (c.if-not-keeps_rules.ensures.0 refl)
    (returns-clause-recording g c)

pub returns-clause-ended : goal.returns-clause-ended
returns-clause-ended g c = (returns-clause-agrees g c).own_end
