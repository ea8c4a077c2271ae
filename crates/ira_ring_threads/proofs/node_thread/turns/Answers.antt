use Rattle.std.proofs.Common.{◌<◌, ◌≤◌, ℕ, [], ◌∷◌, ◌++◌, ◌∙◌, refl, sym, subst, ap, arith}
use Rattle.std.proofs.lemmas.List.{append-nil, append_assoc, nil_from_length}
use Rattle.ira_event.specs.declared.event.Event.TheVariants.{Draw, Sent, Got, Yield}
use Rattle.ira_links.specs.declared.frame.Frame.TheVariants.{Load as Loaded}
use Rattle.ira_node.specs.declared.node_state.NodeState.{NodeState}
use Rattle.ira_node.specs.NodeStep.{HasStep}
use Rattle.ira_event.specs.Messages.{drawn}
use Rattle.ira_ring_setup.specs.Terms.{version_of}
use Rattle.ira_order.specs.Matching.{got}
use Rattle.ira_ring_threads.specs.NodeFrames.{frames}
use Rattle.ira_ring_threads.proofs.FramesOfLongerLogs.{so_far_first, so_far_more}
use Rattle.ira_ring_threads.proofs.RecorderGrows.{none_yields, yields_on}
use Rattle.ira_ring_threads.proofs.Versions.{sending_of_version, yield_of_version}
use Rattle.ira_ring_threads.proofs.WantedEvents.{choosing, choosing_leads_not, waiting, waiting_leads_not, owes_recordable}
use Rattle.ira_ring_threads.proofs.WantedEvents.{no_fault, has_room, has_step, all_first, all_rest, one_node}
use Rattle.ira_ring_threads.proofs.WantedEvents.{same_ring, same_version}
use Rattle.ira_ring_threads.proofs.node_thread.turns.Goals.{in_default-via-in-Yield+else-state-terms}
use Rattle.ira_ring_threads.proofs.node_thread.turns.Goals.{in_default-via-in-Draw-1}
use Rattle.ira_ring_threads.proofs.node_thread.turns.Goals as goal

pub loop-init : goal.loop-init
loop-init g c = record {
  links = (refl, refl);
  node = refl;
  cap = refl;
  so_far = so_far_first c.args.node.now.log _ _ _ c.requires.empty;
  yields = none_yields c.args.terms c.args.node.now.log.nodes _ c.args.node.now.log.events c.requires.empty;
  ids = c.requires.ids;
}

pub returns-in-Nothing-clause-yields : goal.returns-in-Nothing-clause-yields
returns-in-Nothing-clause-yields g c = c.loop.invariant.yields

pub returns-in-Yield-clause-yields : goal.returns-in-Yield-clause-yields
returns-in-Yield-clause-yields g c = c.loop.invariant.yields

pub returns-in_default-clause-yields : goal.returns-in_default-clause-yields
returns-in_default-clause-yields g c = c.loop.invariant.yields

pub returns-in-Stop-clause-yields : goal.returns-in-Stop-clause-yields
returns-in-Stop-clause-yields g c = c.loop.invariant.yields

pub unreachable-requires : goal.unreachable-requires
unreachable-requires g c =
    let below : c.state-state.result.term < c.args.terms = elim c.in_default.branch [
      | in_default-via-in-Yield+else-state-terms w ↦ omega (arith, w.if-state-terms.false)
      | in_default-via-in-Draw-1 w ↦ absurd (w.in_default.not-Yield c.in-Yield-2.is)
    ] in
    let low : c.loop.node.state.term < c.args.terms =
    omega (arith, below, ap (λ (x : NodeState). x.term) c.state-state.ensures.value) in
    let can = has_step _ _ _ _ c.state-state.ensures.value
    (c.in-Yield-2.ensures.can c.loop.node.log.nodes c.state-state.ensures.valid.log.size) in
    no_fault c.loop.node Yield c.in_default-record.field-0 can
    (yield_of_version c.loop.node c.args.terms c.state-state.ensures.valid
    (same_version c.loop.node.log c.args.node.now.log c.loop.invariant.node ∙ c.requires.version
    ∙ ap (λ (n : ℕ). version_of n c.args.terms)
    (sym (same_ring c.loop.node.log c.args.node.now.log c.loop.invariant.node))) low)
    c.in_default-record.ensures.err

pub loop-preserved-in-Yield-this : goal.loop-preserved-in-Yield-this
loop-preserved-in-Yield-this g c =
    let below : c.state-state.result.term < c.args.terms = elim c.in_default.branch [
      | in_default-via-in-Yield+else-state-terms w ↦ omega (arith, w.if-state-terms.false)
      | in_default-via-in-Draw-1 w ↦ absurd (w.in_default.not-Yield c.in-Yield-2.is)
    ] in
    let low : c.loop.node.state.term < c.args.terms =
    omega (arith, below, ap (λ (x : NodeState). x.term) c.state-state.ensures.value) in
    let longer = c.in-Ok.ensures in
    let was = c.loop.invariant in
    record {
      links = was.links;
      node = one_node c.loop.node.log c.record.new.self.log c.args.node.now.log _ longer.ok was.node;
      cap = longer.cap ∙ was.cap;
      so_far = so_far_more c.loop.node.log c.record.new.self.log Yield _ _ _ _ _ _ _ _ _ was.so_far longer.ok
          (sym (append-nil _)) (sym (append-nil _)) refl;
      yields = yields_on c.args.terms c.loop.node c.record.new.self.log Yield c.state-state.ensures.valid was.yields
          (λ is. low) longer.ok;
      ids = was.ids;
    }

pub unreachable-requires-in_default-record-2 : goal.unreachable-requires-in_default-record-2
unreachable-requires-in_default-record-2 g c =
    let P : ℕ → Type 0 = λ d. (1 ≤ d) × (d ≤ c.args.node.now.log.nodes) in
    let was = c.loop.invariant in
    let id = all_first P _ _ _ c.in-Some-split_first.ensures.cases.0 was.ids in
    let can = c.in-Draw.ensures.can c.loop.node.log.nodes c.state-state.ensures.valid.log.size
    c.in-Some-split_first.id.now id.0 (omega (arith, id.1, same_ring c.loop.node.log c.args.node.now.log was.node))
    in
    no_fault c.loop.node (Draw c.in-Some-split_first.id.now) c.in_default-record-2.field-0
    (has_step _ _ _ _ c.state-state.ensures.value can) refl c.in_default-record-2.ensures.err

pub returns-in_default-split_first : goal.returns-in_default-split_first
returns-in_default-split_first g c =
    let was = c.loop.invariant in
    let chooses = choosing c.state-state.result c.loop.node.state c.state-state.ensures.value c.in-Draw.ensures.value in
    let spent = ap (λ ids. drawn c.loop.node.log.events
    ++ ids) (nil_from_length c.loop.left.now c.in_default-split_first.ensures.cases) ∙ append-nil _ in
    record {
      node = (was.node, was.cap);
      links = was.links;
      put = was.so_far.puts;
      taken = was.so_far.takes ∙ ap (λ fs. c.args.input.now.frames ++ fs) (sym (append-nil _));
      draws = (c.loop.left.now, was.so_far.draws);
      yields = was.yields;
      end = (
        (
          choosing_leads_not c.args.terms c.loop.node.state chooses,
          has_room _ _ _ c.state-state.ensures.valid.count was.cap c.if-is_full.ensures.1,
        ),
        chooses,
        sym (was.so_far.draws ∙ spent),
      );
    }

pub loop-preserved-in-Draw-this : goal.loop-preserved-in-Draw-this
loop-preserved-in-Draw-this g c =
    let P : ℕ → Type 0 = λ d. (1 ≤ d) × (d ≤ c.args.node.now.log.nodes) in
    let longer = c.in-Ok-record.ensures in
    let was = c.loop.invariant in
    let first = c.in-Some-split_first.ensures.cases.0 in
    record {
      links = was.links;
      node = one_node c.loop.node.log c.record-in-Draw.new.self.log c.args.node.now.log _ longer.ok was.node;
      cap = longer.cap ∙ was.cap;
      so_far = so_far_more c.loop.node.log c.record-in-Draw.new.self.log (Draw c.in-Some-split_first.id.now) _ _ _ _ _ _
          _ _ _ was.so_far longer.ok (sym (append-nil _)) (sym (append-nil _)) first;
      yields = yields_on c.args.terms c.loop.node c.record-in-Draw.new.self.log (Draw c.in-Some-split_first.id.now)
          c.state-state.ensures.valid was.yields (λ is. absurd cc) longer.ok;
      ids = all_rest P _ _ _ first was.ids;
    }

pub put-requires : goal.put-requires
put-requires g c = owes_recordable _ _ _ c.state-state.ensures.value c.in-Send.ensures.value
    c.state-state.ensures.valid.numbers

pub record-requires-in-Send : goal.record-requires-in-Send
record-requires-in-Send g c = (
  has_room _ _ _ c.state-state.ensures.valid.count refl c.if-is_full.ensures.1,
  owes_recordable _ _ _ c.state-state.ensures.value c.in-Send.ensures.value c.state-state.ensures.valid.numbers,
)

pub unreachable-requires-in_default-record-3 : goal.unreachable-requires-in_default-record-3
unreachable-requires-in_default-record-3 g c =
    let can = has_step _ _ _ _ c.state-state.ensures.value
    (c.in-Send.ensures.can c.loop.node.log.nodes c.state-state.ensures.valid.log.size) in
    no_fault c.loop.node _ c.in_default-record-3.field-0 can
    (sending_of_version c.loop.node _ c.state-state.ensures.valid can) c.in_default-record-3.ensures.err

pub loop-preserved-in-Send-1 : goal.loop-preserved-in-Send-1
loop-preserved-in-Send-1 g c =
    let longer = c.in-Ok-record-2.ensures in
    let was = c.loop.invariant in
    record {
      links = (was.links.0, c.in-Ok-put.ensures.link ∙ was.links.1);
      node = one_node c.loop.node.log c.record-in-Send.new.self.log c.args.node.now.log _ longer.ok was.node;
      cap = longer.cap ∙ was.cap;
      so_far = so_far_more c.loop.node.log c.record-in-Send.new.self.log _ _ _ _ _ _ _ _ _ _ was.so_far longer.ok
          c.in-Ok-put.ensures.put (sym (append-nil _)) refl;
      yields = yields_on c.args.terms c.loop.node c.record-in-Send.new.self.log (Sent _) c.state-state.ensures.valid
          was.yields (λ is. absurd cc) longer.ok;
      ids = was.ids;
    }

pub returns-in-Err-NoStep : goal.returns-in-Err-NoStep
returns-in-Err-NoStep g c =
    let was = c.loop.invariant in
    let same = c.in-Err-NoStep.ensures.unchanged in
    let l = c.in-Load.load in
    let took = c.in_ok-take-in-Receipt.ensures in
    let waits = waiting c.state-state.result c.loop.node.state c.state-state.ensures.value c.in-Receipt.ensures.value in
    record {
      node = rw same (was.node, was.cap);
      links = (took.link ∙ was.links.0, was.links.1);
      put = rw same was.so_far.puts;
      taken = rw same (took.taken ∙ ap (λ f. c.loop.input.frames ++ f ∷ []) c.in-Load.is
          ∙ ap (λ fs. fs ++ Loaded l ∷ []) was.so_far.takes
          ∙ append_assoc c.args.input.now.frames (frames (got c.loop.node.log.events)) (Loaded l ∷ []));
      draws = rw same (c.loop.left.now, was.so_far.draws);
      yields = rw same was.yields;
      end = rw same (
        (
          (
            waiting_leads_not c.args.terms c.loop.node.state waits.1,
            has_room _ _ _ c.state-state.ensures.valid.count was.cap c.if-is_full.ensures.1,
          ),
          waits.0,
          waits.1,
        ),
        subst (λ (n : ℕ). ¬ (HasStep n c.loop.node.state (Got l)))
            (same_ring c.loop.node.log c.args.node.now.log was.node)
            (rw c.in-Err-NoStep.field-0-is at c.in-Err-NoStep.ensures.err),
      );
    }

pub loop-preserved : goal.loop-preserved
loop-preserved g c =
    let longer = c.in-Ok-record-3.ensures in
    let was = c.loop.invariant in
    let took = c.in_ok-take-in-Receipt.ensures in
    record {
      links = (took.link ∙ was.links.0, was.links.1);
      node = one_node c.loop.node.log c.record-in-Load.new.self.log c.args.node.now.log _ longer.ok was.node;
      cap = longer.cap ∙ was.cap;
      so_far = so_far_more c.loop.node.log c.record-in-Load.new.self.log (Got c.in-Load.load) _ _ _ _ _ _ _ _ _
          was.so_far longer.ok (sym (append-nil _)) (took.taken
          ∙ ap (λ f. c.loop.input.frames ++ f ∷ []) c.in-Load.is) refl;
      yields = yields_on c.args.terms c.loop.node c.record-in-Load.new.self.log (Got c.in-Load.load)
          c.state-state.ensures.valid was.yields (λ is. absurd cc) longer.ok;
      ids = was.ids;
    }
