use Rattle.std.proofs.Common.{◌≡◌, ◌≤◌, ◌<◌, ◌∙◌, ℕ, Bool, List, ◌++◌, length, All, ap, sym, subst, arith}
use Rattle.std.proofs.lemmas.List.{length-map}
use Rattle.std.proofs.lemmas.Result.{IfOk-from_err}
use Rattle.ira_ring_threads.specs.NodeFrames.{frames_put, frames_taken}
use Rattle.ira_ring_threads.specs.NodeTask.{NodeTask}
use Rattle.ira_ring_setup.specs.Setup.{Setup, is_initiator, node_draws}
use Rattle.ira_ring_setup.specs.Recording.{IsRecorded}
use Rattle.ira_ring_setup.proofs.Setups.{read_setup}
use Rattle.ira_ring_threads.proofs.node_task.NodeTask.run.Goals as goal

pub invariant_of-work : goal.invariant_of-work
invariant_of-work g c =
    let s : Setup = c.args.setup.now in
    let place : c.self.inside.place ≡ c.args.self.place = ap (λ (x : NodeTask). x.place) c.self.view_is in
    let cap : c.self.inside.cap ≡ c.args.self.cap = ap (λ (x : NodeTask). x.cap) c.self.view_is in
    let nodes : c.setup.inside.nodes ≡ s.nodes = ap (λ (x : Setup). x.nodes) c.setup.view_is in
    let terms : c.setup.inside.terms ≡ s.terms = ap (λ (x : Setup). x.terms) c.setup.view_is in
    let within : c.self.inside.place < s.nodes = omega (arith, place, c.requires.place) in
    let read = read_setup (λ v. v.items) c.setup.inside.nodes _ _ _ _ s c.self.inside.place c.index.result.now
    c.index-2.result.now c.setup.view_is c.requires.rules.lists within (rw c.from.ensures at c.index.ensures)
    (rw c.from-2.ensures at c.index-2.ensures) in
    let ids : c.deref.result.now ≡ node_draws s c.self.inside.place = c.deref.ensures.value ∙ read.1 in
    let P : ℕ × List ℕ → Type 0 = λ z. All (λ d. (1 ≤ d) × (d ≤ z.0)) z.1 in
    record {
      is_place = omega (arith, place, nodes, c.requires.place);
      are_ids = subst P (λ j. (sym nodes j, sym ids j)) (c.requires.rules.ids c.self.inside.place within);
      is_cap = omega (arith, cap, c.requires.cap, c.requires.rules.cap.0, c.requires.rules.cap.1);
      are_terms = omega (arith, terms, c.requires.rules.terms.0, c.requires.rules.terms.1);
      has_room = (c.self.invariant.0, c.self.invariant.1);
    }

pub returns : goal.returns
returns g c =
    let s : Setup = c.args.setup.now in
    let place : c.self.inside.place ≡ c.args.self.place = ap (λ (x : NodeTask). x.place) c.self.view_is in
    let cap : c.self.inside.cap ≡ s.cap = ap (λ (x : NodeTask). x.cap) c.self.view_is ∙ c.requires.cap in
    let nodes : c.setup.inside.nodes ≡ s.nodes = ap (λ (x : Setup). x.nodes) c.setup.view_is in
    let terms : c.setup.inside.terms ≡ s.terms = ap (λ (x : Setup). x.terms) c.setup.view_is in
    let within : c.self.inside.place < s.nodes = omega (arith, place, c.requires.place) in
    let read = read_setup (λ v. v.items) c.setup.inside.nodes _ _ _ _ s c.self.inside.place c.index.result.now
    c.index-2.result.now c.setup.view_is c.requires.rules.lists within (rw c.from.ensures at c.index.ensures)
    (rw c.from-2.ensures at c.index-2.ensures) in
    let kind : c.index.result.now ≡ is_initiator s c.args.self.place =
    read.0 ∙ ap (λ (i : ℕ). is_initiator s i) place in
    let ids : c.deref.result.now ≡ node_draws s c.args.self.place =
    c.deref.ensures.value ∙ read.1 ∙ ap (λ (i : ℕ). node_draws s i) place in
    let part = c.in_ok-part.part in
    let P : ℕ × ℕ × Bool × List ℕ × ℕ × ℕ → Type 0 = λ z. IsRecorded z.0 z.1 z.2 z.3 z.4 z.5 part.log part.end in
    record {
      place = c.in_ok-part.ensures.place ∙ place;
      recorded = subst P (λ j. (nodes j, place j, kind j, ids j, cap j, terms j)) c.in_ok-part.ensures.recorded;
      input = c.in_ok-part.ensures.links.0 ∙ ap (λ (x : NodeTask). x.input) c.self.view_is;
      output = c.in_ok-part.ensures.links.1 ∙ ap (λ (x : NodeTask). x.output) c.self.view_is;
      put = c.in_ok-part.ensures.put ∙ ap (λ fs. fs ++ frames_put part.log.events) c.self.invariant.3;
      taken = c.in_ok-part.ensures.taken ∙ ap (λ fs. fs ++ frames_taken part.log.events part.end) c.self.invariant.2;
    }

pub returns-in_err-part : goal.returns-in_err-part
returns-in_err-part g c = IfOk-from_err _ _ c.from_residual.ensures.0

pub index-requires : goal.index-requires
index-requires g c =
    let place : c.self.inside.place ≡ c.args.self.place = ap (λ (x : NodeTask). x.place) c.self.view_is in
    let kinds : length c.setup.inside.initiators.items ≡ c.args.setup.now.nodes =
    ap (λ (x : Setup). length x.initiators) c.setup.view_is ∙ c.requires.rules.lists.0 in
    omega (arith, c.from.ensures, place, kinds, c.setup.inside.initiators.ok.0, c.requires.place)

pub index-requires-2 : goal.index-requires-2
index-requires-2 g c =
    let place : c.self.inside.place ≡ c.args.self.place = ap (λ (x : NodeTask). x.place) c.self.view_is in
    let rows : length c.setup.inside.draws.items ≡ c.args.setup.now.nodes =
    sym (length-map c.setup.inside.draws.items (λ v. v.items)) ∙ ap (λ (x : Setup). length x.draws) c.setup.view_is
    ∙ c.requires.rules.lists.1 in
    omega (arith, c.from-2.ensures, place, rows, c.setup.inside.draws.ok.0, c.requires.place)
