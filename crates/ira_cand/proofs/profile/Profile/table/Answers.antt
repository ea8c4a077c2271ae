use Rattle.std.proofs.Common.{◌≡◌, ◌++◌, ◌+◌, ◌∷◌, [], All, cond, get_or, length, refl, sym, ap, subst, ◌∙◌, Some}
use Rattle.std.proofs.Common.{arith, drop, slice_get}
use Rattle.std.proofs.lemmas.List.{append-nil, drop_more, drop_all, get_or_default}
use Rattle.ira_event.specs.Log.{Log}
use Rattle.ira_node.specs.declared.phase.Phase.TheVariants.{Choosing}
use Rattle.ira_pred.specs.Clause.{formula}
use Rattle.ira_cand.specs.declared.phase_span.PhaseSpan.{PhaseSpan}
use Rattle.ira_cand.specs.Profile.{IsProfile, HasKind, TableAt, in_first_round, stages_in}
use Rattle.ira_cand.proofs.Profiles.{kind_of_span, span_room, table_begin, table_end}
use Rattle.ira_cand.proofs.profile.Profile.table.Goals as goal
use Rattle.ira_cand.proofs.profile.Profile.table.Goals.{then-holds+in_ok-push, else-holds}

pub loop-span-init : goal.loop-span-init
loop-span-init g c =
    let log = c.args.self.now in
    let spans = c.deref-span-items.result.now in
    let kinds = c.self.inside.kinds.items in
    let last = c.self.inside.last in
    let is : IsProfile log spans kinds last =
    subst (λ rs. IsProfile log rs kinds last) (sym c.deref-span-items.ensures.value)
    (subst (λ l. IsProfile l c.self.inside.spans.items kinds last) c.self.view_is c.self.invariant) in
    subst (TableAt log last (formula c.args.clause.now) (stages_in spans) 0) (sym c.new-found.ensures.items)
    (table_begin log last (formula c.args.clause.now) spans kinds is)

-- the span that the loop reads
abbrev no_span : PhaseSpan
no_span = record { stage = record { term = 0; phase = Choosing 0 }; kind = 0; count = 0 }

pub overflow_add-end : goal.overflow_add-end
overflow_add-end g c =
    let spans = c.deref-span-items.result.now in
    let k = c.loop-span.span-index in
    let log = c.args.self.now in
    let room = span_room log c.self.inside.last (formula c.args.clause.now) (get_or spans k no_span) (drop (k + 1) spans)
    c.loop-span.position c.loop-span.found.items (subst (λ rs. TableAt log c.self.inside.last
    (formula c.args.clause.now) (stages_in rs) c.loop-span.position c.loop-span.found.items)
    (drop_more spans k no_span c.loop-span-test.true) c.loop-span.invariant) in
    let few = c.self.invariant.few in
    let same = ap (λ (l : Log). length l.events) c.self.view_is in omega (arith, room, few, same)

pub span_answers-requires : goal.span_answers-requires
span_answers-requires g c = λ pair there.
    let spans = c.deref-span-items.result.now in
    let span : PhaseSpan = get_or spans c.loop-span.span-index no_span in
    let kinds = c.self.inside.kinds.items in
    let theirs : All (HasKind kinds) spans =
    subst (All (HasKind kinds)) (sym c.deref-span-items.ensures.value) c.self.invariant.kinds_are in
    let its : HasKind kinds span =
    kind_of_span kinds spans c.loop-span.span-index span theirs c.loop-span-test.true
    (sym (get_or_default spans c.loop-span.span-index span no_span c.loop-span-test.true)) in
    let here : slice_get c.deref.result.now span.kind ≡ Some (in_first_round span.stage) =
    ap (λ ks. slice_get ks span.kind) c.deref.ensures.value ∙ its in
    let told : slice_get c.in_ok-known.known.items span.kind ≡ Some pair =
    ap (λ ks. slice_get ks span.kind) (sym c.deref-in-loop-span.ensures.value) ∙ there in
    c.in_ok-known.ensures span.kind span.stage pair here told

pub pick-requires : goal.pick-requires
pick-requires g c =
    let spans = c.deref-span-items.result.now in
    let k = c.loop-span.span-index in
    let log = c.args.self.now in
    span_room log c.self.inside.last (formula c.args.clause.now) (get_or spans k no_span) (drop (k + 1) spans)
    c.loop-span.position c.loop-span.found.items (subst (λ rs. TableAt log c.self.inside.last
    (formula c.args.clause.now) (stages_in rs) c.loop-span.position c.loop-span.found.items)
    (drop_more spans k no_span c.loop-span-test.true) c.loop-span.invariant)

pub loop-span-preserved : goal.loop-span-preserved
loop-span-preserved g c =
    let spans = c.deref-span-items.result.now in
    let k = c.loop-span.span-index in
    let span = get_or spans k no_span in
    let f = formula c.args.clause.now in
    let last = c.self.inside.last in
    c.in_ok-pick.ensures last f span.stage span.count (stages_in (drop (k + 1) spans)) refl c.span_answers.ensures
    (subst (λ rs. TableAt c.args.self.now last f (stages_in rs) c.loop-span.position c.loop-span.found.items)
    (drop_more spans k no_span c.loop-span-test.true) c.loop-span.invariant)

pub returns : goal.returns
returns g c =
    let spans = c.deref-span-items.result.now in
    let f = formula c.args.clause.now in
    let last = c.self.inside.last in
    let p = c.loop-span.position in
    let found = c.loop-span.found.items in
    table_end c.args.self.now last f p found c.if-holds.found.items
    (subst (λ rs. TableAt c.args.self.now last f (stages_in rs) p found)
    (drop_all c.loop-span.span-index spans c.loop-span-test.false) c.loop-span.invariant)
    (elim c.if-holds.branch [
      | then-holds+in_ok-push w ↦ ap (λ v. v.items) w.found-is ∙ w.in_ok-push.ensures.items
          ∙ ap (λ b. found ++ cond b (p ∷ []) []) (sym w.if-holds.true ∙ c.holds.ensures.value)
      | else-holds w ↦ ap (λ v. v.items) w.found-is ∙ sym (append-nil found)
          ∙ ap (λ b. found ++ cond b (p ∷ []) []) (sym w.if-holds.false ∙ c.holds.ensures.value)
    ])
