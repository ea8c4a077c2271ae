use Rattle.std.proofs.Common.{◌≡◌, ◌-◌, length, replicate, sym, ◌∙◌, ap, subst, slice_set, rules, arith}
use Rattle.std.specs.Prelude.{slice_index}
use Rattle.std.proofs.lemmas.List.{get_or-replicate}
use Rattle.ira_order.specs.Ring.{log_of}
use Rattle.ira_order.specs.DirectDependencies.{IsSending, AreCountsSoFar}
use Rattle.ira_order.proofs.WayBack.{counts_begin, counts_none, counts_on}
use Rattle.ira_order.proofs.direct_dependencies.DirectDependenciesHappenedBefore.write_counts.Goals as goal

pub back-init : goal.back-init
back-init g c =
    let logs = c.args.self.now in
    let filled : c.fill.new.self ≡ replicate (length c.args.counts.now) 0 =
    c.fill.ensures.after (λ y is. search rules) in
    subst (λ r. AreCountsSoFar logs c.args.j c.args.b c.args.j r c.fill.new.self)
    (sym c.received-received.ensures.receipts)
    (counts_begin logs c.received-received.ensures.valid c.args.j c.args.b c.fill.new.self c.requires.place
    c.requires.position (c.fill.ensures.len ∙ c.requires.room)
    (λ i li. ap (λ xs. slice_index xs i) filled
    ∙ get_or-replicate (length c.args.counts.now) i 0 0 (omega (arith, li, c.requires.room))))

pub back-preserved : goal.back-preserved
back-preserved g c =
    let logs = c.args.self.now in let last = c.in-Some.ensures.sending in
    subst (λ x. AreCountsSoFar logs c.args.j c.args.b c.in-Some.writer c.in-Some.sending.received
    (slice_set c.back.counts x c.in-Some.sending.number)) (sym c.from.ensures)
    (subst (λ x. AreCountsSoFar logs c.args.j c.args.b x c.in-Some.sending.received
    (slice_set c.back.counts x c.in-Some.sending.number)) (sym last.1)
    (counts_on logs c.received-received.ensures.valid c.args.j c.args.b c.back.node c.back.received c.back.counts
    c.requires.place c.back.invariant (λ q. c.if-writer-j.false (last.1 ∙ q)) c.in-Some.sending last.0
    (subst (λ x. IsSending (log_of logs x) (c.back.received - 1) c.in-Some.sending) last.1 last.2)))

pub returns-clause-counts : goal.returns-clause-counts
returns-clause-counts g c =
    counts_none c.args.self.now c.received-received.ensures.valid c.args.j c.args.b c.back.node c.back.received
    c.back.counts c.requires.place c.back.invariant c.in_default.ensures.sending
