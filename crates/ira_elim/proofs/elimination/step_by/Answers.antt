use Rattle.std.proofs.Common.{◌≡◌, ◌+◌, ℕ, Option, None, MatchOption, true, false, slice_set, sym}
use Rattle.std.proofs.Common.{subst, ap, ◌∙◌, arith}
use Rattle.std.proofs.lemmas.Option.{slice_get_within}
use Rattle.ira_order.specs.Before.{Before}
use Rattle.ira_cert_text.specs.declared.cert_step.CertStep.{CertStep}
use Rattle.ira_elim.specs.Elimination.{IsFirstLeft}
use Rattle.ira_elim.specs.CandidateClock.{IsCandidateClock}
use Rattle.ira_elim.proofs.Places.{one_first}
use Rattle.ira_elim.proofs.Standing.{eliminates, found_at, refreshed, stand_is}
use Rattle.ira_elim.proofs.elimination.step_by.Goals as goal
use Rattle.ira_elim.proofs.elimination.step_by.Goals.{then-node-other-via-then-node-other, then-node-other-via-else-node-other+then-not-knows}

none_is : (found : Option CertStep) (N : Type 0) (P : CertStep → Type 0) → found ≡ None → N → MatchOption found N P
none_is found N P e none = subst (λ (o : Option CertStep). MatchOption o N P) (sym e) none

pub returns-in_err-pos-clause-step : goal.returns-in_err-pos-clause-step
returns-in_err-pos-clause-step g c =
    none_is _ _ _ c.from_residual.ensures
    (λ s node other is. c.in_err-pos.ensures s.pos
    (subst (λ (i : ℕ). IsFirstLeft c.args.queues.now i s.pos) node is.front))

pub returns-in_err-other_pos-clause-step : goal.returns-in_err-other_pos-clause-step
returns-in_err-other_pos-clause-step g c =
    none_is _ _ _ c.from_residual-in_err-other_pos.ensures
    (λ s node other is. c.in_err-other_pos.ensures s.other_pos
    (subst (λ (i : ℕ). IsFirstLeft c.args.queues.now i s.other_pos) other is.other_front))

pub index_mut-requires : goal.index_mut-requires
index_mut-requires g c =
    let stands = c.args.stands.now.items in
    let st = c.requires.stands c.args.other c.in_ok-other_pos.other_pos c.in_ok-other_pos.ensures in
    omega (arith, c.from.ensures, slice_get_within stands c.args.other st.0 st.1, c.args.stands.now.ok)

pub knows-requires-clause-places : goal.knows-requires-clause-places
knows-requires-clause-places g c = (
  (c.requires.within c.args.other c.in_ok-other_pos.other_pos c.in_ok-other_pos.ensures).0,
  (c.requires.within c.args.node c.in_ok-pos.pos c.in_ok-pos.ensures).0,
)

pub knows-requires-clause-within : goal.knows-requires-clause-within
knows-requires-clause-within g c =
    let logs = (g.C.HappenedBefore.logs_of c.args.ordered.now) in
    let stands = c.args.stands.now.items in let first = c.in_ok-other_pos.ensures in
    let st = c.requires.stands c.args.other c.in_ok-other_pos.other_pos first in
    let at = found_at stands c.from.result c.args.other c.index_mut.result.now c.from.ensures
    (omega (arith, c.from.ensures, slice_get_within stands c.args.other st.0 st.1)) c.index_mut.ensures.value in
    let stand = stand_is logs c.args.queues.now stands c.requires.within c.requires.stands c.args.other
    c.in_ok-other_pos.other_pos c.index_mut.result.now first at in
    omega (arith, stand.position, (c.requires.within c.args.other c.in_ok-other_pos.other_pos first).1)

pub knows-requires-clause-old : goal.knows-requires-clause-old
knows-requires-clause-old g c =
    let logs = (g.C.HappenedBefore.logs_of c.args.ordered.now) in
    let stands = c.args.stands.now.items in let first = c.in_ok-other_pos.ensures in
    let st = c.requires.stands c.args.other c.in_ok-other_pos.other_pos first in
    let at = found_at stands c.from.result c.args.other c.index_mut.result.now c.from.ensures
    (omega (arith, c.from.ensures, slice_get_within stands c.args.other st.0 st.1)) c.index_mut.ensures.value in
    let stand = stand_is logs c.args.queues.now stands c.requires.within c.requires.stands c.args.other
    c.in_ok-other_pos.other_pos c.index_mut.result.now first at in
    subst (λ (n : ℕ). IsCandidateClock logs c.args.other n c.index_mut.result.now) (sym stand.position) stand

pub returns-then-node-other-clause-stands : goal.returns-then-node-other-clause-stands
returns-then-node-other-clause-stands g c =
    let logs = (g.C.HappenedBefore.logs_of c.args.ordered.now) in
    let stands = c.args.stands.now.items in let first = c.in_ok-other_pos.ensures in
    elim c.then-node-other.branch [
      | then-node-other-via-then-node-other w ↦ rw w.stands-is c.requires.stands
      | then-node-other-via-else-node-other+then-not-knows w ↦
          let st = c.requires.stands c.args.other c.in_ok-other_pos.other_pos first in
          let at = found_at stands w.from.result c.args.other w.index_mut.result.now w.from.ensures
          (omega (arith, w.from.ensures, slice_get_within stands c.args.other st.0 st.1)) w.index_mut.ensures.value in
          rw w.stands-is (refreshed logs c.args.queues.now stands c.requires.within c.requires.stands c.args.other _
          w.index_mut.result.now w.knows.new.self at
          (ap (λ (k : ℕ). slice_set stands k w.knows.new.self) w.from.ensures) w.knows.ensures.new)
    ]

pub returns-then-node-other-clause-step : goal.returns-then-node-other-clause-step
returns-then-node-other-clause-step g c = λ s node other is.
    let logs = (g.C.HappenedBefore.logs_of c.args.ordered.now) in
    let stands = c.args.stands.now.items in let first = c.in_ok-other_pos.ensures in
    elim c.then-node-other.branch [
      | then-node-other-via-then-node-other w ↦ absurd (is.differ (node ∙ w.if-node-other.true ∙ sym other))
      | then-node-other-via-else-node-other+then-not-knows w ↦
          let st = c.requires.stands c.args.other c.in_ok-other_pos.other_pos first in
          let at = found_at stands w.from.result c.args.other w.index_mut.result.now w.from.ensures
          (omega (arith, w.from.ensures, slice_get_within stands c.args.other st.0 st.1)) w.index_mut.ensures.value in
          let stand = stand_is logs c.args.queues.now stands c.requires.within c.requires.stands c.args.other
          c.in_ok-other_pos.other_pos w.index_mut.result.now first at in
          let pos : s.pos ≡ c.in_ok-pos.pos =
          one_first c.args.queues.now s.node c.args.node s.pos c.in_ok-pos.pos node is.front c.in_ok-pos.ensures in
          let other_pos : s.other_pos ≡ w.index_mut.result.now.position =
          one_first c.args.queues.now s.other c.args.other s.other_pos c.in_ok-other_pos.other_pos other is.other_front
          first ∙ sym stand.position in
          let before : Before logs c.args.node (c.in_ok-pos.pos + 1) c.args.other w.index_mut.result.now.position =
          rw (node, other, pos, other_pos) at is.happened_before in
          let knows : w.knows.result ≡ true = (w.knows.ensures.value w.if-node-other.false).1 before in
          absurd (let none : true ≡ false = sym knows ∙ w.if-not-knows.true in cc)
    ]

pub returns-clause-stands : goal.returns-clause-stands
returns-clause-stands g c =
    let logs = (g.C.HappenedBefore.logs_of c.args.ordered.now) in
    let stands = c.args.stands.now.items in let first = c.in_ok-other_pos.ensures in
    let st = c.requires.stands c.args.other c.in_ok-other_pos.other_pos first in
    let at = found_at stands c.from.result c.args.other c.index_mut.result.now c.from.ensures
    (omega (arith, c.from.ensures, slice_get_within stands c.args.other st.0 st.1)) c.index_mut.ensures.value in
    refreshed logs c.args.queues.now stands c.requires.within c.requires.stands c.args.other _ c.index_mut.result.now
    c.knows.new.self at (ap (λ (k : ℕ). slice_set stands k c.knows.new.self) c.from.ensures) c.knows.ensures.new

pub returns-clause-step : goal.returns-clause-step
returns-clause-step g c =
    let logs = (g.C.HappenedBefore.logs_of c.args.ordered.now) in
    let stands = c.args.stands.now.items in let first = c.in_ok-other_pos.ensures in
    let st = c.requires.stands c.args.other c.in_ok-other_pos.other_pos first in
    let at = found_at stands c.from.result c.args.other c.index_mut.result.now c.from.ensures
    (omega (arith, c.from.ensures, slice_get_within stands c.args.other st.0 st.1)) c.index_mut.ensures.value in
    let stand = stand_is logs c.args.queues.now stands c.requires.within c.requires.stands c.args.other
    c.in_ok-other_pos.other_pos c.index_mut.result.now first at in
    let before = (c.knows.ensures.value c.if-node-other.false).0 c.if-not-knows.false in
    eliminates logs c.args.queues.now stands c.requires.within c.requires.stands c.args.node c.in_ok-pos.pos c.args.other
    c.in_ok-other_pos.other_pos c.in_ok-pos.ensures first c.if-node-other.false
    (subst (λ (q : ℕ). Before logs c.args.node (c.in_ok-pos.pos + 1) c.args.other q) stand.position before)
