use Rattle.std.proofs.Common.{◌≡◌, ◌+◌, ◌<◌, ◌≤◌, ◌∙◌, ℕ, inl, inr, Some, length, slice_get, sym, ap, subst, arith}
use Rattle.std.proofs.lemmas.Bool.{cases_eq}
use Rattle.std.proofs.lemmas.Option.{same_Some, slice_get_within}
use Rattle.ira_order.specs.Before.{Before}
use Rattle.ira_order.specs.DirectDependencies.{distance}
use Rattle.ira_elim.specs.CandidateClock.{CandidateClock}
use Rattle.ira_elim.specs.PairSet.{Has}
use Rattle.ira_elim.proofs.Between.{knows_as_much}
use Rattle.ira_elim.proofs.Standing.{found_at, near_asked}
use Rattle.ira_elim.proofs.elimination.knows_no_more.Goals as goal

pub count-requires-clause-places : goal.count-requires-clause-places
count-requires-clause-places g c =
    let logs = (g.C.HappenedBefore.logs_of c.args.ordered.now) in
    let near = near_asked (length logs) c.args.asked.now c.args.node c.args.near c.requires.near c.if-near-node.false in
    (c.requires.place, (c.requires.asked c.args.near near).2)

pub offset_bounds-stands-from : goal.offset_bounds-stands-from
offset_bounds-stands-from g c =
    let logs = (g.C.HappenedBefore.logs_of c.args.ordered.now) in
    let near = near_asked (length logs) c.args.asked.now c.args.node c.args.near c.requires.near c.if-near-node.false in
    let st = c.requires.asked c.args.near near in
    omega (arith, c.from.ensures, slice_get_within c.args.stands.now c.args.near st.0 st.1)

pub bounds-stands-from : goal.bounds-stands-from
bounds-stands-from g c =
    let logs = (g.C.HappenedBefore.logs_of c.args.ordered.now) in
    let near = near_asked (length logs) c.args.asked.now c.args.node c.args.near c.requires.near c.if-near-node.false in
    let st = c.requires.asked c.args.near near in
    omega (arith, c.from.ensures, slice_get_within c.args.stands.now c.args.near st.0 st.1)

pub returns : goal.returns
returns g c = λ yes i member out.
    let logs = (g.C.HappenedBefore.logs_of c.args.ordered.now) in let stands = c.args.stands.now in
    let asked = c.args.asked.now in let near : ℕ = c.args.near in let node : ℕ = c.args.node in
    let q : ℕ = c.args.position in
    let by = near_asked (length logs) asked node near c.requires.near c.if-near-node.false in
    let st = c.requires.asked near by in
    let t : CandidateClock = c.index-stands-from.result in
    let at : slice_get stands near ≡ Some t =
    found_at stands c.from.result near t c.from.ensures
    (omega (arith, c.from.ensures, slice_get_within stands near st.0 st.1)) c.index-stands-from.is in
    let is : st.0 ≡ t = same_Some _ _ (sym st.1 ∙ at) in
    let position : st.0.position ≡ t.position = ap (λ (s : CandidateClock). s.position) is in
    let few : c.count.result ≤ t.position = omega (arith, c.if-count-position.false, c.position.ensures) in
    let has : Has c.args.pairs.now i near = elim (cases_eq i near) [
      | inl same ↦
          let own : out.0 ≡ t = same_Some _ _ (sym out.1 ∙ ap (λ (k : ℕ). slice_get stands k) same ∙ at) in
          let before : Before logs near (out.0.position + 1) node q =
          subst (λ (k : ℕ). Before logs k (out.0.position + 1) node q) same out.3 in
          let counted : out.0.position + 1 ≤ c.count.result =
          (c.count.ensures.count.events (out.0.position + 1) (omega arith)).1 (inr before) in
          absurd (omega (arith, counted, few, ap (λ (s : CandidateClock). s.position) own))
      | inr apart ↦
          let further : distance (length logs) near node < distance (length logs) i node = elim c.requires.near [
            | inl here ↦ absurd (c.if-near-node.false here.0)
            | inr nearest ↦ nearest.2 i member out.2 apart
          ] in
          let knows : Before logs i (out.0.position + 1) near t.position =
          knows_as_much logs c.count.ensures.valid.1 c.count.ensures.valid.2 i (out.0.position + 1) near t.position node q
          c.count.result further st.2 (omega (arith, st.3, position)) apart out.2 c.if-near-node.false
          c.count.ensures.count few out.3 in
          c.requires.all c.if-near-node.false i t member at (out.0, out.1, apart, knows)
    ] in
    c.has_all_of.ensures yes i member has out.2
