use Rattle.std.proofs.Common.{◌≡◌, ◌+◌, ◌<◌, ℕ, Some, true, false, inl, inr, length, slice_get, slice_set, ap, refl}
use Rattle.std.proofs.Common.{sym, ◌∙◌, subst, arith, List, get_or, length-set}
use Rattle.std.proofs.lemmas.List.{set-set}
use Rattle.std.proofs.lemmas.Option.{same_Some}
use Rattle.ira_elim.specs.CandidateClock.{CandidateClock, IsCandidateClock, IsNearest}
use Rattle.ira_elim.proofs.Standing.{found_at, is_within, knows_ruled_out, long_counts, moved_own, near_asked}
use Rattle.ira_elim.proofs.Standing.{ruled_out_before, rules_out_again, set_standing, still_in_logs}
use Rattle.ira_elim.proofs.elimination.advance.Goals as goal

pub index_mut-requires : goal.index_mut-requires
index_mut-requires g c = omega (
  arith,
  c.from.ensures,
  is_within c.args.stands.now.items c.args.asked.now c.args.node c.requires.asked.0 c.requires.node,
  c.args.stands.now.ok,
)

pub advance-requires-clause-onward : goal.advance-requires-clause-onward
advance-requires-clause-onward g c =
    let stands = c.args.stands.now.items in
    let within : c.from.result < length stands =
    omega (arith, c.from.ensures, is_within stands c.args.asked.now c.args.node c.requires.asked.0 c.requires.node) in
    let at : slice_get stands c.args.node ≡ Some c.index_mut.result.now =
    found_at stands c.from.result c.args.node c.index_mut.result.now c.from.ensures within c.index_mut.ensures.value
    in
    (c.requires.stand c.index_mut.result.now at).0

pub advance-requires-clause-old : goal.advance-requires-clause-old
advance-requires-clause-old g c =
    let stands = c.args.stands.now.items in
    let within : c.from.result < length stands =
    omega (arith, c.from.ensures, is_within stands c.args.asked.now c.args.node c.requires.asked.0 c.requires.node) in
    let at : slice_get stands c.args.node ≡ Some c.index_mut.result.now =
    found_at stands c.from.result c.args.node c.index_mut.result.now c.from.ensures within c.index_mut.ensures.value
    in
    (c.requires.stand c.index_mut.result.now at).1

pub returns-then-not-advance-clause-added : goal.returns-then-not-advance-clause-added
returns-then-not-advance-clause-added g c = λ i member out.
    let stands = c.args.stands.now.items in
    let within : c.from.result < length stands =
    omega (arith, c.from.ensures, is_within stands c.args.asked.now c.args.node c.requires.asked.0 c.requires.node) in
    let at : slice_get stands c.args.node ≡ Some c.index_mut.result.now =
    found_at stands c.from.result c.args.node c.index_mut.result.now c.from.ensures within c.index_mut.ensures.value
    in
    elim c.advance.ensures.quiet [
      | inl moved ↦ absurd (let none : true ≡ false = sym moved ∙ c.if-not-advance.true in cc)
      | inr quiet ↦ c.requires.all c.args.node c.requires.node i c.index_mut.result.now member at
          (out.0, out.1, out.2, quiet i (out.0.position + 1) out.2 out.3)
    ]

pub knows_no_more-requires-clause-asked : goal.knows_no_more-requires-clause-asked
knows_no_more-requires-clause-asked g c =
    let logs = (g.C.HappenedBefore.logs_of c.args.ordered.now) in let stands = c.args.stands.now.items in
    let node : ℕ = c.args.node in let t : CandidateClock = c.advance.new.self in
    let place = is_within stands c.args.asked.now node c.requires.asked.0 c.requires.node in
    let set : c.deref.result.now ≡ slice_set stands node t =
    c.deref.ensures.value ∙ ap (λ (k : ℕ). slice_set stands k t) c.from.ensures in
    still_in_logs stands c.deref.result.now node t place set logs c.args.asked.now c.requires.place
    (omega (arith, c.advance.ensures.new.position, c.requires.position)) c.requires.asked.1

pub knows_no_more-requires-clause-near : goal.knows_no_more-requires-clause-near
knows_no_more-requires-clause-near g c =
    let logs = (g.C.HappenedBefore.logs_of c.args.ordered.now) in
    subst (λ (k : ℕ). IsNearest (length logs) c.args.asked.now c.args.node (get_or c.args.nearest.now k 0))
    (sym c.from-2.ensures) (c.requires.nearest.1 c.args.node c.requires.place)

pub knows_no_more-requires-clause-all : goal.knows_no_more-requires-clause-all
knows_no_more-requires-clause-all g c = λ ne.
    let logs = (g.C.HappenedBefore.logs_of c.args.ordered.now) in let stands = c.args.stands.now.items in
    let node : ℕ = c.args.node in let t : CandidateClock = c.advance.new.self in
    let place = is_within stands c.args.asked.now node c.requires.asked.0 c.requires.node in
    let set : c.deref.result.now ≡ slice_set stands node t =
    c.deref.ensures.value ∙ ap (λ (k : ℕ). slice_set stands k t) c.from.ensures in
    let within : c.from.result < length stands = omega (arith, c.from.ensures, place) in
    let at : slice_get stands node ≡ Some c.index_mut.result.now =
    found_at stands c.from.result node c.index_mut.result.now c.from.ensures within c.index_mut.ensures.value in
    let near : ℕ = get_or c.args.nearest.now c.from-2.result 0 in
    let nearest = subst (λ (k : ℕ). IsNearest (length logs) c.args.asked.now node (get_or c.args.nearest.now k 0))
    (sym c.from-2.ensures) (c.requires.nearest.1 node c.requires.place) in
    let by = near_asked (length logs) c.args.asked.now node near nearest ne in
    ruled_out_before stands c.deref.result.now node t place set logs c.index_mut.result.now c.args.asked.now
    c.args.pairs.now near ne at
    (omega (arith, c.advance.ensures.new.position, (c.requires.stand c.index_mut.result.now at).0))
    (c.requires.all near by)

pub returns-then-knows_no_more-clause-added : goal.returns-then-knows_no_more-clause-added
returns-then-knows_no_more-clause-added g c = λ i member out.
    let logs = (g.C.HappenedBefore.logs_of c.args.ordered.now) in let stands = c.args.stands.now.items in
    let node : ℕ = c.args.node in let t : CandidateClock = c.advance.new.self in
    let place = is_within stands c.args.asked.now node c.requires.asked.0 c.requires.node in
    let set : c.deref.result.now ≡ slice_set stands node t =
    c.deref.ensures.value ∙ ap (λ (k : ℕ). slice_set stands k t) c.from.ensures in
    c.knows_no_more.ensures c.if-knows_no_more.true i member
    (rules_out_again stands c.deref.result.now node t place set logs c.args.position i out)

pub index_mut-requires-2 : goal.index_mut-requires-2
index_mut-requires-2 g c = omega (
  arith,
  c.from-3.ensures,
  is_within c.args.stands.now.items c.args.asked.now c.args.node c.requires.asked.0 c.requires.node,
  c.args.stands.now.ok,
)

pub refresh-requires-clause-within : goal.refresh-requires-clause-within
refresh-requires-clause-within g c =
    let logs = (g.C.HappenedBefore.logs_of c.args.ordered.now) in let stands = c.args.stands.now.items in
    let node : ℕ = c.args.node in let t : CandidateClock = c.advance.new.self in
    let place = is_within stands c.args.asked.now node c.requires.asked.0 c.requires.node in
    let within : c.from.result < length stands = omega (arith, c.from.ensures, place) in
    let at : slice_get stands node ≡ Some c.index_mut.result.now =
    found_at stands c.from.result node c.index_mut.result.now c.from.ensures within c.index_mut.ensures.value in
    let moved : List CandidateClock = slice_set stands c.from.result t in
    let own : slice_get moved node ≡ Some t =
    moved_own stands moved node t place (ap (λ (k : ℕ). slice_set stands k t) c.from.ensures) in
    let here : slice_get moved node ≡ Some c.index_mut-2.result.now =
    found_at moved c.from-3.result node c.index_mut-2.result.now c.from-3.ensures
    (omega (arith, c.from-3.ensures, place, length-set stands c.from.result t)) c.index_mut-2.ensures.value in
    let clock : IsCandidateClock logs node c.args.position c.index_mut-2.result.now =
    subst (IsCandidateClock logs node c.args.position) (same_Some _ _ (sym own ∙ here)) c.advance.ensures.new in
    omega (arith, clock.position, c.requires.position)

pub refresh-requires-clause-old : goal.refresh-requires-clause-old
refresh-requires-clause-old g c =
    let logs = (g.C.HappenedBefore.logs_of c.args.ordered.now) in let stands = c.args.stands.now.items in
    let node : ℕ = c.args.node in let t : CandidateClock = c.advance.new.self in
    let place = is_within stands c.args.asked.now node c.requires.asked.0 c.requires.node in
    let within : c.from.result < length stands = omega (arith, c.from.ensures, place) in
    let at : slice_get stands node ≡ Some c.index_mut.result.now =
    found_at stands c.from.result node c.index_mut.result.now c.from.ensures within c.index_mut.ensures.value in
    let moved : List CandidateClock = slice_set stands c.from.result t in
    let own : slice_get moved node ≡ Some t =
    moved_own stands moved node t place (ap (λ (k : ℕ). slice_set stands k t) c.from.ensures) in
    let here : slice_get moved node ≡ Some c.index_mut-2.result.now =
    found_at moved c.from-3.result node c.index_mut-2.result.now c.from-3.ensures
    (omega (arith, c.from-3.ensures, place, length-set stands c.from.result t)) c.index_mut-2.ensures.value in
    let clock : IsCandidateClock logs node c.args.position c.index_mut-2.result.now =
    subst (IsCandidateClock logs node c.args.position) (same_Some _ _ (sym own ∙ here)) c.advance.ensures.new in
    subst (λ (n : ℕ). IsCandidateClock logs node n c.index_mut-2.result.now) (sym clock.position) clock

pub add_eliminated_by-requires-clause-asked : goal.add_eliminated_by-requires-clause-asked
add_eliminated_by-requires-clause-asked g c =
    let logs = (g.C.HappenedBefore.logs_of c.args.ordered.now) in let stands = c.args.stands.now.items in
    let node : ℕ = c.args.node in let t : CandidateClock = c.advance.new.self in
    let place = is_within stands c.args.asked.now node c.requires.asked.0 c.requires.node in
    let within : c.from.result < length stands = omega (arith, c.from.ensures, place) in
    let at : slice_get stands node ≡ Some c.index_mut.result.now =
    found_at stands c.from.result node c.index_mut.result.now c.from.ensures within c.index_mut.ensures.value in
    let moved : List CandidateClock = slice_set stands c.from.result t in
    let own : slice_get moved node ≡ Some t =
    moved_own stands moved node t place (ap (λ (k : ℕ). slice_set stands k t) c.from.ensures) in
    let here : slice_get moved node ≡ Some c.index_mut-2.result.now =
    found_at moved c.from-3.result node c.index_mut-2.result.now c.from-3.ensures
    (omega (arith, c.from-3.ensures, place, length-set stands c.from.result t)) c.index_mut-2.ensures.value in
    let clock : IsCandidateClock logs node c.args.position c.index_mut-2.result.now =
    subst (IsCandidateClock logs node c.args.position) (same_Some _ _ (sym own ∙ here)) c.advance.ensures.new in
    let asked = c.args.asked.now in
    let old = (c.requires.stand c.index_mut.result.now at).1 in
    let long = long_counts stands asked node c.index_mut.result.now c.requires.asked.0 c.requires.node at in
    let once = set_standing stands moved asked c.from.result t c.requires.asked.0 within
    (c.advance.ensures.new.counts.places ∙ sym old.counts.places ∙ long) refl in
    let size : length moved ≡ length stands = length-set stands c.from.result t in
    set_standing moved c.deref-2.result.now asked c.from-3.result c.refresh.new.self once
    (omega (arith, c.from-3.ensures, place, size))
    (c.refresh.ensures.new.counts.places ∙ sym old.counts.places ∙ long ∙ sym size) c.deref-2.ensures.value

pub returns-clause-moved : goal.returns-clause-moved
returns-clause-moved g c =
    let logs = (g.C.HappenedBefore.logs_of c.args.ordered.now) in let stands = c.args.stands.now.items in
    let node : ℕ = c.args.node in let t : CandidateClock = c.advance.new.self in
    let place = is_within stands c.args.asked.now node c.requires.asked.0 c.requires.node in
    let within : c.from.result < length stands = omega (arith, c.from.ensures, place) in
    let at : slice_get stands node ≡ Some c.index_mut.result.now =
    found_at stands c.from.result node c.index_mut.result.now c.from.ensures within c.index_mut.ensures.value in
    let moved : List CandidateClock = slice_set stands c.from.result t in
    let own : slice_get moved node ≡ Some t =
    moved_own stands moved node t place (ap (λ (k : ℕ). slice_set stands k t) c.from.ensures) in
    let here : slice_get moved node ≡ Some c.index_mut-2.result.now =
    found_at moved c.from-3.result node c.index_mut-2.result.now c.from-3.ensures
    (omega (arith, c.from-3.ensures, place, length-set stands c.from.result t)) c.index_mut-2.ensures.value in
    let clock : IsCandidateClock logs node c.args.position c.index_mut-2.result.now =
    subst (IsCandidateClock logs node c.args.position) (same_Some _ _ (sym own ∙ here)) c.advance.ensures.new in
    let last : CandidateClock = c.refresh.new.self in
    let twice : slice_set (slice_set stands c.from.result t) c.from-3.result last ≡ slice_set stands node last =
    ap (λ (k : ℕ). slice_set (slice_set stands c.from.result t) k last) (c.from-3.ensures ∙ sym c.from.ensures)
    ∙ set-set stands c.from.result t last ∙ ap (λ (k : ℕ). slice_set stands k last) c.from.ensures in
    (last, twice, subst (λ (n : ℕ). IsCandidateClock logs node n last) clock.position c.refresh.ensures.new)

pub returns-clause-added : goal.returns-clause-added
returns-clause-added g c = λ i member out.
    let logs = (g.C.HappenedBefore.logs_of c.args.ordered.now) in let stands = c.args.stands.now.items in
    let node : ℕ = c.args.node in let t : CandidateClock = c.advance.new.self in
    let place = is_within stands c.args.asked.now node c.requires.asked.0 c.requires.node in
    let within : c.from.result < length stands = omega (arith, c.from.ensures, place) in
    let at : slice_get stands node ≡ Some c.index_mut.result.now =
    found_at stands c.from.result node c.index_mut.result.now c.from.ensures within c.index_mut.ensures.value in
    let moved : List CandidateClock = slice_set stands c.from.result t in
    let own : slice_get moved node ≡ Some t =
    moved_own stands moved node t place (ap (λ (k : ℕ). slice_set stands k t) c.from.ensures) in
    let here : slice_get moved node ≡ Some c.index_mut-2.result.now =
    found_at moved c.from-3.result node c.index_mut-2.result.now c.from-3.ensures
    (omega (arith, c.from-3.ensures, place, length-set stands c.from.result t)) c.index_mut-2.ensures.value in
    let clock : IsCandidateClock logs node c.args.position c.index_mut-2.result.now =
    subst (IsCandidateClock logs node c.args.position) (same_Some _ _ (sym own ∙ here)) c.advance.ensures.new in
    let last : CandidateClock = c.refresh.new.self in
    let twice : slice_set (slice_set stands c.from.result t) c.from-3.result last ≡ slice_set stands node last =
    ap (λ (k : ℕ). slice_set (slice_set stands c.from.result t) k last) (c.from-3.ensures ∙ sym c.from.ensures)
    ∙ set-set stands c.from.result t last ∙ ap (λ (k : ℕ). slice_set stands k last) c.from.ensures in
    let place_of = c.requires.asked.1 i member in
    c.add_eliminated_by.ensures.added i member
    (knows_ruled_out stands c.deref-2.result.now node last place (c.deref-2.ensures.value ∙ twice) logs c.args.position i
    (subst (λ (n : ℕ). IsCandidateClock logs node n last) clock.position c.refresh.ensures.new) c.refresh.ensures.counted
    place_of.2 out)
