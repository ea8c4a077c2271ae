-- Mended logs of a run that was cut off are those of a run.
use Rattle.std.proofs.Common.{◌≡◌, ℕ, zero, suc, ◌<◌, ◌≤◌, ◌↔◌, inl, inr, get_or, List, [], ◌∷◌, length, refl}
use Rattle.std.proofs.Common.{sym, ◌∙◌, ap, arith, drop, take, Option, Some}
use Rattle.std.specs.Prelude.{slice_get, slice_index}
use Rattle.std.proofs.lemmas.Bool.{cases_lt}
use Rattle.std.proofs.lemmas.List.{length-take, take-append-drop, take-take, take_all, same_lists}
use Rattle.std.proofs.lemmas.List.Elements.{All-take}
use Rattle.std.proofs.lemmas.Option.{get_or_from_slice_get, slice_get-get_or, slice_get_within}
use Rattle.ira_event.specs.declared.event.Event.{Event}
use Rattle.ira_event.specs.declared.event.Event.TheVariants.{Got, Sent}
use Rattle.ira_event.specs.Log.{Log}
use Rattle.ira_event.specs.Logs.{AreLogs}
use Rattle.ira_node.specs.NodeState.{first_state}
use Rattle.ira_node.specs.declared.node_state.NodeState.{NodeState}
use Rattle.ira_replay.specs.LocalRun.{IsLocalRun, LeadsTo}
use Rattle.ira_replay.proofs.Alike.{leads_split}
use Rattle.ira_order.specs.declared.match_fault.MatchFault.{MatchFault}
use Rattle.ira_order.specs.Circle.{HasOrder}
use Rattle.ira_order.specs.Counts.{Covers}
use Rattle.ira_order.specs.Cut.{IsConsistentCut, IsCut}
use Rattle.ira_order.specs.Matching.{LinkMatches, Matches, got, receipt, sending, sent}
use Rattle.ira_order.specs.Order.{IsOrder, IsPair, StandsAt, occurrences}
use Rattle.ira_order.specs.Ring.{events_of, log_of, next, numbered}
use Rattle.ira_order.specs.Run.{AreLocalRuns}
use Rattle.ira_order.proofs.Bridge.{before_places, consistent_covers, covers_consistent}
use Rattle.ira_order.proofs.Cuts.{cut_moment}
use Rattle.ira_order.proofs.Faults.{unmatched}
use Rattle.ira_order.proofs.Pairing.{numbered-within}
use Rattle.ira_order.proofs.Ranks.{next_below}
use Rattle.ira_order.proofs.Runs.{load_before}
use Rattle.ira_mend.specs.Beginning.{begun}
use Rattle.ira_mend.specs.Laws.{AreLeft, HasItsPast, IsLeft}
use Rattle.ira_mend.specs.Mended.{HasDifference, IsGreatestOf}
use Rattle.ira_mend.proofs.Begun.{begun_events, left_again, left_are_logs, left_events, left_of}
use Rattle.ira_mend.proofs.Pasts.{beginning_covers, covers_beginning, kept_has_past, left_count, no_events}
use Rattle.ira_mend.proofs.Pasts.{past_is_kept}

-- an event, or a place, of the first ones is one of all
first_slice : {X : Type 0} (n : ℕ) (xs : List X) (k : ℕ) (x : X) → slice_get (take n xs) k ≡ Some x
    → (slice_get xs k ≡ Some x) × (k < n)
first_slice zero xs k x h = cc
first_slice (suc n) [] k x h = cc
first_slice (suc n) (y ∷ xs) zero x h = (h, omega arith)
first_slice (suc n) (y ∷ xs) (suc k) x h = (let r = first_slice n xs k x h in (r.0, omega (arith, r.1)))

first_numbered : (n : ℕ) (es : List Event) (a : ℕ) (e : Event) → numbered (take n es) a ≡ Some e
    → (numbered es a ≡ Some e) × (a ≤ n)
first_numbered n es zero e h = cc
first_numbered n es (suc a) e h = (let r = first_slice n es a e h in (r.0, omega (arith, r.1)))

-- what is left of a log has the steps of the whole one
first_steps : (log rest : Log) (n : ℕ) → IsLeft log n rest → (u : NodeState)
    → LeadsTo log.nodes (first_state log.initiator) (take n log.events) u → IsLocalRun rest
first_steps log rest n is u leads = go rest.events refl
  where
    nodes : rest.nodes ≡ log.nodes
    nodes = ap (λ (x : Log). x.nodes) is.begun_is

    events : rest.events ≡ take n log.events
    events = ap (λ (x : Log). x.events) is.begun_is

    go : (es : List Event) → rest.events ≡ es → IsLocalRun rest
    go [] none = (first_state rest.initiator, rw none refl)
    go (e ∷ es) some =
        let same : rest.initiator ≡ log.initiator = is.start (λ empty. (let bad = sym empty ∙ some in cc)) in
        (u, rw (same, nodes, events) leads)

-- the logs at a consistent beginning
module _ (whole mended : List Log) (at : List ℕ) (are : AreLeft whole at mended)
    (within : (i : ℕ) → i < length whole → slice_index at i ≤ length (log_of whole i))
    (covers : Covers whole (slice_index at)) where
  n : length mended ≡ length whole
  n = are.places

  events : (i : ℕ) → i < length whole → log_of mended i ≡ take (slice_index at i) (log_of whole i)
  events i l = left_events whole at mended i are l

  module _ (matches : Matches whole) (i : ℕ) (l' : i < length mended) where
    l : i < length whole
    l = omega (arith, l', n)

    abbrev j : ℕ
    j = next (length whole) i

    reader_events : log_of mended (next (length mended) i) ≡ take (slice_index at j) (log_of whole j)
    reader_events = ap (λ m. log_of mended (next m i)) n ∙ events j (next_below (length whole) i l)

    link_matches : LinkMatches mended i
    link_matches k m is =
        let here : numbered (got (take (slice_index at j) (log_of whole j))) k ≡ Some m = rw (← reader_events) is in
        let few = numbered-within (got (take (slice_index at j) (log_of whole j))) k m here in
        let received = load_before receipt (log_of whole j) (slice_index at j) k few ∙ here in
        let first = load_before sending (log_of whole i) (slice_index at i) k (omega (arith, few, covers i l)) in
        rw (events i l) (sym first ∙ matches i l k m received)

  -- a pair of theirs is one of the whole logs
  module _ (i a b : ℕ) (pair : IsPair mended i a b) where
    link : i < length whole
    link = omega (arith, pair.link, n)

    abbrev reader : ℕ
    reader = next (length whole) i

    reader_first : log_of mended (next (length mended) i) ≡ take (slice_index at reader) (log_of whole reader)
    reader_first = ap (λ m. log_of mended (next m i)) n ∙ events reader (next_below (length whole) i link)

    send : (numbered (log_of whole i) a ≡ Some (Sent pair.message)) × (a ≤ slice_index at i)
    send =
        first_numbered (slice_index at i) (log_of whole i) a (Sent pair.message)
        (ap (λ (es : List Event). numbered es a) (sym (events i link)) ∙ pair.sends)

    receive : (numbered (log_of whole reader) b ≡ Some (Got pair.taken)) × (b ≤ slice_index at reader)
    receive =
        first_numbered (slice_index at reader) (log_of whole reader) b (Got pair.taken)
        (ap (λ (es : List Event). numbered es b) (sym reader_first) ∙ pair.receives)

    pair_of_whole : IsPair whole i a b
    pair_of_whole = record {
      message = pair.message;
      taken = pair.taken;
      link = link;
      sends = send.0;
      receives = receive.0;
      rank =
          ap (λ (es : List Event). length (sent es)) (sym (take-take a (slice_index at i) (log_of whole i) send.1))
          ∙ ap (λ (es : List Event). length (sent (take a es))) (sym (events i link))
          ∙ pair.rank
          ∙ ap (λ (es : List Event). length (got (take b es))) reader_first
          ∙ ap (λ (es : List Event). length (got es))
          (take-take b (slice_index at reader) (log_of whole reader) receive.1);
    }

  -- the beginning of an order that stands for them is an order of them
  first_order : (order : List ℕ) (t : ℕ) → IsOrder whole order
      → ((i : ℕ) → i < length whole → occurrences (take t order) i ≡ slice_index at i) → IsOrder mended (take t order)
  first_order order t o counts = record {
    places = rw n (All-take (λ p. p < length whole) t order o.places);
    whole = λ i l'.
        let l : i < length whole = omega (arith, l', n) in
        let all = ap (λ (es : List Event). length es) (events i l) in
        omega (arith, counts i l, all, length-take (slice_index at i) (log_of whole i), within i l);
    after = λ i a b s u pair stands_s stands_u.
        let x = first_slice t order s i stands_s.0 in
        let y = first_slice t order u (next (length mended) i) stands_u.0 in
        let sooner : take s (take t order) ≡ take s order = take-take s t order (omega (arith, x.1)) in
        let later : take u (take t order) ≡ take u order = take-take u t order (omega (arith, y.1)) in
        let s_is : StandsAt order s i a = (x.0, rw sooner at stands_s.1) in
        let u_is : StandsAt order u (next (length mended) i) b = (y.0, rw later at stands_u.1) in
        o.after i a b s u (pair_of_whole i a b pair) s_is (rw n at u_is);
  }

  mended_order : 2 ≤ length whole → length at ≡ length whole → HasOrder whole → HasOrder mended
  mended_order two places has =
      let consistent = covers_consistent whole (slice_index at) covers in
      let m = cut_moment whole has.1 at two has.0 has.2 (record { places = places; within = within }) consistent in
      (link_matches has.0, take m.1 m.0, first_order m.0 m.1 m.2 m.4)

  mended_local : AreLocalRuns whole → AreLocalRuns mended
  mended_local runs i new is =
      let of = left_of whole at mended i new are is in
      let run = runs i of.log of.at in
      let n : ℕ = slice_index at i in
      let es : List Event = of.log.events in
      let split =
      leads_split of.log.nodes (first_state of.log.initiator) (take n es) (drop n es)
      run.0 (rw (take-append-drop n es) run.1) in
      first_steps of.log new n of.is split.0 split.1

-- ---- what is mended, of what is left of the whole logs

module _ (whole left mended : List Log) (cut : List ℕ) (are : AreLeft whole cut left)
    (is : IsGreatestOf left mended) where
  size : length left ≡ length whole
  size = are.places

  abbrev kept : ℕ → ℕ
  kept i = slice_index is.cut i

  kept_left : (i : ℕ) → i < length whole → kept i ≤ length (log_of left i)
  kept_left i l = is.greatest.consistent.cut_is.within i (omega (arith, l, size))

  kept_whole : (i : ℕ) → i < length whole → kept i ≤ length (log_of whole i)
  kept_whole i l = omega (arith, kept_left i l, (left_count whole left cut are i l).1)

  -- the mended logs are left of the whole ones
  mended_left : AreLeft whole is.cut mended
  mended_left = record {
    places = is.begun.places ∙ size;
    each = λ i log at.
        let it = are.each i log at in
        let l = slice_get_within whole i log at in
        let least : kept i ≤ slice_index cut i = omega (arith, kept_left i l, (left_count whole left cut are i l).0) in
        (begun it.0 (kept i), is.begun.each i it.0 it.1, left_again log it.0 (slice_index cut i) (kept i) it.2 least);
  }

  mended_covers : Covers whole kept
  mended_covers = beginning_covers whole left cut are is.cut is.greatest.consistent

  how_many : (i : ℕ) → i < length whole → length (log_of mended i) ≡ kept i
  how_many i l =
      let events = begun_events left is.cut mended i is.begun (omega (arith, l, size)) in
      let all = ap (λ (es : List Event). length es) events in
      omega (arith, all, length-take (kept i) (log_of left i), kept_left i l)

  pub pasts_kept : Matches whole → (i a : ℕ) → (a ≤ length (log_of mended i)) ↔ HasItsPast whole left i a
  pasts_kept matches i a = elim (cases_lt i (length whole)) [
    | inl l ↦
        let count = how_many i l in (
          λ le. kept_has_past whole left cut are is.cut is.greatest.consistent i a l (omega (arith, le, count)),
          λ past. omega (arith, past_is_kept whole left cut are matches is.cut is.greatest i a l past, count),
        )
    | inr none ↦
        let gone : log_of mended i ≡ [] = no_events mended i (omega (arith, none, size, is.begun.places)) in
        let gone' : log_of left i ≡ [] = no_events left i (omega (arith, none, size)) in (
          λ le j b known. elim known [
            | inl same ↦ rw (same.0, same.1, gone') (rw gone at le)
            | inr before ↦ absurd (omega (arith, none, (before_places whole j b i a before).1))
          ],
          λ past. rw gone (rw gone' at (past i a (inl (refl, refl)))),
        )
  ]

  -- what is left is a consistent cut
  module _ (matches : Matches whole) (consistent : IsConsistentCut whole cut) where
    left_all : (i : ℕ) → i < length whole → length (log_of left i) ≡ slice_index cut i
    left_all i l =
        let all = ap (λ (es : List Event). length es) (left_events whole cut left i are l) in
        omega (arith, all, length-take (slice_index cut i) (log_of whole i), consistent.0.within i l)

    left_cut : IsCut left cut
    left_cut = record {
      places = consistent.0.places ∙ sym size;
      within = λ i l'. omega (arith, left_all i (omega (arith, l', size)));
    }

    cut_covers : Covers whole (slice_index cut)
    cut_covers = consistent_covers whole (slice_index cut) matches consistent.0.within consistent.1

    all_kept : (i : ℕ) → i < length left → slice_index cut i ≤ kept i
    all_kept = is.greatest.greatest cut (covers_beginning whole left cut are cut left_cut cut_covers)

    same_log : (i : ℕ) (log : Log) → i < length left → slice_get left i ≡ Some log → slice_get mended i ≡ Some log
    same_log i log l at =
        let count = left_all i (omega (arith, l, size)) in
        let long : length log.events ≤ kept i =
        omega (arith, count, ap (λ (o : Option Log). length (events_of o)) at, all_kept i l) in
        is.begun.each i log at
        ∙ ap (λ (es : List Event). Some (record log { events = es })) (take_all (kept i) log.events long)

    pub cuts_kept : mended ≡ left
    cuts_kept = same_lists mended left is.begun.places (λ i d l.
        let l' : i < length left = omega (arith, l, is.begun.places) in
        let there = same_log i (get_or left i d) l' (slice_get-get_or left i d l') in
        get_or_from_slice_get mended i (get_or left i d) d there)

  pub runs_mended : AreLogs whole → HasOrder whole → AreLocalRuns whole
      → AreLogs mended × HasOrder mended × AreLocalRuns mended
  runs_mended logs order runs =
      let places = is.greatest.consistent.cut_is.places ∙ size in (
        left_are_logs whole is.cut mended logs mended_left,
        mended_order whole mended is.cut mended_left kept_whole mended_covers logs.ring.0 places order,
        mended_local whole mended is.cut mended_left kept_whole mended_covers runs,
      )

  matched_mended : Matches whole → Matches mended
  matched_mended matches = link_matches whole mended is.cut mended_left kept_whole mended_covers matches

pub dont_differ : (whole left : List Log) (cut : List ℕ) (f : MatchFault) → Matches whole → AreLeft whole cut left
    → ¬ (HasDifference left f)
dont_differ whole left cut f matches are differ =
    unmatched differ.beginnings f differ.fault
    (matched_mended whole left differ.beginnings cut are differ.greatest matches)
