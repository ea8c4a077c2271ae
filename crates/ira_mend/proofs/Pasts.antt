-- What mending keeps of logs that were cut off: the events of which the whole past is left.
use Rattle.std.proofs.Common.{◌≡◌, ℕ, zero, suc, ◌+◌, ◌<◌, ◌≤◌, inl, inr, List, [], ◌∷◌, length, refl, ◌∙◌, ap, arith}
use Rattle.std.proofs.Common.{take}
use Rattle.std.specs.Prelude.{slice_index}
use Rattle.std.proofs.lemmas.Bool.{cases_lt}
use Rattle.std.proofs.lemmas.List.{length-take, take-take}
use Rattle.ira_event.specs.declared.event.Event.{Event}
use Rattle.ira_event.specs.declared.event.Event.TheVariants.{Draw}
use Rattle.ira_event.specs.Log.{Log}
use Rattle.ira_order.specs.Before.{Before, message, onward}
use Rattle.ira_order.specs.Counts.{Covers}
use Rattle.ira_order.specs.Cut.{IsCut}
use Rattle.ira_order.specs.Order.{IsPair}
use Rattle.ira_order.specs.Matching.{Matches, got, receipt, sending, sent}
use Rattle.ira_order.specs.Ring.{log_of, next}
use Rattle.ira_order.proofs.Acyclic.{known_on}
use Rattle.ira_order.proofs.Bridge.{before_places, covers_consistent, pair_of}
use Rattle.ira_order.proofs.Places.{Ranked, ranked}
use Rattle.ira_order.proofs.Ranks.{next_below, rank_mono}
use Rattle.ira_mend.specs.Beginning.{IsConsistentBeginning, IsGreatestBeginning, receipts_in, sendings_in}
use Rattle.ira_mend.specs.Laws.{AreLeft, HasItsPast}
use Rattle.ira_mend.proofs.Begun.{left_events}
use Rattle.ira_mend.proofs.Lattice.{Lacks, lowered, lowered_within, settled, whole_at, whole_cut, whole_is_cut}

pub no_events : (logs : List Log) (i : ℕ) → length logs ≤ i → log_of logs i ≡ []
no_events [] i l = refl
no_events (log ∷ logs) zero l = absurd (omega arith)
no_events (log ∷ logs) (suc i) l = no_events logs i (omega arith)

module _ (whole left : List Log) (cut : List ℕ) (are : AreLeft whole cut left) where
  n : length left ≡ length whole
  n = are.places

  -- how many events are left
  pub left_count : (i : ℕ) → i < length whole
      → (length (log_of left i) ≤ slice_index cut i) × (length (log_of left i) ≤ length (log_of whole i))
  left_count i l =
      let events = ap (λ (es : List Event). length es) (left_events whole cut left i are l) in
      let least = length-take (slice_index cut i) (log_of whole i) in
      (omega (arith, events, least), omega (arith, events, least))

  -- they are the first of the whole log
  first_left : (i m : ℕ) → i < length whole → m ≤ length (log_of left i)
      → take m (log_of left i) ≡ take m (log_of whole i)
  first_left i m l le =
      ap (take m) (left_events whole cut left i are l)
      ∙ take-take m (slice_index cut i) (log_of whole i) (omega (arith, le, (left_count i l).0))

  -- the node that link i leads to
  abbrev reader : ℕ → ℕ
  reader i = next (length whole) i

  -- a cut of what is left, on link i
  module _ (at : List ℕ) (is : IsCut left at) (i : ℕ) (l : i < length whole) where
    within : slice_index at i ≤ length (log_of left i)
    within = is.within i (omega (arith, l, n))

    reader_is : reader i < length whole
    reader_is = next_below (length whole) i l

    reader_within : slice_index at (reader i) ≤ length (log_of left (reader i))
    reader_within = is.within (reader i) (omega (arith, reader_is, n))

    same_sendings : sendings_in left i (slice_index at i) ≡ sendings_in whole i (slice_index at i)
    same_sendings = ap (λ (es : List Event). length (sent es)) (first_left i (slice_index at i) l within)

    same_receipts :
        receipts_in left (reader i) (slice_index at (reader i))
        ≡ receipts_in whole (reader i) (slice_index at (reader i))
    same_receipts =
        ap (λ (es : List Event). length (got es))
        (first_left (reader i) (slice_index at (reader i)) reader_is reader_within)

  -- a consistent beginning of what is left has its sendings in the whole logs too
  pub beginning_covers : (at : List ℕ) → IsConsistentBeginning left at → Covers whole (slice_index at)
  beginning_covers at is i l =
      let held = rw n at (is.sendings i (omega (arith, l, n))) in
      omega (arith, held, same_sendings at is.cut_is i l, same_receipts at is.cut_is i l)

  -- and the other way round
  pub covers_beginning : (at : List ℕ) → IsCut left at → Covers whole (slice_index at) → IsConsistentBeginning left at
  covers_beginning at is covers = record {
    cut_is = is;
    sendings = λ i l'.
        let l : i < length whole = omega (arith, l', n) in
        rw n (omega (arith, covers i l, same_sendings at is i l, same_receipts at is i l));
  }

  -- ---- events with their past stay while others are given up

  abbrev pub Holds : List ℕ → Type 0
  Holds at = (i a : ℕ) → i < length whole → HasItsPast whole left i a → a ≤ slice_index at i

  module _ (matches : Matches whole) where
    -- the last event of the reader of a link that lacks a sending isn't left with all its past
    module _ (at : List ℕ) (link : ℕ) (is : IsCut left at) (l : link < length whole) (bad : Lacks left at link)
        (holds : Holds at) (past : HasItsPast whole left (reader link) (slice_index at (reader link))) where
      abbrev last : ℕ
      last = slice_index at (reader link)

      abbrev rank : ℕ
      rank = sendings_in whole link (slice_index at link)

      last_within : slice_index at (reader link) ≤ length (log_of whole (reader link))
      last_within = omega (arith, reader_within at is link l, (left_count (reader link) (reader_is at is link l)).1)

      receipt_lacks : Ranked receipt (log_of whole (reader link)) last rank (Draw 0)
      receipt_lacks =
          let many = rw n at bad in
          ranked receipt (log_of whole (reader link)) last rank (Draw 0) last_within
          (omega (arith, many, same_sendings at is link l, same_receipts at is link l))

      pair : (a : Ranked sending (log_of whole link) (length (log_of whole link)) rank (Draw 0))
          × IsPair whole link (suc a.place) (suc receipt_lacks.place)
      pair = pair_of whole link last rank matches l last_within receipt_lacks

      sent_before : Before whole link (suc pair.0.place) (reader link) last
      sent_before =
          known_on whole link (suc pair.0.place) (reader link) (suc receipt_lacks.place) last (message refl pair.1)
          (omega (arith, receipt_lacks.below)) last_within

      sending_past : HasItsPast whole left link (suc pair.0.place)
      sending_past j c known = past j c (inr (elim known [
        | inl same ↦ rw (same.0, same.1) sent_before
        | inr earlier ↦ onward earlier sent_before
      ]))

      no_past : ⊥
      no_past =
          let held = holds link (suc pair.0.place) l sending_past in
          let up_to : pair.0.place + 1 ≤ slice_index at link = omega (arith, held) in
          let more = rank_mono sending (log_of whole link) (pair.0.place + 1) (slice_index at link) up_to in
          absurd (omega (arith, pair.0.next_rank, more))

    holds_on : (at : List ℕ) (link : ℕ) → IsCut left at → link < length left → Lacks left at link → Holds at
        → Holds (lowered left at link)
    holds_on at link is l' bad holds i a l past =
        lowered_within left at link is l' bad i a (holds i a l past) (λ same.
        elim (cases_lt a (slice_index at i)) [
          | inl lt ↦ lt
          | inr ge ↦
              let here : i ≡ reader link = same ∙ ap (λ m. next m link) n in
              let last : a ≡ slice_index at (reader link) =
              omega (arith, ge, holds i a l past, ap (slice_index at) here) in
              let past' : HasItsPast whole left (reader link) (slice_index at (reader link)) =
              rw (here, last) at past in
              absurd (no_past at link is (omega (arith, l', n)) bad holds past')
        ])

    -- an event with its past is in the greatest consistent beginning
    pub past_is_kept : (at : List ℕ) → IsGreatestBeginning left at → Holds at
    past_is_kept at greatest i a l past =
        let found = settled left Holds holds_on (whole_cut left) (whole_is_cut left)
        (λ j c lj its. rw (whole_at left j (omega (arith, lj, n))) (its j c (inl (refl, refl)))) in
        omega (arith, found.2 i a l past, greatest.greatest found.0 found.1 i (omega (arith, l, n)))

  -- an event of a consistent beginning has its past
  pub kept_has_past : (at : List ℕ) → IsConsistentBeginning left at
      → (i a : ℕ) → i < length whole → a ≤ slice_index at i → HasItsPast whole left i a
  kept_has_past at is i a l le j b (inl same) =
      rw (same.0, same.1) (omega (arith, le, is.cut_is.within i (omega (arith, l, n))))
  kept_has_past at is i a l le j b (inr before) =
      let held = covers_consistent whole (slice_index at) (beginning_covers at is) j b i a before le in
      let lj = (before_places whole j b i a before).0 in
      omega (arith, held, is.cut_is.within j (omega (arith, lj, n)))
