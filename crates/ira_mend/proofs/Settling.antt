-- What is kept of the logs, a link more settled.
use Rattle.std.proofs.Common.{◌≡◌, ◌≢◌, ℕ, ◌+◌, ◌<◌, ◌≤◌, ◌⊎◌, inl, inr, List, ◌++◌, Bool, length, sym, ◌∙◌, ap}
use Rattle.std.proofs.Common.{arith, drop, take, true, false, set, length-set, get_or-set_same, get_or-set_other}
use Rattle.std.specs.Prelude.{slice_index}
use Rattle.std.proofs.Math.Seq.{take-append_seam}
use Rattle.std.proofs.lemmas.Bool.{cases_eq}
use Rattle.std.proofs.lemmas.Bool.Decides.{nat_tests}
use Rattle.std.proofs.lemmas.List.{get_or-map, length-map}
use Rattle.std.proofs.lemmas.List.Sums.{sum_by-set}
use Rattle.ira_event.specs.Log.{Log}
use Rattle.ira_order.specs.Matching.{got, receipt, sending}
use Rattle.ira_order.specs.Ring.{log_of, next}
use Rattle.ira_order.proofs.Ranks.{next_below, next_other, rank_mono}
use Rattle.ira_mend.specs.Beginning.{IsGreatestBeginning, receipts_in}
use Rattle.ira_mend.specs.Longest.{AreBeginnings, BoundsAll, HasSendings, IsBeginning, IsLongestWith, IsSettled}
use Rattle.ira_mend.specs.Longest.{events_kept, kept_of, nothing}
use Rattle.ira_mend.specs.declared.beginning.Beginning.{Beginning}

-- a link whose reader was shortened to this beginning
module _ (logs : List Log) (kept : List Beginning) (link : ℕ) (b : Beginning) (two : 2
    ≤ length logs) (are : AreBeginnings logs kept) (within : link < length logs)
    (many : (kept_of kept link).sendings < (kept_of kept (next (length logs) link)).receipts)
    (is : IsBeginning (log_of logs (next (length logs) link)) b)
    (longest : IsLongestWith (log_of logs (next (length logs) link)) (kept_of kept (next (length logs) link)).events
    (kept_of kept link).sendings b.events)
    (few : b.receipts ≤ (kept_of kept link).sendings) where
  reader : ℕ
  reader = next (length logs) link

  new : List Beginning
  new = set kept (next (length logs) link) b

  places : length (set kept (next (length logs) link) b) ≡ length logs
  places = length-set kept (next (length logs) link) b ∙ are.places

  below : next (length logs) link < length logs
  below = next_below (length logs) link within

  at_reader : kept_of (set kept (next (length logs) link) b) (next (length logs) link) ≡ b
  at_reader = get_or-set_same kept (next (length logs) link) b nothing (omega (arith, are.places, below))

  at_other : (i : ℕ) → i ≢ next (length logs) link → kept_of (set kept (next (length logs) link) b) i ≡ kept_of kept i
  at_other i ne = get_or-set_other kept (next (length logs) link) i b nothing ne

  -- receipts don't get more
  fewer : (i : ℕ) → i < length logs → (kept_of (set kept (next (length logs) link) b) i).receipts
      ≤ (kept_of kept i).receipts
  fewer i l = elim (cases_eq i (next (length logs) link)) [
    | inl same ↦
        let old = are.each (next (length logs) link) below in
        let mono = rank_mono receipt (log_of logs (next (length logs) link)) b.events
        (kept_of kept (next (length logs) link)).events longest.shorter in
        let less : b.receipts ≤ (kept_of kept (next (length logs) link)).receipts =
        omega (arith, is.receipts, old.receipts, mono) in
        rw (same, at_reader) less
    | inr other ↦ rw (at_other i other) (omega arith)
  ]

  shorter : b.events < (kept_of kept (next (length logs) link)).events
  shorter =
      let old = are.each (next (length logs) link) below in
      elim (cases_eq b.events (kept_of kept (next (length logs) link)).events) [
        | inl same ↦
            let here : length (got (take b.events (log_of logs (next (length logs) link))))
            ≡ length (got (take (kept_of kept (next (length logs) link)).events
            (log_of logs (next (length logs) link)))) =
            ap (λ n. length (got (take n (log_of logs (next (length logs) link))))) same in
            absurd (omega (arith, is.receipts, old.receipts, here, few, many))
        | inr other ↦ omega (arith, longest.shorter, other)
      ]

  pub settled_now : IsSettled logs link kept (set kept (next (length logs) link) b) true
  settled_now = record {
    kept = record {
      places = places;
      each = λ i l. elim (cases_eq i (next (length logs) link)) [
        | inl same ↦ rw (same, at_reader) is
        | inr other ↦ rw (at_other i other) (are.each i l)
      ];
    };
    bounds = λ bounds cut consistent i l. elim (cases_eq i (next (length logs) link)) [
      | inl same ↦
          let old = are.each link within in
          let mono = rank_mono sending (log_of logs link) (slice_index cut link) (kept_of kept link).events
          (bounds cut consistent link within) in
          let holds = consistent.sendings link within in
          let at_most : receipts_in logs (next (length logs) link) (slice_index cut (next (length logs) link))
          ≤ (kept_of kept link).sendings = omega (arith, old.sendings, mono, holds) in
          rw (same, at_reader) (longest.longest (slice_index cut (next (length logs) link))
          (bounds cut consistent (next (length logs) link) below) at_most)
      | inr other ↦ rw (at_other i other) (bounds cut consistent i l)
    ];
    here = rw (places, at_reader, at_other link (λ e. next_other (length logs) link two within (sym e))) few;
    others = λ i l ne holds.
        let holds' : (kept_of kept (next (length logs) i)).receipts ≤ (kept_of kept i).sendings =
        rw are.places at holds in
        rw (places, at_other i ne) (omega (arith, holds', fewer (next (length logs) i) (next_below (length logs) i l)));
    fell = λ e. omega (
      arith,
      sum_by-set (λ b. b.events) kept (next (length logs) link) b nothing (omega (arith, are.places, below)),
      shorter,
    );
    stayed = λ e. (let z : ⊥ = cc in absurd z);
  }

-- the positions of what is kept
pub events_at : (kept : List Beginning) (i : ℕ) → i < length kept
    → slice_index (events_kept kept) i ≡ (kept_of kept i).events
events_at kept i l = get_or-map (λ b. b.events) kept i nothing 0 l

-- where each link has its sendings, what is kept is the greatest beginning
pub greatest_kept : (logs : List Log) (kept : List Beginning) → AreBeginnings logs kept → BoundsAll logs kept
    → ((i : ℕ) → i < length logs → HasSendings kept i) → IsGreatestBeginning logs (events_kept kept)
greatest_kept logs kept are bounds holds = record {
  consistent = record {
    cut_is = record {
      places = length-map kept (λ b. b.events) ∙ are.places;
      within = λ i l. rw (events_at kept i (omega (arith, are.places, l))) ((are.each i l).within);
    };
    sendings = λ i l.
        let holds' : (kept_of kept (next (length logs) i)).receipts ≤ (kept_of kept i).sendings =
        rw are.places at (holds i l) in
        let below = next_below (length logs) i l in
        rw (
          events_at kept (next (length logs) i) (omega (arith, are.places, below)),
          events_at kept i (omega (arith, are.places, l)),
        )
        (omega (arith, holds', (are.each i l).sendings, (are.each (next (length logs) i) below).receipts));
  };
  greatest = λ other consistent i l. rw (events_at kept i (omega (arith, are.places, l))) (bounds other consistent i l);
}

-- ---- link by link

not_reader : (n i link : ℕ) → i < link → (0 < i) ⊎ (link + 1 < n) → i ≢ next n link
not_reader n i link below (inl some) e = grind (arith, nat_tests)
not_reader n i link below (inr more) e = grind (arith, nat_tests)

module _ (logs : List Log) (link : ℕ) (old new : List Beginning) (shorter : Bool)
    (s : IsSettled logs link old new shorter) where
  -- the links up to one more have their sendings, but for the first after the last
  pub settled_round : link < length logs → ((i : ℕ) → i < link → (0 < i) ⊎ (link < length logs) → HasSendings old i)
      → (i : ℕ) → i < link + 1 → (0 < i) ⊎ (link + 1 < length logs) → HasSendings new i
  settled_round within before i below which = elim (cases_eq i link) [
    | inl same ↦ rw same s.here
    | inr ne ↦
        let low : i < link = omega (arith, below, ne) in
        s.others i (omega (arith, low, within)) (not_reader (length logs) i link low which) (before i low (inr within))
  ]

  -- all links but the next one have
  pub settled_on : ((i : ℕ) → i < length logs → i ≢ link → HasSendings old i) → (i : ℕ) → i < length logs
      → i ≢ next (length logs) link → HasSendings new i
  settled_on before i within ne = elim (cases_eq i link) [
    | inl same ↦ rw same s.here
    | inr other ↦ s.others i within ne (before i within other)
  ]

  -- all links have, where nothing was shortened
  pub settled_all : shorter ≡ false → ((i : ℕ) → i < length logs → i ≢ link → HasSendings old i) → (i : ℕ)
      → i < length logs → HasSendings new i
  settled_all none before i within = elim (cases_eq i link) [
    | inl same ↦ rw same s.here
    | inr other ↦ rw (s.stayed none) (before i within other)
  ]

-- what stands in a list whose part was written
pub written_back : (new items : List Beginning) (n : ℕ) → n ≡ length new → take n (new ++ drop (length new) items) ≡ new
written_back new items n is = ap (λ k. take k (new ++ drop (length new) items)) is
    ∙ take-append_seam new (drop (length new) items)
