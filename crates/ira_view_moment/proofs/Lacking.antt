-- Receipts that a cut holds without their sendings.
use Rattle.std.proofs.Common.{◌≡◌, ℕ, zero, suc, ◌+◌, ◌<◌, ◌≤◌, inl, inr, ◌↔◌, Some, None, Err, Result, IsOk, List, []}
use Rattle.std.proofs.Common.{length, refl, sym, ◌∙◌, arith, take, add-one, get_or, ap}
use Rattle.std.specs.Prelude.{slice_get, slice_index}
use Rattle.std.specs.List.{cons_option}
use Rattle.std.proofs.lemmas.Bool.{cases_eq, cases_lt}
use Rattle.std.proofs.lemmas.Option.{get_or_from_slice_get, slice_get_within}
use Rattle.ira_event.specs.declared.event.Event.{Event}
use Rattle.ira_event.specs.declared.event.Event.TheVariants.{Got, Draw}
use Rattle.ira_event.specs.declared.load.Load.{Load}
use Rattle.ira_event.specs.Log.{Log}
use Rattle.ira_order.specs.Cut.{IsConsistentCut, IsCut}
use Rattle.ira_order.specs.Before.{message}
use Rattle.ira_order.specs.Matching.{got, receipt, sending, sent}
use Rattle.ira_order.specs.Ring.{events_of, log_of, next, numbered, prev}
use Rattle.ira_order.proofs.Bridge.{SendingOf, covers_consistent, sending_of}
use Rattle.ira_order.proofs.OrderPrefixes.{rank_more}
use Rattle.ira_order.proofs.Places.{numbered_some}
use Rattle.ira_order.proofs.Ranks.{next_below, rank_mono}
use Rattle.ira_order.proofs.Receipts.{got_le}
use Rattle.ira_order.proofs.Runs.{next_prev, prev_below, prev_next}
use Rattle.ira_view_evidence.specs.Exchange.{IsNthGot, IsNthSent}
use Rattle.ira_view_moment.specs.declared.cut_fault.CutFault.{CutFault}
use Rattle.ira_view_moment.specs.declared.cut_fault.CutFault.TheVariants.{NoCut, LacksSending}
use Rattle.ira_view_moment.specs.CutFault.{HoldsSendings, IsCutFault, IsLacking, IsLackOf}

-- the events before a receipt
record ReceiptOf (es : List Event) (b : ℕ) : Type 0 where
  place : ℕ
  number : b ≡ suc place
  rank : length (got (take b es)) ≡ length (got (take place es)) + 1

receipt_of : (es : List Event) (b : ℕ) (m : Load) → numbered es b ≡ Some (Got m) → ReceiptOf es b
receipt_of es zero m h = cc
receipt_of es (suc b) m h =
    let l : b < length es = slice_get_within es b (Got m) h in
    let e : get_or es b (Draw 0) ≡ Got m = get_or_from_slice_get es b (Got m) (Draw 0) h in
    record {
      place = b;
      number = refl;
      rank = rw (← add-one b) (rank_more receipt es b (Draw 0) l
          ∙ ap (λ (x : Event). length (got (take b es)) + length (cons_option (receipt x) [])) e);
    }

module _ (logs : List Log) (cut : List ℕ) (i : ℕ) where
  -- how many sendings of the link the cut holds
  abbrev held_sendings : ℕ
  held_sendings = length (sent (take (slice_index cut i) (log_of logs i)))

  abbrev reader : List Event
  reader = log_of logs (next (length logs) i)

  -- a lacking sending comes after those
  more_sent : (a b : ℕ) → IsLacking logs cut i a b → held_sendings < length (got (take b reader))
  more_sent a b h =
      let s : SendingOf (log_of logs i) a = sending_of (log_of logs i) a h.pair.message h.pair.sends in
      omega (
        arith,
        s.rank,
        s.number,
        h.pair.rank,
        rank_mono sending (log_of logs i) (slice_index cut i) s.place (omega (arith, s.number, h.not_held)),
      )

  pub nothing_lacks : HoldsSendings logs cut i → (a b : ℕ) → IsLacking logs cut i a b → ⊥
  nothing_lacks holds a b h =
      absurd (omega (
        arith,
        holds,
        more_sent a b h,
        rank_mono receipt reader b (slice_index cut (next (length logs) i)) h.held,
      ))

  pub none_left : (k : ℕ) → k ≡ held_sendings + 1 → numbered (got reader) k ≡ None → HoldsSendings logs cut i
  none_left k is none = elim (cases_lt held_sendings (length (got reader))) [
    | inr all ↦ omega (arith, all, got_le reader (slice_index cut (next (length logs) i)))
    | inl more ↦
        let some = numbered_some (got reader) held_sendings more in
        let same : k ≡ suc held_sendings = omega (arith, is) in
        let none' : numbered (got reader) (suc held_sendings) ≡ None = rw same at none in
        cc
  ]

  pub none_before : (k b : ℕ) (load : Load) → k ≡ held_sendings + 1 → IsNthGot reader k b load
      → slice_index cut (next (length logs) i) < b → HoldsSendings logs cut i
  none_before k b load is at late =
      let r : ReceiptOf reader b = receipt_of reader b load at.event in
      omega (
        arith,
        is,
        at.rank,
        r.rank,
        r.number,
        rank_mono receipt reader (slice_index cut (next (length logs) i)) r.place (omega (arith, r.number, late)),
      )

  pub first_lacking : (k a b : ℕ) (put taken : Load) → i < length logs → k ≡ held_sendings + 1
      → IsNthSent (log_of logs i) k a put → IsNthGot reader k b taken → b ≤ slice_index cut (next (length logs) i)
      → IsLacking logs cut i a b
  first_lacking k a b put taken l is sends gets held = record {
    pair = record {
      message = put;
      taken = taken;
      link = l;
      sends = sends.event;
      receives = gets.event;
      rank = sends.rank ∙ sym gets.rank;
    };
    held = held;
    not_held = elim (cases_lt (slice_index cut i) a) [
      | inl fine ↦ fine
      | inr low ↦ absurd (omega (arith, is, sends.rank, rank_mono sending (log_of logs i) a (slice_index cut i) low))
    ];
  }

  pub no_earlier : (k b : ℕ) (taken : Load) → k ≡ held_sendings + 1 → IsNthGot reader k b taken → (c d : ℕ)
      → IsLacking logs cut i c d → b ≤ d
  no_earlier k b taken is gets c d h = elim (cases_lt d b) [
    | inr fine ↦ fine
    | inl early ↦
        let r : ReceiptOf reader b = receipt_of reader b taken gets.event in
        absurd (omega (
          arith,
          is,
          gets.rank,
          r.rank,
          r.number,
          more_sent c d h,
          rank_mono receipt reader d r.place (omega (arith, r.number, early)),
        ))
  ]

-- a lacking sending is of a cut that isn't consistent
pub lacking_inconsistent : (logs : List Log) (cut : List ℕ) (i a b : ℕ) → IsLacking logs cut i a b
    → IsConsistentCut logs cut → ⊥
lacking_inconsistent logs cut i a b h c =
    absurd (omega (arith, h.not_held, c.1 i a (next (length logs) i) b (message refl h.pair) h.held))

-- where the receipts of each node have their sendings the cut is consistent
pub all_held : (logs : List Log) (cut : List ℕ) → IsCut logs cut
    → ((j : ℕ) → j < length logs → HoldsSendings logs cut (prev (length logs) j)) → IsConsistentCut logs cut
all_held logs cut is holds = (
  is,
  covers_consistent logs (slice_index cut) (λ i l.
      let back : i ≡ prev (length logs) (next (length logs) i) =
      prev_next (length logs) (next (length logs) i) i (next_below (length logs) i l) l refl in
      rw back (holds (next (length logs) i) (next_below (length logs) i l))),
)

-- the link that leads to a node, and how many of its sendings the cut holds
pub record LinkTo (logs : List Log) (cut : List ℕ) (reader writer sendings : ℕ) : Type 0 where
  pub below : writer < length logs
  pub is : writer ≡ prev (length logs) reader
  pub link : next (length logs) writer ≡ reader
  pub held : sendings ≡ held_sendings logs cut writer

pub link_to : (logs : List Log) (cut : List ℕ) (n reader writer at sendings : ℕ) (log : Log) → n ≡ length logs
    → reader < length logs → writer ≡ prev n reader → at ≡ writer → slice_get logs writer ≡ Some log
    → sendings ≡ length (sent (take (slice_index cut at) log.events)) → LinkTo logs cut reader writer sendings
link_to logs cut n reader writer at sendings log all l is same found number =
    let here : writer ≡ prev (length logs) reader = is ∙ ap (λ (x : ℕ). prev x reader) all in
    let events : log_of logs writer ≡ log.events = ap events_of found in
    record {
      below = rw here (prev_below (length logs) reader l);
      is = here;
      link = ap (next (length logs)) here ∙ next_prev (length logs) reader l;
      held = number ∙ ap (λ (x : ℕ). length (sent (take (slice_index cut x) log.events))) same
          ∙ ap (λ (es : List Event). length (sent (take (slice_index cut writer) es))) (sym events);
    }

-- a node's fault is the first, where those of the places before it lack nothing
pub first_of_all : (logs : List Log) (cut : List ℕ) (j : ℕ) (f : CutFault) → IsCut logs cut
    → ((k : ℕ) → k < j → HoldsSendings logs cut (prev (length logs) k)) → IsLackOf logs cut j f → IsCutFault logs cut f
first_of_all logs cut j NoCut is holds lack = absurd lack
first_of_all logs cut j (LacksSending receipt sending) is holds lack = (
  is,
  record {
    lacking = lack.lacking;
    reader = lack.reader;
    first = λ i a b h. elim (cases_lt (next (length logs) i) j) [
      | inl before ↦
          let back : i ≡ prev (length logs) (next (length logs) i) =
          prev_next (length logs) (next (length logs) i) i (next_below (length logs) i h.pair.link) h.pair.link refl
          in
          let hold : HoldsSendings logs cut i = rw back (holds (next (length logs) i) before) in
          absurd (nothing_lacks logs cut i hold a b h)
      | inr later ↦ elim (cases_eq receipt.place (next (length logs) i)) [
        | inl same ↦
            let one : i ≡ sending.place =
            prev_next (length logs) (next (length logs) i) i (next_below (length logs) i h.pair.link) h.pair.link refl
            ∙ sym (prev_next (length logs) (next (length logs) i) sending.place (next_below (length logs) i h.pair.link)
            lack.lacking.pair.link (sym lack.reader ∙ same)) in
            inr (same, lack.first a b (rw one at h))
        | inr other ↦ inl (omega (arith, lack.node, later, other))
      ]
    ];
  },
)

faulty_inconsistent : (logs : List Log) (cut : List ℕ) (f : CutFault) → IsCutFault logs cut f → IsConsistentCut logs cut
    → ⊥
faulty_inconsistent logs cut NoCut h c = h c.0
faulty_inconsistent logs cut (LacksSending receipt sending) h c =
    lacking_inconsistent logs cut sending.place sending.position receipt.position h.1.lacking c

pub faulty : {T : Type 0} (logs : List Log) (cut : List ℕ) (r : Result T CutFault) (f : CutFault) → r ≡ Err f
    → IsCutFault logs cut f → IsOk r ↔ IsConsistentCut logs cut
faulty {T} logs cut r f is h =
    (λ ok. (let no : IsOk {T = T} (Err f) = rw is at ok in cc), λ c. absurd (faulty_inconsistent logs cut f h c))
