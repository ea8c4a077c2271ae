-- A beginning of a log, an event longer or shorter.
use Rattle.std.proofs.Common.{◌≡◌, ℕ, ◌+◌, ◌-◌, ◌<◌, ◌≤◌, inl, inr, List, ◌∷◌, length, sym, ◌∙◌, ap, subst}
use Rattle.std.proofs.Common.{arith, drop, take, Some}
use Rattle.std.specs.Prelude.{slice_get}
use Rattle.std.proofs.lemmas.Bool.{cases_eq}
use Rattle.std.proofs.lemmas.Option.{slice_get_within}
use Rattle.ira_event.specs.declared.event.Event.{Event}
use Rattle.ira_order.specs.Matching.{got, sent, receipt, sending}
use Rattle.ira_order.specs.Tally.{sent_by, got_by}
use Rattle.ira_order.proofs.OrderPrefixes.{counted_more, rank_le}
use Rattle.ira_order.proofs.Receipts.{next_ahead}
use Rattle.ira_mend.specs.Longest.{IsBeginning, IsLongestWith}
use Rattle.ira_mend.specs.declared.beginning.Beginning.{Beginning}

-- the events from the first on, one by one: so many were counted, and these are left
pub record Counting (es : List Event) (n r s : ℕ) (rest : List Event) : Type 0 where
  pub within : n ≤ length es
  pub receipts : r ≡ length (got (take n es))
  pub sendings : s ≡ length (sent (take n es))
  pub left : rest ≡ drop n es

pub counting_more : (es : List Event) (n r s r' s' : ℕ) (e : Event) (rest rest' : List Event) → Counting es n r s rest
    → rest ≡ e ∷ rest' → r' ≡ r + got_by e → s' ≡ s + sent_by e → Counting es (n + 1) r' s' rest'
counting_more es n r s r' s' e rest rest' c next re se =
    let ahead = next_ahead es n e rest' (sym next ∙ c.left) in
    record {
      within = omega (arith, slice_get_within es n e ahead.0);
      receipts = re ∙ ap (λ x. x + got_by e) c.receipts ∙ sym (counted_more receipt es n e ahead.0);
      sendings = se ∙ ap (λ x. x + sent_by e) c.sendings ∙ sym (counted_more sending es n e ahead.0);
      left = ahead.1;
    }

-- fewer receipts, and fewer sendings, than events
pub few_counted : (es : List Event) (n r s : ℕ) (rest : List Event) → Counting es n r s rest → (r ≤ n) × (s ≤ n)
few_counted es n r s rest c =
    (omega (arith, c.receipts, rank_le receipt es n), omega (arith, c.sendings, rank_le sending es n))

-- a beginning without its last event
pub one_less : (es : List Event) (b b' : Beginning) (e : Event) → IsBeginning es b → 1 ≤ b.events
    → slice_get es (b.events - 1) ≡ Some e → b'.events ≡ b.events - 1 → b.receipts ≡ b'.receipts + got_by e
    → b.sendings ≡ b'.sendings + sent_by e → IsBeginning es b'
one_less es b b' e is some at ev re se =
    let back : (b.events - 1) + 1 ≡ b.events = omega arith in
    let gots : length (got (take b.events es)) ≡ length (got (take (b.events - 1) es)) + got_by e =
    subst (λ n. length (got (take n es)) ≡ length (got (take (b.events - 1) es)) + got_by e) back
    (counted_more receipt es (b.events - 1) e at) in
    let sents : length (sent (take b.events es)) ≡ length (sent (take (b.events - 1) es)) + sent_by e =
    subst (λ n. length (sent (take n es)) ≡ length (sent (take (b.events - 1) es)) + sent_by e) back
    (counted_more sending es (b.events - 1) e at) in
    record {
      within = omega (arith, is.within);
      receipts = rw ev (omega (arith, is.receipts, gots, re));
      sendings = rw ev (omega (arith, is.sendings, sents, se));
    }

-- what the last event adds is in the beginning
pub holds_last : (es : List Event) (b : Beginning) (e : Event) → IsBeginning es b → 1 ≤ b.events
    → slice_get es (b.events - 1) ≡ Some e → (got_by e ≤ b.receipts) × (sent_by e ≤ b.sendings)
holds_last es b e is some at =
    let back : (b.events - 1) + 1 ≡ b.events = omega arith in
    let gots : length (got (take b.events es)) ≡ length (got (take (b.events - 1) es)) + got_by e =
    subst (λ n. length (got (take n es)) ≡ length (got (take (b.events - 1) es)) + got_by e) back
    (counted_more receipt es (b.events - 1) e at) in
    let sents : length (sent (take b.events es)) ≡ length (sent (take (b.events - 1) es)) + sent_by e =
    subst (λ n. length (sent (take n es)) ≡ length (sent (take (b.events - 1) es)) + sent_by e) back
    (counted_more sending es (b.events - 1) e at) in
    (omega (arith, is.receipts, gots), omega (arith, is.sendings, sents))

-- where there are receipts there are events
pub some_events : (es : List Event) (b : Beginning) → IsBeginning es b → b.receipts ≤ b.events
some_events es b is = omega (arith, is.receipts, rank_le receipt es b.events)

pub longest_at_first : (es : List Event) (from most : ℕ) → IsLongestWith es from most from
longest_at_first es from most = record { shorter = omega arith; longest = λ m le few. le }

-- a beginning with too many receipts isn't the longest
pub longest_less : (es : List Event) (b : Beginning) (from most n : ℕ) → IsBeginning es b → most < b.receipts
    → n ≡ b.events - 1 → IsLongestWith es from most b.events → IsLongestWith es from most n
longest_less es b from most n is many at longest = record {
  shorter = omega (arith, longest.shorter);
  longest = λ m le few. elim (cases_eq m b.events) [
    | inl same ↦
        let here : length (got (take b.events es)) ≤ most = subst (λ x. length (got (take x es)) ≤ most) same few in
        absurd (omega (arith, is.receipts, here, many))
    | inr other ↦ omega (arith, longest.longest m le few, at, other)
  ];
}
