-- Columns that were found, as they were looked at.
use Rattle.std.proofs.Common.{◌≡◌, ℕ, zero, suc, ◌-◌, ◌<◌, Option, Some, List, [], length, take}
use Rattle.std.proofs.Common.{ap, arith, ◌∙◌, sym, refl, subst, add-one}
use Rattle.std.specs.Prelude.{slice_get, slice_index, slice_index_or}
use Rattle.std.specs.List.{filter_map}
use Rattle.std.proofs.lemmas.List.{take_all}
use Rattle.std.proofs.lemmas.Option.{get_or_from_slice_get, slice_get-get_or, slice_get_within}
use Rattle.ira_event.specs.declared.event.Event.{Event}
use Rattle.ira_event.specs.declared.event.Event.TheVariants.{Got, Sent}
use Rattle.ira_event.specs.declared.load.Load.{Load}
use Rattle.ira_event.specs.Log.{Log}
use Rattle.ira_order.specs.Circle.{HasOrder}
use Rattle.ira_order.specs.Matching.{receipt, sending}
use Rattle.ira_order.specs.Ring.{events_of, log_of, next, numbered}
use Rattle.ira_order.proofs.OrderPrefixes.{counted_more}
use Rattle.ira_order.proofs.Ranks.{rank_all}
use Rattle.ira_view_trail.specs.Columns.{AreColumnsOf, Columns}
use Rattle.ira_view_trail.specs.Right.{AreLinksRight, AreRows, HasPicked, HasRows, IsLinkRight}

-- the row of a node
pub row_at : (table : List (List ℕ)) (i : ℕ) → i < length table
    → slice_get table i ≡ Some (slice_index_or table i [])
row_at table i l = slice_get-get_or table i [] l

pub has_rows : (logs : List Log) (cut : List ℕ) (line : ℕ) (table : List (List ℕ)) → AreRows logs cut line table
    → HasRows logs table
has_rows logs cut line table are = record { places = are.places; each = λ i row at. (are.each i row at).count }

-- an event of a kind that is there has a number among those of its kind
found : (h : Event → Option Load) (events : List Event) (row : List ℕ) (picked : List ℕ) (a : ℕ) (e : Event) (m : Load)
    → HasPicked h events row (length events) picked → numbered events a ≡ Some e → h e ≡ Some m → (k : ℕ)
    × (k < length picked) × (length (filter_map h (take a events)) ≡ suc k) × (slice_index picked k
    ≡ slice_index row (a - 1))
found h events row picked zero e m has at is = absurd cc
found h events row picked (suc a) e m has at is =
    let one = counted_more h events a e at in
    let more = rw is at one in
    let within : a < length events = slice_get_within events a e at in
    let rank : length (filter_map h (take (suc a) events)) ≡ suc (length (filter_map h (take a events))) =
    ap (λ (k : ℕ). length (filter_map h (take k events))) (sym (add-one a)) ∙ omega (arith, more) in
    let all = rank_all h events (suc a) in
    let whole : length picked ≡ length (filter_map h events) = has.count
    ∙ ap (λ (es : List Event). length (filter_map h es)) (take_all (length events) events (omega arith)) in
    let back : suc a - 1 ≡ a = omega arith in (
      length (filter_map h (take a events)),
      omega (arith, rank, all, whole),
      rank,
      has.each a e m within at is ∙ ap (slice_index row) (sym back),
    )

pub link_right : (logs : List Log) (columns : Columns) (i : ℕ) (sendings receipts : List ℕ)
    → HasPicked sending (log_of logs i) (slice_index_or columns.nodes i []) (length (log_of logs i)) sendings
    → HasPicked receipt (log_of logs (next (length logs) i)) (slice_index_or columns.nodes (next (length logs) i) [])
    (length (log_of logs (next (length logs) i))) receipts
    → ((k : ℕ) → k < length sendings → k < length receipts → slice_index sendings k < slice_index receipts k)
    → IsLinkRight logs columns i
link_right logs columns i sendings receipts sent_has got_has less a b pair =
    let s = found sending (log_of logs i) (slice_index_or columns.nodes i []) sendings a (Sent pair.message)
    pair.message sent_has pair.sends refl in
    let r = found receipt (log_of logs (next (length logs) i)) (slice_index_or columns.nodes (next (length logs) i) [])
    receipts b (Got pair.taken) pair.taken got_has pair.receives refl in
    let one : s.0 ≡ r.0 = omega (arith, s.2, r.2, pair.rank) in
    let below = less s.0 s.1 (omega (arith, one, r.1)) in
    omega (arith, below, s.3, r.3, ap (slice_index receipts) one)

-- the same of logs and rows that were read
pub link_right_at : (logs : List Log) (columns : Columns) (i j : ℕ) (log other : Log) (row far : List ℕ)
    (sendings receipts : List ℕ)
    → j ≡ next (length logs) i
    → slice_get logs i ≡ Some log → slice_get logs j ≡ Some other → slice_get columns.nodes i ≡ Some row
    → slice_get columns.nodes j ≡ Some far → HasPicked sending log.events row (length log.events) sendings
    → HasPicked receipt other.events far (length other.events) receipts
    → ((k : ℕ) → k < length sendings → k < length receipts → slice_index sendings k < slice_index receipts k)
    → IsLinkRight logs columns i
link_right_at logs columns i j log other row far sendings receipts is log_is other_is row_is far_is sent_has got_has less =
    let here : log_of logs i ≡ log.events = ap events_of log_is in
    let there : log_of logs j ≡ other.events = ap events_of other_is in
    let row_here : slice_index_or columns.nodes i [] ≡ row = get_or_from_slice_get columns.nodes i row [] row_is in
    let row_there : slice_index_or columns.nodes j [] ≡ far = get_or_from_slice_get columns.nodes j far [] far_is in
    let picked : HasPicked sending (log_of logs i) (slice_index_or columns.nodes i []) (length (log_of logs i)) sendings =
    subst (λ (es : List Event). HasPicked sending es (slice_index_or columns.nodes i []) (length es) sendings) (sym here)
    (subst (λ (r : List ℕ). HasPicked sending log.events r (length log.events) sendings) (sym row_here) sent_has) in
    let taken : HasPicked receipt (log_of logs j) (slice_index_or columns.nodes j []) (length (log_of logs j)) receipts =
    subst (λ (es : List Event). HasPicked receipt es (slice_index_or columns.nodes j []) (length es) receipts)
    (sym there)
    (subst (λ (r : List ℕ). HasPicked receipt other.events r (length other.events) receipts) (sym row_there) got_has) in
    link_right logs columns i sendings receipts picked
    (subst (λ (k : ℕ). HasPicked receipt (log_of logs k) (slice_index_or columns.nodes k []) (length (log_of logs k))
    receipts) is taken) less

-- they are columns of the logs
pub right_columns : (logs : List Log) (cut : List ℕ) (columns : Columns) → AreRows logs cut columns.line columns.nodes
    → (HasOrder logs → AreLinksRight logs columns) → AreColumnsOf logs cut columns
right_columns logs cut columns are links =
    let row = λ (i : ℕ) (l : i < length logs). are.each i (slice_index_or columns.nodes i [])
    (row_at columns.nodes i (omega (arith, l, are.places))) in
    record {
      places = are.places;
      events = λ i l. (row i l).count;
      each = record {
        first = λ i a is. (row i is.place).first (a - 1)
            (omega (arith, is.first, is.within, (row i is.place).count));
        own = λ i a b is one less. (row i is.place).rise (a - 1) (b - 1) (omega arith)
            (omega (arith, is.within, (row i is.place).count));
        inside = λ i a is held. (row i is.place).inside (a - 1)
            (omega (arith, is.first, is.within, (row i is.place).count)) (omega (arith, is.first, held));
        outside = λ i a is past. (row i is.place).outside (a - 1)
            (omega (arith, is.first, is.within, (row i is.place).count)) (omega (arith, is.first, past));
        received = λ has i a b pair. links has i pair.link a b pair;
      };
    }
