-- Logs of which a beginning was kept.
use Rattle.std.proofs.Common.{◌≡◌, ℕ, zero, suc, ◌+◌, ◌<◌, ◌≤◌, inl, inr, List, [], ◌∷◌, ◌++◌, length, refl, sym, ◌∙◌}
use Rattle.std.proofs.Common.{ap, arith, subst, take, drop, true, false, Bool, Option, Some, None, get_or}
use Rattle.std.specs.Prelude.{slice_index, slice_get}
use Rattle.std.specs.List.{list_all}
use Rattle.std.proofs.lemmas.Bool.{cases_eq}
use Rattle.std.proofs.lemmas.List.{length-take, length_push, take-append-drop, take-take, take_more}
use Rattle.std.proofs.lemmas.List.Folds.{list_all-append}
use Rattle.std.proofs.lemmas.Option.{get_or_from_slice_get, slice_get-get_or, slice_get_within}
use Rattle.ira_event.specs.Event.{is_event, is_of_version}
use Rattle.ira_event.specs.declared.event.Event.{Event}
use Rattle.ira_event.specs.Log.{Log, IsLog}
use Rattle.ira_event.specs.Logs.{AreLogs}
use Rattle.ira_event.proofs.Numerals.{and_parts}
use Rattle.ira_order.specs.declared.match_fault.MatchFault.{MatchFault}
use Rattle.ira_order.specs.declared.match_fault.MatchFault.TheVariants.{NoSending, Differs}
use Rattle.ira_order.specs.MatchFault.{HasNoSending, IsMatchFault}
use Rattle.ira_order.specs.Matching.{got, sent}
use Rattle.ira_order.specs.Ring.{events_of, log_of, next, numbered}
use Rattle.ira_order.proofs.Pairing.{numbered-within}
use Rattle.ira_order.proofs.Places.{numbered_some}
use Rattle.ira_order.proofs.Ranks.{next_below}
use Rattle.ira_mend.specs.Beginning.{AreBegun, IsGreatestBeginning, begun}
use Rattle.ira_mend.specs.Laws.{AreLeft, IsLeft}
use Rattle.ira_mend.specs.Mended.{HasDifference}

all_of_first : (p : Event → Bool) (xs : List Event) (n : ℕ) → list_all p xs ≡ true → list_all p (take n xs) ≡ true
all_of_first p xs n all =
    (and_parts (list_all p (take n xs)) (list_all p (drop n xs)) (sym (list_all-append p (take n xs) (drop n xs))
    ∙ ap (list_all p) (take-append-drop n xs) ∙ all)).0

-- a beginning of a log is one
pub begun_is_log : (log : Log) (n : ℕ) → IsLog log → IsLog (begun log n)
begun_is_log log n is = record {
  version = is.version;
  size = is.size;
  fits = is.fits;
  place = is.place;
  count = omega (arith, is.count, length-take n log.events);
  numbers = all_of_first is_event log.events n is.numbers;
  held = all_of_first (is_of_version log.version) log.events n is.held;
}

-- an event more of it
pub first_more : (es : List Event) (n : ℕ) (e : Event) → slice_get es n ≡ Some e → take n es ++ e ∷ [] ≡ take (n + 1) es
first_more es n e is =
    ap (λ (x : Event). take n es ++ x ∷ []) (sym (get_or_from_slice_get es n e e is))
    ∙ sym (take_more es n e (slice_get_within es n e is))

before_last : (logs : List Log) (last : Log) (i : ℕ) → i < length logs
    → slice_get (logs ++ last ∷ []) i ≡ slice_get logs i
before_last [] last i l = absurd (omega arith)
before_last (log ∷ logs) last zero l = refl
before_last (log ∷ logs) last (suc i) l = before_last logs last i (omega arith)

at_last : (logs : List Log) (last : Log) → slice_get (logs ++ last ∷ []) (length logs) ≡ Some last
at_last [] last = refl
at_last (log ∷ logs) last = at_last logs last

-- the first so many logs were begun
pub record BegunSoFar (logs : List Log) (cut : List ℕ) (news : List Log) (place : ℕ) : Type 0 where
  pub count : length news ≡ place
  pub each : (i : ℕ) (log : Log) → i < place → slice_get logs i ≡ Some log
      → slice_get news i ≡ Some (begun log (slice_index cut i))

pub begun_none : (logs : List Log) (cut : List ℕ) → BegunSoFar logs cut [] 0
begun_none logs cut = record { count = refl; each = λ i log l. absurd (omega arith) }

pub begun_more : (logs : List Log) (cut : List ℕ) (news : List Log) (place : ℕ) (log new : Log)
    → BegunSoFar logs cut news place → slice_get logs place ≡ Some log → new ≡ begun log (slice_index cut place)
    → BegunSoFar logs cut (news ++ new ∷ []) (place + 1)
begun_more logs cut news place log new so_far at is = record {
  count = omega (arith, length_push news new, so_far.count);
  each = λ i other l at_i. elim (cases_eq i place) [
    | inl same ↦
        let one : Some other ≡ Some log = sym at_i ∙ ap (slice_get logs) same ∙ at in
        let same_log : log ≡ other = cc in
        let last : slice_get (news ++ new ∷ []) i ≡ Some new =
        ap (slice_get (news ++ new ∷ [])) (same ∙ sym so_far.count) ∙ at_last news new in
        last ∙ ap Some is ∙ ap (λ (x : Log). Some (begun x (slice_index cut place))) same_log
        ∙ ap (λ n. Some (begun other (slice_index cut n))) (sym same)
    | inr ne ↦
        let low : i < place = omega (arith, l, ne) in
        before_last news new i (omega (arith, so_far.count, low)) ∙ so_far.each i other low at_i
  ];
}

pub begun_all : (logs : List Log) (cut : List ℕ) (news : List Log) (place : ℕ) → BegunSoFar logs cut news place
    → place ≡ length logs → AreBegun logs cut news
begun_all logs cut news place so_far all = record {
  places = so_far.count ∙ all;
  each = λ i log at. so_far.each i log (omega (arith, slice_get_within logs i log at, all)) at;
}

no_log : Log
no_log = record { version = 0; nodes = 0; place = 0; initiator = false; events = [] }

-- the events that are left of node i
pub begun_events : (logs : List Log) (cut : List ℕ) (news : List Log) (i : ℕ) → AreBegun logs cut news → i < length logs
    → log_of news i ≡ take (slice_index cut i) (log_of logs i)
begun_events logs cut news i are l =
    let found = slice_get-get_or logs i no_log l in
    ap events_of (are.each i (get_or logs i no_log) found)
    ∙ ap (λ (o : Option Log). take (slice_index cut i) (events_of o)) (sym found)

-- ---- what a crash left

-- beginnings of logs are left of them
pub begun_left : (logs : List Log) (cut : List ℕ) (news : List Log) → AreBegun logs cut news → AreLeft logs cut news
begun_left logs cut news are = record {
  places = are.places;
  each = λ i log at. (
    begun log (slice_index cut i),
    are.each i log at,
    record { begun_is = refl; start = λ some. refl },
  );
}

-- whose rest a log is
pub record IsLeftOf (whole : List Log) (cut : List ℕ) (i : ℕ) (rest : Log) : Type 0 where
  pub log : Log
  pub at : slice_get whole i ≡ Some log
  pub is : IsLeft log (slice_index cut i) rest

pub left_of : (whole : List Log) (cut : List ℕ) (left : List Log) (i : ℕ) (rest : Log) → AreLeft whole cut left
    → slice_get left i ≡ Some rest → IsLeftOf whole cut i rest
left_of whole cut left i rest are at =
    let within : i < length whole = omega (arith, slice_get_within left i rest at, are.places) in
    let log : Log = get_or whole i no_log in
    let found : slice_get whole i ≡ Some log = slice_get-get_or whole i no_log within in
    let it = are.each i log found in
    let one : Some it.0 ≡ Some rest = sym it.1 ∙ at in
    let same : it.0 ≡ rest = cc in
    record { log = log; at = found; is = subst (λ x. IsLeft log (slice_index cut i) x) same it.2 }

-- what is left of the logs of a ring are logs of a ring
pub left_are_logs : (whole : List Log) (cut : List ℕ) (left : List Log) → AreLogs whole → AreLeft whole cut left
    → AreLogs left
left_are_logs whole cut left are rest_are = record {
  ring = rw rest_are.places are.ring;
  sizes = λ i rest at. (let of = left_of whole cut left i rest rest_are at in
      ap (λ (l : Log). l.nodes) of.is.begun_is ∙ are.sizes i of.log of.at ∙ sym rest_are.places);
  places = λ i rest at. (let of = left_of whole cut left i rest rest_are at in
      ap (λ (l : Log). l.place) of.is.begun_is ∙ are.places i of.log of.at);
  valid = λ i rest at. (let of = left_of whole cut left i rest rest_are at in
      let is = begun_is_log of.log (slice_index cut i) (are.valid i of.log of.at) in
      subst IsLog (sym of.is.begun_is) (record {
        version = is.version;
        size = is.size;
        fits = is.fits;
        place = is.place;
        count = is.count;
        numbers = is.numbers;
        held = is.held;
      }));
  version = are.version;
  versions = λ i rest at. (let of = left_of whole cut left i rest rest_are at in
      ap (λ (l : Log). l.version) of.is.begun_is ∙ are.versions i of.log of.at);
}

-- the events that are left of node i
pub left_events : (whole : List Log) (cut : List ℕ) (left : List Log) (i : ℕ) → AreLeft whole cut left
    → i < length whole → log_of left i ≡ take (slice_index cut i) (log_of whole i)
left_events whole cut left i are l =
    let log : Log = get_or whole i no_log in
    let found : slice_get whole i ≡ Some log = slice_get-get_or whole i no_log l in
    let it = are.each i log found in
    ap events_of it.1 ∙ ap (λ (x : Log). x.events) it.2.begun_is
    ∙ ap (λ (o : Option Log). take (slice_index cut i) (events_of o)) (sym found)

-- a beginning of what is left is left
pub left_again : (log rest : Log) (n m : ℕ) → IsLeft log n rest → m ≤ n → IsLeft log m (begun rest m)
left_again log rest n m is le =
    let events : rest.events ≡ take n log.events = ap (λ (x : Log). x.events) is.begun_is in
    let all : take m rest.events ≡ take m log.events = ap (take m) events ∙ take-take m n log.events le in
    let none : rest.events ≡ [] → take m rest.events ≡ [] = λ e. ap (take m) e ∙ take_none m in
    record {
      begun_is =
          ap (λ (x : Log). record x { events = take m rest.events }) is.begun_is
          ∙ ap (λ (es : List Event). record (begun log m) { initiator = rest.initiator; events = es }) all;
      start = λ some. is.start (λ e. some (none e));
    }
  where
    take_none : (m : ℕ) → ◌≡◌ {A = List Event} (take m []) []
    take_none zero = refl
    take_none (suc m) = refl

-- fewer sendings than receipts have no sending
too_few : (writer reader : List Event) (k : ℕ) → length (got reader) ≤ length (sent writer)
    → HasNoSending writer reader k → ⊥
too_few writer reader zero few h = (let none : None ≡ Some h.0 = h.1 in cc)
too_few writer reader (suc k) few h =
    let within = numbered-within (got reader) (suc k) h.0 h.1 in
    let some = numbered_some (sent writer) k (omega (arith, within, few)) in
    let here : numbered (sent writer) (suc k) ≡ Some some.0 = some.1 in
    let none : numbered (sent writer) (suc k) ≡ None = h.2 in
    cc

-- so a fault of matching is one of a receipt that differs
pub begun_differ : (logs : List Log) (cut : List ℕ) (news : List Log) (f : MatchFault) → IsGreatestBeginning logs cut
    → AreBegun logs cut news → IsMatchFault news f → HasDifference logs f
begun_differ logs cut news (NoSending link k) greatest are fault =
    let i = fault.0 in
    let n : length news ≡ length logs = are.places in
    let l : i < length logs = omega (arith, fault.1, n) in
    let l' : next (length logs) i < length logs = next_below (length logs) i l in
    let holds = greatest.consistent.sendings i l in
    let writer : log_of news i ≡ take (slice_index cut i) (log_of logs i) = begun_events logs cut news i are l in
    let reader : log_of news (next (length news) i)
    ≡ take (slice_index cut (next (length logs) i)) (log_of logs (next (length logs) i)) =
    ap (λ m. log_of news (next m i)) n ∙ begun_events logs cut news (next (length logs) i) are l' in
    absurd (too_few (log_of news i) (log_of news (next (length news) i)) k (rw (writer, reader) holds) fault.3.2)
begun_differ logs cut news (Differs link k) greatest are fault = record {
  beginnings = news;
  greatest = record { cut = cut; greatest = greatest; begun = are };
  link = link;
  receipt = k;
  differs = refl;
  fault = fault;
}
