-- Nodes and links at a cut.
use Rattle.std.proofs.Common.{◌≡◌, ℕ, suc, ◌+◌, ◌<◌, ◌≤◌, inl, inr, Option, Some, None, List, [], ◌∷◌, ◌++◌}
use Rattle.std.proofs.Common.{length, take, drop, get_or, refl, sym, ◌∙◌, ap, subst, arith, append-nil}
use Rattle.std.specs.Prelude.{slice_get, slice_index}
use Rattle.std.specs.List.{cons_option}
use Rattle.std.specs.Option.{option_map}
use Rattle.std.proofs.lemmas.Option.{get_or_from_slice_get, slice_get_cases, slice_get_within, slice_get-map}
use Rattle.std.proofs.lemmas.List.{drop_all, drop-append-le, length-append, length-map, map-append, take-append-drop}
use Rattle.std.proofs.lemmas.List.{take_more}
use Rattle.std.proofs.lemmas.List.Elements.{filter_map-append}
use Rattle.ira_event.specs.declared.load.Load.{Load}
use Rattle.ira_event.specs.declared.event.Event.{Event}
use Rattle.ira_event.specs.declared.event.Event.TheVariants.{Draw, Sent, Got, Yield}
use Rattle.ira_event.specs.Log.{Log}
use Rattle.ira_event.specs.Messages.{sending, receipt, sent, got}
use Rattle.ira_order.specs.Cut.{IsConsistentCut}
use Rattle.ira_order.specs.Matching.{Matches}
use Rattle.ira_order.specs.Ring.{events_of, log_of, next, numbered}
use Rattle.ira_order.proofs.Bridge.{before_places, consistent_covers}
use Rattle.ira_order.proofs.Pairing.{numbered-append}
use Rattle.ira_order.proofs.Pushed.{found_in_push}
use Rattle.ira_order.proofs.Ranks.{filter_map_more}
use Rattle.ira_order.proofs.Acyclic.{before_within}
use Rattle.ira_view_moment.specs.declared.node_progress.NodeProgress.{NodeProgress}
use Rattle.ira_view_moment.specs.NodeProgress.{IsProgress}
use Rattle.ira_view_moment.specs.Moment.{AreOnTheirWay, whole_cut}

-- ---- the whole cut

whole_at : (logs : List Log) (i : ℕ) → i < length logs → slice_index (whole_cut logs) i ≡ length (log_of logs i)
whole_at logs i l = elim (slice_get_cases logs i).1 [
  | inl h ↦
      get_or_from_slice_get (whole_cut logs) i (length h.0.events) 0
      (slice_get-map (λ (log : Log). length log.events) logs i ∙ ap (option_map (λ (log : Log). length log.events)) h.2)
      ∙ sym (ap (λ (o : Option Log). length (events_of o)) h.2)
  | inr past ↦ absurd (omega (arith, past.0))
]

pub whole_is_consistent : (logs : List Log) → IsConsistentCut logs (whole_cut logs)
whole_is_consistent logs = (
  record {
    places = length-map logs (λ (log : Log). length log.events);
    within = λ i l. omega (arith, whole_at logs i l);
  },
  λ i a j b before held. omega (
    arith,
    (before_within logs i a j b before).1,
    whole_at logs i (before_places logs i a j b before).0,
  ),
)

pub ends_more : (logs : List Log) (place : ℕ) (log : Log) → slice_get logs place ≡ Some log
    → whole_cut (take (place + 1) logs) ≡ whole_cut (take place logs) ++ length log.events ∷ []
ends_more logs place log at =
    ap whole_cut (take_more logs place log (slice_get_within logs place log at))
    ∙ map-append (λ (x : Log). length x.events) (take place logs) (get_or logs place log ∷ [])
    ∙ ap (λ (x : Log). whole_cut (take place logs) ++ length x.events
    ∷ []) (get_or_from_slice_get logs place log log at)

-- ---- nodes

abbrev pub AreSoFar : List Log → List ℕ → List NodeProgress → Type 0
AreSoFar logs cut nodes = (i : ℕ) (log : Log) (p : NodeProgress) → slice_get logs i ≡ Some log
    → slice_get nodes i ≡ Some p → IsProgress log (slice_index cut i) p

pub node_more : (logs : List Log) (cut : List ℕ) (nodes : List NodeProgress) (place : ℕ) (log : Log) (p : NodeProgress)
    → length nodes ≡ place → AreSoFar logs cut nodes → slice_get logs place ≡ Some log
    → IsProgress log (slice_index cut place) p → AreSoFar logs cut (nodes ++ p ∷ [])
node_more logs cut nodes place log p many are at is i other q at_log at_node =
    elim (found_in_push nodes p i q at_node) [
      | inl old ↦ are i other q at_log old
      | inr new ↦
          let here : place ≡ i = sym many ∙ new.0 in
          let found : slice_get logs i ≡ Some log = rw here at at in
          let same : log ≡ other = (let one : Some log ≡ Some other = sym found ∙ at_log in cc) in
          let P : Log → Type 0 = λ x. IsProgress x (slice_index cut i) q in
          let Q : NodeProgress → Type 0 = λ x. IsProgress log (slice_index cut i) x in
          subst P same (subst Q new.1 (rw here at is))
    ]

pub received_is : (logs : List Log) (cut : List ℕ) (nodes : List NodeProgress) (j : ℕ) (p : NodeProgress)
    → AreSoFar logs cut nodes → j < length logs → slice_get nodes j ≡ Some p
    → p.received ≡ length (got (take (slice_index cut j) (log_of logs j)))
received_is logs cut nodes j p are below at = elim (slice_get_cases logs j).1 [
  | inr past ↦ absurd (omega (arith, past.0, below))
  | inl h ↦
      (are j h.0 p h.2 at).received
      ∙ sym (ap (λ (o : Option Log). length (got (take (slice_index cut j) (events_of o)))) h.2)
]

-- ---- sendings after the first ones

pub sent_over : (es : List Event) (k : ℕ) (e : Event) → slice_get es k ≡ Some e → sending e ≡ None
    → sent (take (k + 1) es) ≡ sent (take k es)
sent_over es k e at none =
    filter_map_more sending es k e (slice_get_within es k e at)
    ∙ ap (λ (x : Event). sent (take k es) ++ cons_option (sending x) []) (get_or_from_slice_get es k e e at)
    ∙ ap (λ (x : Option Load). sent (take k es) ++ cons_option x []) none
    ∙ append-nil (sent (take k es))

pub sent_on : (es : List Event) (k : ℕ) (m : Load) → slice_get es k ≡ Some (Sent m)
    → sent (take (k + 1) es) ≡ sent (take k es) ++ m ∷ []
sent_on es k m at =
    filter_map_more sending es k (Sent m) (slice_get_within es k (Sent m) at)
    ∙ ap (λ (x : Event). sent (take k es) ++ cons_option (sending x) [])
    (get_or_from_slice_get es k (Sent m) (Sent m) at)

pub no_sending : (e : Event) → ((m : Load) → e ≡ Sent m → ⊥) → sending e ≡ None
no_sending (Draw id) never = refl
no_sending (Sent l) never = absurd (never l refl)
no_sending (Got l) never = refl
no_sending Yield never = refl

-- of the first k events so many sendings were passed over, and the others kept
pub record Kept (es : List Event) (received k passed : ℕ) (loads : List Load) : Type 0 where
  pub few : passed ≤ received
  pub short : passed < received → length (sent (take k es)) ≡ passed
  pub long : passed ≡ received → received ≤ length (sent (take k es))
  pub held : loads ≡ drop received (sent (take k es))

pub kept_over : (es : List Event) (received k passed : ℕ) (loads : List Load) (e : Event) → slice_get es k ≡ Some e
    → sending e ≡ None → Kept es received k passed loads → Kept es received (k + 1) passed loads
kept_over es received k passed loads e at none h =
    let same = sent_over es k e at none in
    record {
      few = h.few;
      short = λ l. ap length same ∙ h.short l;
      long = λ q. omega (arith, h.long q, ap length same);
      held = h.held ∙ ap (drop received) (sym same);
    }

pub kept_passed : (es : List Event) (received k passed : ℕ) (loads : List Load) (m : Load)
    → slice_get es k ≡ Some (Sent m) → passed < received → Kept es received k passed loads
    → Kept es received (k + 1) (passed + 1) loads
kept_passed es received k passed loads m at low h =
    let more = sent_on es k m at in
    let number : length (sent (take (k + 1) es)) ≡ passed + 1 =
    omega (arith, ap length more, length-append (sent (take k es)) (m ∷ []), h.short low) in
    record {
      few = omega arith;
      short = λ l. number;
      long = λ q. omega (arith, number, q);
      held = h.held ∙ drop_all received (sent (take k es)) (omega (arith, h.short low))
          ∙ sym (drop_all received (sent (take (k + 1) es)) (omega (arith, number)));
    }

pub kept_more : (es : List Event) (received k passed : ℕ) (loads : List Load) (m : Load)
    → slice_get es k ≡ Some (Sent m) → received ≤ passed → Kept es received k passed loads
    → Kept es received (k + 1) passed (loads ++ m ∷ [])
kept_more es received k passed loads m at high h =
    let more = sent_on es k m at in
    let all : received ≤ length (sent (take k es)) = h.long (omega (arith, h.few)) in
    record {
      few = h.few;
      short = λ l. absurd (omega arith);
      long = λ q. omega (arith, all, ap length more, length-append (sent (take k es)) (m ∷ []));
      held =
          ap (λ (x : List Load). x ++ m ∷ []) h.held
          ∙ sym (drop-append-le received (sent (take k es)) (m ∷ []) all)
          ∙ ap (drop received) (sym more);
    }

-- ---- links

begins : (xs ys : List Load) → length xs ≤ length ys
    → ((k : ℕ) (m : Load) → slice_get xs k ≡ Some m → slice_get ys k ≡ Some m) → ys ≡ xs ++ drop (length xs) ys
begins [] ys few each = refl
begins (x ∷ xs) [] few each = absurd (omega arith)
begins (x ∷ xs) (y ∷ ys) few each =
    let first : Some y ≡ Some x = each 0 x refl in
    let same : y ≡ x = cc in
    rw same (ap (λ (zs : List Load). x ∷ zs) (begins xs ys (omega arith) (λ k m at. each (suc k) m at)))

-- what was received of a link begins what was sent on it
module _ (logs : List Log) (cut : List ℕ) (i : ℕ) where
  abbrev writer : List Event
  writer = log_of logs i

  abbrev reader : List Event
  reader = log_of logs (next (length logs) i)

  abbrev sents : List Load
  sents = sent (take (slice_index cut i) writer)

  abbrev gots : List Load
  gots = got (take (slice_index cut (next (length logs) i)) reader)

  whole_got : got reader ≡ gots ++ got (drop (slice_index cut (next (length logs) i)) reader)
  whole_got =
      ap got (sym (take-append-drop (slice_index cut (next (length logs) i)) reader))
      ∙ filter_map-append receipt (take (slice_index cut (next (length logs) i)) reader)
      (drop (slice_index cut (next (length logs) i)) reader)

  whole_sent : sent writer ≡ sents ++ sent (drop (slice_index cut i) writer)
  whole_sent = ap sent (sym (take-append-drop (slice_index cut i) writer))
      ∙ filter_map-append sending (take (slice_index cut i) writer) (drop (slice_index cut i) writer)

  received_first : Matches logs → i < length logs → length gots ≤ length sents → (k : ℕ) (m : Load)
      → slice_get gots k ≡ Some m → slice_get sents k ≡ Some m
  received_first matches l few k m at =
      let below : k < length gots = slice_get_within gots k m at in
      let taken : numbered (got reader) (suc k) ≡ Some m =
      ap (λ (x : List Load). numbered x (suc k)) whole_got
      ∙ numbered-append gots (got (drop (slice_index cut (next (length logs) i)) reader)) (suc k)
      (omega (arith, below)) ∙ at in
      let put : numbered (sent writer) (suc k) ≡ Some m = matches i l (suc k) m taken in
      sym (numbered-append sents (sent (drop (slice_index cut i) writer)) (suc k) (omega (arith, below, few)))
      ∙ ap (λ (x : List Load). numbered x (suc k)) (sym whole_sent) ∙ put

  pub on_their_way : (received : ℕ) → Matches logs → IsConsistentCut logs cut → i < length logs → received ≡ length gots
      → AreOnTheirWay logs cut i (drop received sents)
  on_their_way received matches consistent l is =
      let few : length gots ≤ length sents =
      consistent_covers logs (slice_index cut) matches consistent.0.within consistent.1 i l in
      rw is (begins gots sents few (received_first matches l few))

abbrev pub AreLinksSoFar : List Log → List ℕ → List (List Load) → Type 0
AreLinksSoFar logs cut links = (i : ℕ) (loads : List Load) → slice_get links i ≡ Some loads
    → AreOnTheirWay logs cut i loads

pub link_more : (logs : List Log) (cut : List ℕ) (links : List (List Load)) (link : ℕ) (loads : List Load)
    → length links ≡ link → AreLinksSoFar logs cut links → AreOnTheirWay logs cut link loads
    → AreLinksSoFar logs cut (links ++ loads ∷ [])
link_more logs cut links link loads many are is i others at = elim (found_in_push links loads i others at) [
  | inl old ↦ are i others old
  | inr new ↦
      let here : link ≡ i = sym many ∙ new.0 in
      let P : List Load → Type 0 = AreOnTheirWay logs cut i in
      let Q : ℕ → Type 0 = λ x. AreOnTheirWay logs cut x loads in
      subst P new.1 (subst Q here is)
]
