-- Arrows: the sendings and receipts of links, paired by their numbers, at the columns of these events.
use Rattle.std.specs.Prelude.{◌≡◌, ◌≢◌, ◌⊎◌, ℕ, ◌<◌, ◌≤◌, cond, is_some, max, min, List, Option, Some, None, length}
use Rattle.std.specs.Prelude.{MatchOption, slice_get, slice_index}
use Rattle.std.specs.Option.{option_map}
use Rattle.ira_event.specs.declared.event.Event.{Event}
use Rattle.ira_event.specs.declared.load.Load.{Load}
use Rattle.ira_event.specs.Log.{Log}
use Rattle.ira_order.specs.Matching.{got, receipt, sending, sent}
use Rattle.ira_order.specs.Ring.{log_of, next, numbered}
use Rattle.ira_view_evidence.specs.declared.exchange.Exchange.{Exchange}
use Rattle.ira_view_evidence.specs.Exchange.{IsNthReceipt, IsNthSending}
use Rattle.ira_view_picture.specs.declared.arrow.Arrow.{Arrow}
use Rattle.ira_view_picture.specs.declared.arrow.Passage.{Passage}
use Rattle.ira_view_picture.specs.declared.arrow.Passage.TheVariants.{Backward, Differs, Dropped, NotReceived, NotSent}
use Rattle.ira_view_picture.specs.declared.arrow.Passage.TheVariants.{OnLap}
use Rattle.ira_view_picture.specs.declared.arrow.Passage.TheVariants.{Taken}
use Rattle.ira_view_picture.specs.declared.window.Window.{Window}
use Rattle.ira_view_picture.specs.declared.traffic.Effect.{Effect}
use Rattle.ira_view_trail.specs.Columns.{column_at}
use Rattle.ira_view_picture.specs.Traffic.{ChangesNothing, IsEffect}
use Rattle.ira_view_picture.specs.Window.{IsIn}

-- what an event sends or receives
abbrev pub load_in : Event → Option Load
load_in e = cond (is_some (sending e)) (sending e) (receipt e)

-- sending k of the link, counted from 1, or that there is none
abbrev pub IsSending : List Log → ℕ → ℕ → Option Exchange → Type 0
IsSending logs link k s = MatchOption s (numbered (sent (log_of logs link)) k ≡ None) (IsNthSending logs link k)

-- receipt k of the link, or that there is none
abbrev pub IsReceipt : List Log → ℕ → ℕ → Option Exchange → Type 0
IsReceipt logs link k r =
    MatchOption r (numbered (got (log_of logs (next (length logs) link))) k ≡ None) (IsNthReceipt logs link k)

-- the column of what was sent or received
abbrev pub column_of : List (List ℕ) → Exchange → ℕ
column_of table x = column_at table x.at.place x.at.position

-- the receipt left its node as it was
abbrev pub IsDropped : List Log → Exchange → Type 0
IsDropped logs r = (log : Log) × (slice_get logs r.at.place ≡ Some log) × ChangesNothing log r.at.position

-- what was sent was received, right of its sending
pub record IsPassed (table : List (List ℕ)) (s r : Exchange) : Type 0 where
  pub load : r.load ≡ s.load
  pub later : column_of table s < column_of table r

-- what became of a sending of which this is the receipt
abbrev pub IsPassage : List Log → List (List ℕ) → Exchange → Exchange → Passage → Type 0
IsPassage logs table s r Taken = IsPassed table s r × ¬ (IsDropped logs r)
IsPassage logs table s r Dropped = IsPassed table s r × IsDropped logs r
IsPassage logs table s r OnLap = IsPassed table s r × ¬ (IsDropped logs r)
IsPassage logs table s r Differs = r.load ≢ s.load
IsPassage logs table s r Backward = (r.load ≡ s.load) × (column_of table r ≤ column_of table s)
IsPassage logs table s r NotReceived = ⊥
IsPassage logs table s r NotSent = ⊥

-- the load and the passage are those of a sending and a receipt, as far as there are both
abbrev pub Carries : List Log → List (List ℕ) → Option Exchange → Option Exchange → Load → Passage → Type 0
Carries logs table (Some s) (Some r) load p = (load ≡ s.load) × IsPassage logs table s r p
Carries logs table (Some s) None load p = (load ≡ s.load) × (p ≡ NotReceived)
Carries logs table None (Some r) load p = (load ≡ r.load) × (p ≡ NotSent)
Carries logs table None None load p = ⊥

-- the arrow of its link's sending and receipt of number k, counted from 1
pub record IsArrow (logs : List Log) (table : List (List ℕ)) (k : ℕ) (a : Arrow) : Type 0 where
  pub link : a.link < length logs
  pub sending : Option Exchange
  pub receipt : Option Exchange
  pub is_sending : IsSending logs a.link k sending
  pub is_receipt : IsReceipt logs a.link k receipt
  pub sent : a.sent ≡ option_map (column_of table) sending
  pub received : a.received ≡ option_map (column_of table) receipt
  pub carries : Carries logs table sending receipt a.load a.passage

-- a part of what leads from one column to another is drawn
abbrev pub IsBetween : Window → Option ℕ → Option ℕ → Type 0
IsBetween w (Some a) (Some b) = (min a b ≤ w.last) × (w.first ≤ max a b)
IsBetween w (Some a) None = IsIn w a
IsBetween w None (Some b) = IsIn w b
IsBetween w None None = ⊥

-- a part of the arrow is drawn
abbrev pub IsDrawn : Window → Arrow → Type 0
IsDrawn w a = IsBetween w a.sent a.received

-- number k of one link comes before number h of another one, or of the same one
abbrev pub IsBefore : ℕ → ℕ → ℕ → ℕ → Type 0
IsBefore link k other h = (link < other) ⊎ ((link ≡ other) × (k < h))

-- the arrows that are drawn, each once: of each link and number of which there is a sending or a receipt, where a part
-- of it is drawn; by link and then by number
pub record AreArrows (logs : List Log) (table : List (List ℕ)) (w : Window) (arrows : List Arrow) : Type 0 where
  pub numbers : List ℕ
  pub each : (j : ℕ) (a : Arrow) → slice_get arrows j ≡ Some a
      → IsArrow logs table (slice_index numbers j) a × IsDrawn w a
  pub all :
      (link k : ℕ) (s r : Option Exchange) → link < length logs → 1 ≤ k → IsSending logs link k s
      → IsReceipt logs link k r
      → IsBetween w (option_map (column_of table) s) (option_map (column_of table) r)
      → (j : ℕ) × (a : Arrow) × (slice_get arrows j ≡ Some a) × (a.link ≡ link) × (slice_index numbers j ≡ k)
  pub once : (i j : ℕ) (a b : Arrow) → i < j → slice_get arrows i ≡ Some a → slice_get arrows j ≡ Some b
      → IsBefore a.link (slice_index numbers i) b.link (slice_index numbers j)

-- ---- Helpers, no definitions.

-- the column of sending k of the link, or that there is none
abbrev pub IsSentAt : List Log → List (List ℕ) → ℕ → ℕ → Option ℕ → Type 0
IsSentAt logs table link k from =
    MatchOption from (IsSending logs link k None) (λ c. (x : Exchange) × IsNthSending logs link k x
    × (c ≡ column_of table x))

-- the same of receipt k
abbrev pub IsReceivedAt : List Log → List (List ℕ) → ℕ → ℕ → Option ℕ → Type 0
IsReceivedAt logs table link k to =
    MatchOption to (IsReceipt logs link k None) (λ c. (x : Exchange) × IsNthReceipt logs link k x
    × (c ≡ column_of table x))

-- the effect of a receipt
pub record IsEffectOf (logs : List Log) (r : Exchange) (effect : Effect) : Type 0 where
  pub log : Log
  pub log_is : slice_get logs r.at.place ≡ Some log
  pub effect_is : IsEffect log r.at.position effect

-- those of the links and numbers before this one
pub record AreArrowsBefore (logs : List Log) (table : List (List ℕ)) (w : Window) (link k : ℕ) (arrows : List Arrow)
    : Type 0 where
  pub numbers : List ℕ
  pub count : length numbers ≡ length arrows
  pub each : (j : ℕ) (a : Arrow) → slice_get arrows j ≡ Some a
      → IsArrow logs table (slice_index numbers j) a × IsDrawn w a × IsBefore a.link (slice_index numbers j) link k
  pub all :
      (i h : ℕ) (s r : Option Exchange) → i < length logs → 1 ≤ h → IsBefore i h link k → IsSending logs i h s
      → IsReceipt logs i h r
      → IsBetween w (option_map (column_of table) s) (option_map (column_of table) r)
      → (j : ℕ) × (a : Arrow) × (slice_get arrows j ≡ Some a) × (a.link ≡ i) × (slice_index numbers j ≡ h)
  pub once : (i j : ℕ) (a b : Arrow) → i < j → slice_get arrows i ≡ Some a → slice_get arrows j ≡ Some b
      → IsBefore a.link (slice_index numbers i) b.link (slice_index numbers j)
