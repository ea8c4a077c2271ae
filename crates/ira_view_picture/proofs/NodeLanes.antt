-- What is drawn of each node, node by node.
use Rattle.std.proofs.Common.{◌≡◌, ℕ, List, [], ◌∷◌, ◌++◌, Some, length, subst}
use Rattle.std.specs.Prelude.{slice_get, slice_index_or}
use Rattle.ira_event.specs.Log.{Log}
use Rattle.ira_order.proofs.Pushed.{each_pushed}
use Rattle.ira_view_picture.specs.declared.window.Window.{Window}
use Rattle.ira_view_picture.specs.Picture.{Drawn, IsDrawnOf}
use Rattle.ira_view_picture.specs.Traffic.{IsTraffic, Traffic}

-- each of these is what is drawn of its node
abbrev pub EachDrawn : List Log → List (List ℕ) → Window → List Drawn → Type 0
EachDrawn logs table w ds =
    (i : ℕ) (d : Drawn) → slice_get ds i ≡ Some d → (log : Log) → slice_get logs i ≡ Some log
    → IsDrawnOf log (slice_index_or table i []) w d

pub drawn_more : (logs : List Log) (table : List (List ℕ)) (w : Window) (ds : List Drawn) (n : ℕ) (d : Drawn)
    (log : Log) → length ds ≡ n → EachDrawn logs table w ds → slice_get logs n ≡ Some log
    → IsDrawnOf log (slice_index_or table n []) w d → EachDrawn logs table w (ds ++ d ∷ [])
drawn_more logs table w ds n d log many each at is =
    each_pushed (λ i x. (l : Log) → slice_get logs i ≡ Some l
    → IsDrawnOf l (slice_index_or table i []) w x) ds n d many each
    (λ l here. (let same : log ≡ l = cc in subst (λ y. IsDrawnOf y (slice_index_or table n []) w d) same is))

-- each of these is what its node sends and receives
abbrev pub EachTraffic : List Log → List Traffic → Type 0
EachTraffic logs ts = (i : ℕ) (t : Traffic) → slice_get ts i ≡ Some t → (log : Log) × (slice_get logs i ≡ Some log)
    × IsTraffic log (length log.events) t

pub traffic_more : (logs : List Log) (ts : List Traffic) (n : ℕ) (t : Traffic) (log : Log) → length ts ≡ n
    → EachTraffic logs ts → slice_get logs n ≡ Some log → IsTraffic log (length log.events) t
    → EachTraffic logs (ts ++ t ∷ [])
traffic_more logs ts n t log many each at is =
    each_pushed (λ i x. (l : Log) × (slice_get logs i ≡ Some l) × IsTraffic l (length l.events) x) ts n t many each
    (log, at, is)
