-- Moments of a ring that are asked for.
use Rattle.std.specs.Prelude.{◌≡◌, ℕ, List, Some}
use Rattle.ira_event.specs.Log.{Log}
use Rattle.ira_view_moment.specs.Moment.{whole_cut}
use Rattle.ira_view.specs.ShownRing.{IsAtCut, IsNoCut, IsNoQuestion, IsOfQuestion, ShownRing}
use Rattle.ira_view.specs.declared.ring_fault.RingFault.{RingFault}
use Rattle.ira_view_moment.specs.Told.{at_end}
use Rattle.ira_commands.specs.declared.ring_moment.RingMoment.{RingMoment}
use Rattle.ira_commands.specs.declared.ring_moment.RingMoment.TheVariants.{AtCut, AtEnd, OfQuestion}

-- the ring of these logs at the moment: their end; when each node has made so many events, which are a consistent cut; or
-- the first that meets a case of the question of this text, of the case of a number or of any
abbrev pub IsAskedRing : List Log → RingMoment → List ℕ → ShownRing → Type 0
IsAskedRing logs AtEnd question ring =
    ring ≡ record { logs = logs; cut = Some (whole_cut logs); told = at_end }
IsAskedRing logs (AtCut events) question ring = IsAtCut logs events.now ring
IsAskedRing logs (OfQuestion case) question ring = IsOfQuestion logs question case ring

-- why there is none: the numbers are no such cut; the question isn't one of their ring, or has no case of the number; or
-- memory ran out
abbrev pub IsNoAskedRing : List Log → RingMoment → List ℕ → RingFault → Type 0
IsNoAskedRing logs AtEnd question f = ⊥
IsNoAskedRing logs (AtCut events) question f = IsNoCut logs events.now f
IsNoAskedRing logs (OfQuestion case) question f = IsNoQuestion logs question case f
