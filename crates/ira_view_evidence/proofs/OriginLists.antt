-- The stops to begin with, as they are listed.
use Rattle.std.proofs.Common.{◌≡◌, ◌↔◌, ℕ, ◌+◌, ◌<◌, ◌≤◌, inl, inr, IsTrue, List, [], ◌∷◌, ◌++◌, Some, length, sym, ◌∙◌}
use Rattle.std.proofs.Common.{ap, subst, arith, get_or, refl}
use Rattle.std.specs.Prelude.{slice_get}
use Rattle.std.proofs.lemmas.Bool.{cases_eq}
use Rattle.std.proofs.lemmas.Option.{slice_get-get_or, slice_get_within}
use Rattle.ira_event.specs.Log.{Log}
use Rattle.ira_node.specs.declared.step_fault.StepFault.TheVariants.{Owes}
use Rattle.ira_view_evidence.specs.declared.origin.Origin.{Origin}
use Rattle.ira_order.specs.declared.event_at.EventAt.{EventAt}
use Rattle.ira_order.specs.declared.faulty_event.FaultyEvent.{FaultyEvent}
use Rattle.ira_view_evidence.specs.Origin.{AreOrigins, HappenedBefore, IsOrigin, IsEventAt}
use Rattle.ira_order.specs.FaultyEvent.{AreFirstFaultyEvents, IsFirstFaultyEvent}
use Rattle.ira_view_evidence.proofs.OriginLaws.{stop_event}
use Rattle.ira_order.proofs.Pushed.{each_pushed, pushed_last, pushed_old, rises_pushed}

-- stop k of the list
abbrev pub stop_at : List FaultyEvent → ℕ → FaultyEvent
stop_at stops k = get_or stops k (record { at = record { place = 0; position = 0 }; fault = Owes })

pub listed : (stops : List FaultyEvent) (k : ℕ) → k < length stops → slice_get stops k ≡ Some (stop_at stops k)
listed stops k l = slice_get-get_or stops k (record { at = record { place = 0; position = 0 }; fault = Owes }) l

module _ (logs : List Log) (stops : List FaultyEvent) (are : AreFirstFaultyEvents logs stops) (k : ℕ)
    (l : k < length stops) where
  pub stop_listed : IsFirstFaultyEvent logs (stop_at stops k)
  stop_listed = are.each k (stop_at stops k) (listed stops k l)

  pub event_listed : IsEventAt logs (stop_at stops k).at
  event_listed = stop_event logs (stop_at stops k) stop_listed

-- what holds of the first stops, and of the next one, holds of one more
pub stops_below : (stops : List FaultyEvent) (P : FaultyEvent → Type 0) (h : ℕ) → h < length stops
    → ((k : ℕ) (s : FaultyEvent) → k < h → slice_get stops k ≡ Some s → P s) → P (stop_at stops h)
    → (k : ℕ) (s : FaultyEvent)
    → k < h + 1 → slice_get stops k ≡ Some s → P s
stops_below stops P h l before here k s below at = elim (cases_eq k h) [
  | inr ne ↦ before k s (omega (arith, below, ne)) at
  | inl same ↦
      let there : slice_get stops h ≡ Some s = subst (λ j. slice_get stops j ≡ Some s) same at in
      let is : slice_get stops h ≡ Some (stop_at stops h) = listed stops h l in
      let one : stop_at stops h ≡ s = cc in
      subst P one here
]

-- those among the first h stops
pub record OriginsSoFar (logs : List Log) (named : EventAt) (stops : List FaultyEvent) (h : ℕ) (bs : List Origin)
    : Type 0 where
  pub each : (k : ℕ) (b : Origin) → slice_get bs k ≡ Some b → IsOrigin logs b.event
      × (IsTrue b.happened_before ↔ HappenedBefore logs b.event.at named)
  pub listed_in : (k : ℕ) (b : Origin) → slice_get bs k ≡ Some b → (i : ℕ) × (i < h)
      × (slice_get stops i ≡ Some b.event)
  pub all : (i : ℕ) (s : FaultyEvent) → i < h → slice_get stops i ≡ Some s → IsOrigin logs s → (k : ℕ)
      × (b : Origin)
      × (slice_get bs k ≡ Some b) × (b.event ≡ s)
  pub rise : (k j : ℕ) (a b : Origin) → k < j → slice_get bs k ≡ Some a → slice_get bs j ≡ Some b
      → a.event.at.place < b.event.at.place

pub no_origins : (logs : List Log) (named : EventAt) (stops : List FaultyEvent)
    → OriginsSoFar logs named stops 0 []
no_origins logs named stops = record {
  each = λ k b at. absurd cc;
  listed_in = λ k b at. absurd cc;
  all = λ i s below at is. absurd (omega (arith, below));
  rise = λ k j a b less at there. absurd cc;
}

module _ (logs : List Log) (named : EventAt) (stops : List FaultyEvent) (h : ℕ) (bs : List Origin)
    (are : AreFirstFaultyEvents logs stops) (l : h < length stops) (so_far : OriginsSoFar logs named stops h bs)
  where
    -- a stop more that is none to begin with
    pub origins_over : (other : FaultyEvent) → IsFirstFaultyEvent logs other
        → HappenedBefore logs other.at (stop_at stops h).at
        → OriginsSoFar logs named stops (h + 1) bs
    origins_over other first happened = record {
      each = so_far.each;
      listed_in = λ k b at. (let found = so_far.listed_in k b at in (found.0, omega (arith, found.1), found.2));
      all = stops_below stops (λ s. IsOrigin logs s → (k : ℕ) × (b : Origin) × (slice_get bs k ≡ Some b)
          × (b.event ≡ s)) h l so_far.all (λ is. absurd (is.least other first happened));
      rise = so_far.rise;
    }

    -- and one that is
    pub origins_more : (b : Origin) → b.event ≡ stop_at stops h
        → ((other : FaultyEvent) → IsFirstFaultyEvent logs other
        → HappenedBefore logs other.at (stop_at stops h).at → ⊥)
        → (IsTrue b.happened_before ↔ HappenedBefore logs (stop_at stops h).at named)
        → OriginsSoFar logs named stops (h + 1) (bs ++ b ∷ [])
    origins_more b same least before =
        let is : IsOrigin logs b.event =
        rw same (record { faulty = stop_listed logs stops are h l; least = least }) in
        let before' : IsTrue b.happened_before ↔ HappenedBefore logs b.event.at named = rw same before in
        let here : slice_get stops h ≡ Some b.event = listed stops h l ∙ ap Some (sym same) in
        record {
          each = each_pushed (λ _ x. IsOrigin logs x.event
              × (IsTrue x.happened_before ↔ HappenedBefore logs x.event.at named)) bs (length bs) b refl so_far.each
              (is, before');
          listed_in = each_pushed (λ _ x. (i : ℕ) × (i < h + 1) × (slice_get stops i ≡ Some x.event)) bs (length bs) b
              refl
              (λ k c old. (let found = so_far.listed_in k c old in (found.0, omega (arith, found.1), found.2)))
              (h, omega arith, here);
          all = stops_below stops (λ s. IsOrigin logs s → (k : ℕ) × (c : Origin)
              × (slice_get (bs ++ b ∷ []) k ≡ Some c) × (c.event ≡ s)) h l
              (λ i s below at begins. (let found = so_far.all i s below at begins in
              (found.0, found.1, pushed_old bs b found.1 found.0 found.2, found.3)))
              (λ begins. (length bs, b, pushed_last bs b, same));
          rise = rises_pushed (λ x. x.event.at.place) bs b so_far.rise (λ k a old.
              (let found = so_far.listed_in k a old in
              are.rise found.0 h a.event b.event found.1 found.2 here));
        }

pub origins_all : (logs : List Log) (named : EventAt) (stops : List FaultyEvent) (h : ℕ) (bs : List Origin)
    → AreFirstFaultyEvents logs stops → length stops ≤ h → OriginsSoFar logs named stops h bs
    → AreOrigins logs named bs
origins_all logs named stops h bs are whole so_far = record {
  each = so_far.each;
  all = λ s is. (let found = are.all s is.faulty in
      so_far.all found.0 s (omega (arith, whole, slice_get_within stops found.0 s found.1)) found.1 is);
  rise = so_far.rise;
}
