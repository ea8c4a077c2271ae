-- Lists of logs that have the same events at each place: what is said of pairs, orders and cuts looks at nothing else.
use Rattle.std.proofs.Common.{◌≡◌, ℕ, ◌<◌, ◌≤◌, List, length, sym, ap, subst, ◌∙◌}
use Rattle.std.specs.Prelude.{All, Some, take, slice_index}
use Rattle.ira_event.specs.declared.event.Event.{Event}
use Rattle.ira_event.specs.declared.event.Event.TheVariants.{Sent, Got}
use Rattle.ira_event.specs.Log.{Log}
use Rattle.ira_order.specs.declared.match_fault.MatchFault.{MatchFault}
use Rattle.ira_order.specs.Ring.{next, log_of, numbered}
use Rattle.ira_order.specs.Matching.{sent, got, IsPaired, LinkMatches, Matches}
use Rattle.ira_order.specs.MatchFault.{IsLinkFault, IsMatchFault}
use Rattle.ira_order.specs.Before.{Before, own, message, onward}
use Rattle.ira_order.specs.Order.{IsPair, IsOrder, StandsAt}
use Rattle.ira_order.specs.Circle.{HasOrder, HasCircle}
use Rattle.ira_order.specs.Cut.{IsCut, IsConsistentCut}

-- as many logs, and at each place the same events
pub record HaveSameEvents (logs others : List Log) : Type 0 where
  pub count : length logs ≡ length others
  pub events : (i : ℕ) → log_of logs i ≡ log_of others i

pub turned : (logs others : List Log) → HaveSameEvents logs others → HaveSameEvents others logs
turned logs others same = record { count = sym same.count; events = λ i. sym (same.events i) }

-- what holds of a writer's and a reader's events holds of those that are equal to them
of_both : (P : List Event → List Event → Type 0) (w v r s : List Event) → w ≡ v → r ≡ s → P w r → P v s
of_both P w v r s e f h = subst (λ x. P v x) f (subst (λ x. P x r) e h)

module _ (logs others : List Log) (same : HaveSameEvents logs others) where
  at_next : (i : ℕ) → log_of logs (next (length logs) i) ≡ log_of others (next (length others) i)
  at_next i = same.events (next (length logs) i) ∙ ap (λ n. log_of others (next n i)) same.count

  on_ring : (i : ℕ) → i < length logs → i < length others
  on_ring i l = subst (λ n. i < n) same.count l

  on_old_ring : (i : ℕ) → i < length others → i < length logs
  on_old_ring i l = subst (λ n. i < n) (sym same.count) l

  link_matches : (i : ℕ) → LinkMatches logs i → LinkMatches others i
  link_matches i h k = of_both (λ w r. IsPaired w r k) _ _ _ _ (same.events i) (at_next i) (h k)

  pub matches : Matches logs → Matches others
  matches h i l = link_matches i (h i (on_old_ring i l))

  pub match_fault : (f : MatchFault) → IsMatchFault logs f → IsMatchFault others f
  match_fault f h = (
    h.0,
    on_ring h.0 h.1,
    λ j l. link_matches j (h.2 j l),
    of_both (λ w r. IsLinkFault h.0 w r f) _ _ _ _ (same.events h.0) (at_next h.0) h.3,
  )

  pub pair : (i a b : ℕ) → IsPair logs i a b → IsPair others i a b
  pair i a b h = record {
    message = h.message;
    taken = h.taken;
    link = on_ring i h.link;
    sends = subst (λ es. numbered es a ≡ Some (Sent h.message)) (same.events i) h.sends;
    receives = subst (λ es. numbered es b ≡ Some (Got h.taken)) (at_next i) h.receives;
    rank = of_both (λ w r. length (sent (take a w)) ≡ length (got (take b r))) _ _ _ _ (same.events i) (at_next i)
        h.rank;
  }

  pub before : (i a j b : ℕ) → Before logs i a j b → Before others i a j b
  before i a j b (own e l one lower upper) =
      own e (on_ring i l) one lower (subst (λ es. b ≤ length es) (same.events i) upper)
  before i a j b (message e h) = message (subst (λ n. next n i ≡ j) same.count e) (pair i a b h)
  before i a k c (onward {j = j} {b = b} f g) = onward (before i a j b f) (before j b k c g)

  pub cut : (c : List ℕ) → IsCut logs c → IsCut others c
  cut c h = record {
    places = h.places ∙ same.count;
    within = λ i l. subst (λ es. slice_index c i ≤ length es) (same.events i) (h.within i (on_old_ring i l));
  }

-- What the other logs must have for something to hold of the first.

pub order : (logs others : List Log) → HaveSameEvents logs others → (o : List ℕ) → IsOrder logs o → IsOrder others o
order logs others same o h =
    let back = turned logs others same in
    record {
      places = subst (λ n. All (λ p. p < n) o) same.count h.places;
      whole = λ i l. h.whole i (on_old_ring logs others same i l) ∙ ap (λ es. length es) (same.events i);
      after = λ i a b s t p si tj.
          h.after i a b s t (pair others logs back i a b p) si
          (subst (λ n. StandsAt o t (next n i) b) (sym same.count) tj);
    }

pub consistent : (logs others : List Log) → HaveSameEvents logs others → (c : List ℕ) → IsConsistentCut logs c
    → IsConsistentCut others c
consistent logs others same c h =
    (cut logs others same c h.0, λ i a j b f. h.1 i a j b (before others logs (turned logs others same) i a j b f))

pub has_order : (logs others : List Log) → HaveSameEvents logs others → HasOrder logs → HasOrder others
has_order logs others same h = (matches logs others same h.0, h.1, order logs others same h.1 h.2)

pub has_circle : (logs others : List Log) → HaveSameEvents logs others → HasCircle logs → HasCircle others
has_circle logs others same h =
    (matches logs others same h.0, λ o is. h.1 o (order others logs (turned logs others same) o is))
