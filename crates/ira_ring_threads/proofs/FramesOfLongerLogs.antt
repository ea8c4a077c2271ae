-- The frames, and the draws, of a log that is one event longer.
use Rattle.std.proofs.Common.{◌≡◌, ℕ, List, [], ◌∷◌, ◌++◌, Option, Some, None, refl, sym, ap, ◌∙◌}
use Rattle.std.specs.List.{filter_map, cons_option}
use Rattle.std.proofs.lemmas.List.{map-append, append-nil, append_assoc}
use Rattle.std.proofs.lemmas.List.Elements.{filter_map-append}
use Rattle.ira_event.specs.declared.load.Load.{Load}
use Rattle.ira_event.specs.declared.event.Event.{Event}
use Rattle.ira_event.specs.Log.{Log}
use Rattle.ira_links.specs.declared.frame.Frame.{Frame}
use Rattle.ira_links.specs.declared.frame.Frame.TheVariants.{Load as Loaded}
use Rattle.ira_order.specs.Matching.{sending, receipt, sent, got}
use Rattle.ira_event.specs.Messages.{drawing, drawn}
use Rattle.ira_ring_threads.specs.NodeFrames.{frames}

-- with these events the node has put and taken these frames, of which it found those put and taken before, and of its
-- IDs these are left
pub record SoFar (log : Log) (put_before put taken_before taken : List Frame) (ids left : List ℕ) : Type 0 where
  pub puts : put ≡ put_before ++ frames (sent log.events)
  pub takes : taken ≡ taken_before ++ frames (got log.events)
  pub draws : ids ≡ drawn log.events ++ left

pub so_far_first : (log : Log) (put taken : List Frame) (ids : List ℕ) → log.events ≡ []
    → SoFar log put put taken taken ids ids
so_far_first log put taken ids empty = record {
  puts = rw empty (sym (append-nil put));
  takes = rw empty (sym (append-nil taken));
  draws = rw empty refl;
}

frames_more : (load : Event → Option Load) (es : List Event) (e : Event)
    → frames (filter_map load es) ++ frames (cons_option (load e) []) ≡ frames (filter_map load (es ++ e ∷ []))
frames_more load es e = sym (ap (λ loads. frames loads) (filter_map-append load es (e ∷ []))
    ∙ map-append Loaded (filter_map load es) (cons_option (load e) []))

frames_on : (load : Event → Option Load) (before now : List Frame) (es : List Event) (e : Event)
    → now ≡ before ++ frames (filter_map load es)
    → now ++ frames (cons_option (load e) []) ≡ before ++ frames (filter_map load (es ++ e ∷ []))
frames_on load before now es e is =
    ap (λ fs. fs ++ frames (cons_option (load e) [])) is
    ∙ append_assoc before (frames (filter_map load es)) (frames (cons_option (load e) []))
    ∙ ap (λ fs. before ++ fs) (frames_more load es e)

draws_more : (ids : List ℕ) (id : Option ℕ) (left : List ℕ)
    → ids ++ cons_option id left ≡ (ids ++ cons_option id []) ++ left
draws_more ids None left = ap (λ xs. xs ++ left) (sym (append-nil ids))
draws_more ids (Some id) left = sym (append_assoc ids (id ∷ []) left)

-- with one event more it has also put what the event sends, taken what it receives, and drawn what it draws
pub so_far_more : (a b : Log) (e : Event) (put_before put puts taken_before taken takes : List Frame)
    (ids left others : List ℕ) → SoFar a put_before put taken_before taken ids left
    → b ≡ record a { events = a.events ++ e ∷ [] } → puts ≡ put ++ frames (cons_option (sending e) [])
    → takes ≡ taken ++ frames (cons_option (receipt e) []) → left ≡ cons_option (drawing e) others
    → SoFar b put_before puts taken_before takes ids others
so_far_more a b e put_before put puts taken_before taken takes ids left others h more put_is taken_is left_is =
    rw more (record {
      puts = put_is ∙ frames_on sending put_before put a.events e h.puts;
      takes = taken_is ∙ frames_on receipt taken_before taken a.events e h.takes;
      draws = h.draws ∙ ap (λ xs. drawn a.events ++ xs) left_is ∙ draws_more (drawn a.events) (drawing e) others
          ∙ ap (λ xs. xs ++ others) (sym (filter_map-append drawing a.events (e ∷ [])));
    })
