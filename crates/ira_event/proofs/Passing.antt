-- Events that are passed on the way to a load.
use Rattle.std.proofs.Common.{◌≡◌, List, [], ◌∷◌, ◌++◌, sym, ◌∙◌, ap, Option, None, append_assoc}
use Rattle.std.proofs.lemmas.List.Elements.{filter_map-append}
use Rattle.ira_event.specs.declared.load.Load.{Load}
use Rattle.ira_event.specs.declared.event.Event.{Event}
use Rattle.ira_event.specs.Messages.{PassesNo}

-- one event more is passed
pub passes_one : (load : Event → Option Load) (events left left' : List Event) (e : Event) → PassesNo load events left
    → left ≡ e ∷ left' → load e ≡ None → PassesNo load events left'
passes_one load events left left' e p first none = (
  p.0 ++ e ∷ [],
  p.1 ∙ ap (λ (x : List Event). p.0 ++ x) first ∙ sym (append_assoc p.0 (e ∷ []) left'),
  filter_map-append load p.0 (e ∷ []) ∙ simp (none, p.2),
)
