-- A recorder with one event more.
use Rattle.std.proofs.Common.{◌≡◌, ℕ, ◌+◌, ◌<◌, List, [], ◌∷◌, ◌++◌, length, true, sym, subst, arith}
use Rattle.std.proofs.lemmas.List.{length-append}
use Rattle.ira_event.specs.declared.event.Event.{Event}
use Rattle.ira_event.specs.declared.event.Event.TheVariants.{Yield}
use Rattle.ira_event.specs.Event.{is_event, is_of_version}
use Rattle.ira_event.specs.Log.{Log}
use Rattle.ira_event.proofs.LogReading.{all_pushed}
use Rattle.ira_node.specs.declared.node_state.NodeState.{NodeState}
use Rattle.ira_node.specs.NodeState.{first_state}
use Rattle.ira_node.specs.NodeStep.{NodeStep}
use Rattle.ira_node.proofs.Ranges.{stays}
use Rattle.ira_replay.proofs.Along.{leads_further}
use Rattle.ira_ring_setup.specs.Terms.{YieldsBelow}
use Rattle.ira_ring_setup.proofs.Yields.{yields_more}
use Rattle.ira_ring_threads.specs.Recorder.{Recorder, IsRecorder}

pub grown : (r : Recorder) (e : Event) (t : NodeState) → IsRecorder r → length r.log.events < r.cap → is_event e ≡ true
    → is_of_version r.log.version e ≡ true → NodeStep r.log.nodes r.state e t
    → IsRecorder (record { log = record r.log { events = r.log.events ++ e ∷ [] }; cap = r.cap; state = t })
grown r e t h low number of_version step =
    let more : length (r.log.events ++ e ∷ []) ≡ length r.log.events + 1 = length-append r.log.events (e ∷ []) in
    record {
      log = record {
        version = h.log.version;
        size = h.log.size;
        fits = h.log.fits;
        place = h.log.place;
        count = omega (arith, more, low, h.most);
        numbers = all_pushed is_event r.log.events e h.log.numbers number;
        held = all_pushed (is_of_version r.log.version) r.log.events e h.log.held of_version;
      };
      most = h.most;
      count = omega (arith, more, low);
      leads = leads_further r.log.nodes _ r.log.events r.state e t h.leads step;
      numbers = stays r.log.nodes r.state e t h.log.size h.numbers number step;
    }

-- no event is no yield
pub none_yields : (terms n : ℕ) (s : NodeState) (es : List Event) → es ≡ [] → YieldsBelow terms n s es
none_yields terms n s es none = subst (λ (x : List Event). YieldsBelow terms n s x) (sym none) tt

-- one event more, which is no yield in the last term
pub yields_on : (terms : ℕ) (r : Recorder) (b : Log) (e : Event) → IsRecorder r
    → YieldsBelow terms r.log.nodes (first_state r.log.initiator) r.log.events → (e ≡ Yield → r.state.term < terms)
    → b ≡ record r.log { events = r.log.events ++ e ∷ [] }
    → YieldsBelow terms b.nodes (first_state b.initiator) b.events
yields_on terms r b e valid below low is =
    let P : Log → Type 0 = λ x. YieldsBelow terms x.nodes (first_state x.initiator) x.events in
    subst P (sym is) (yields_more terms r.log.nodes (first_state r.log.initiator) r.log.events r.state e valid.leads
    below low)
