-- What a node sends that recorded events of its log's version, that version has, and so with its yields.
use Rattle.std.proofs.Common.{◌≡◌, ℕ, ◌<◌, ◌≤◌, Bool, true, false, not, ◌&&◌, ◌||◌, nat_lt, List, [], ◌∷◌, refl}
use Rattle.std.proofs.Common.{ap, ◌∙◌, subst, arith}
use Rattle.std.specs.Prelude.{nat_le, if◌then◌else◌}
use Rattle.std.specs.List.{list_all}
use Rattle.std.proofs.lemmas.Bool.Decides.{nat_tests}
use Rattle.std.proofs.Math.Bool.{or-true}
use Rattle.ira_event.specs.declared.load.Load.{Load}
use Rattle.ira_event.specs.declared.event.Event.{Event}
use Rattle.ira_event.specs.declared.event.Event.TheVariants.{Sent, Yield}
use Rattle.ira_event.specs.Limits.{MAX_NUMBER, MAX_VERSION_1_NODES}
use Rattle.ira_event.specs.Event.{is_number, is_reset, is_later, is_of_version}
use Rattle.ira_event.proofs.Numerals.{and_parts}
use Rattle.ira_node.specs.declared.node_state.NodeState.{NodeState}
use Rattle.ira_node.specs.NodeState.{first_state, is_phase, is_debt}
use Rattle.ira_node.specs.NodeStep.{HasStep}
use Rattle.ira_node.specs.Plain.{is_plain}
use Rattle.ira_node.proofs.Plain.{owes_no_reset, sends_no_reset}
use Rattle.ira_replay.specs.LocalRun.{LeadsTo}
use Rattle.ira_ring_setup.specs.Terms.{version_of}
use Rattle.ira_ring_threads.specs.Recorder.{Recorder, IsRecorder}

first_plain : (b : Bool) → is_plain (first_state b).owed ≡ true
first_plain true = refl
first_plain false = refl

no_later : (b : Bool) → (not b || false) ≡ true → b ≡ false
no_later true h = absurd cc
no_later false h = refl

-- a node that owed no reset owes none after events of version 1
plain_after : (version n : ℕ) (s : NodeState) (es : List Event) (t : NodeState) → nat_lt 1 version ≡ false
    → list_all (is_of_version version) es ≡ true → is_plain s.owed ≡ true → LeadsTo n s es t → is_plain t.owed ≡ true
plain_after version n s [] t first held plain leads = rw leads plain
plain_after version n s (e ∷ es) t first held plain leads =
    let parts = and_parts (is_of_version version e) (list_all (is_of_version version) es) held in
    let here : (not (is_later e) || false) ≡ true =
    subst (λ (b : Bool). (not (is_later e) || b) ≡ true) first parts.0 in
    plain_after version n leads.0 es t first parts.1 (owes_no_reset n s e leads.0 (no_later (is_later e) here) leads.1)
    leads.2

sends_held : (b : Bool) (n : ℕ) (t : NodeState) (l : Load) → (b ≡ false → is_plain t.owed ≡ true) → HasStep n t (Sent l)
    → (not (is_reset l) || b) ≡ true
sends_held true n t l plain step = or-true (not (is_reset l))
sends_held false n t l plain step = let none : is_reset l ≡ false = sends_no_reset n t l step.0 (plain refl) step.1 in
    rw none refl

pub sending_of_version : (r : Recorder) (l : Load) → IsRecorder r → HasStep r.log.nodes r.state (Sent l)
    → is_of_version r.log.version (Sent l) ≡ true
sending_of_version r l valid step =
    sends_held (nat_lt 1 r.log.version) r.log.nodes r.state l
    (λ first. plain_after r.log.version r.log.nodes (first_state r.log.initiator) r.log.events r.state first
    valid.log.held (first_plain r.log.initiator) valid.leads) step

-- ---- the version for so many terms

some_number : (n : ℕ) → nat_le 1 n ≡ true → 1 ≤ n
some_number n h = grind (arith, nat_tests)

-- the first term is 1
first_term : (r : Recorder) → IsRecorder r → 1 ≤ r.state.term
first_term r valid =
    let term : is_number r.state.term ≡ true =
    (and_parts (is_number r.state.term) (is_phase r.state.phase)
    (and_parts (is_number r.state.term && is_phase r.state.phase) (is_debt r.state.owed) valid.numbers).0).0 in
    some_number r.state.term (and_parts (nat_le 1 r.state.term) (nat_le r.state.term MAX_NUMBER) term).0

more_terms : (term terms : ℕ) → 1 ≤ term → term < terms → nat_lt 1 terms ≡ true
more_terms term terms some low = grind (arith, nat_tests)

-- a node that yields before the last term has a log of version 2
pub yield_of_version : (r : Recorder) (terms : ℕ) → IsRecorder r → r.log.version ≡ version_of r.log.nodes terms
    → r.state.term < terms → is_of_version r.log.version Yield ≡ true
yield_of_version r terms valid version low =
    let two : r.log.version ≡ 2 =
    version ∙ ap (λ (b : Bool). if b || nat_lt MAX_VERSION_1_NODES r.log.nodes then 2 else 1)
    (more_terms r.state.term terms (first_term r valid) low) in
    ap (λ (v : ℕ). is_of_version v Yield) two
