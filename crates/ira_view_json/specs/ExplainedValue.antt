-- What an answer is as JSON, with its reason and what it rests on: what is wrong, in words without numbers; the numbers
-- by what they count; evidence, and usual causes.
use Rattle.std.specs.Prelude.{ℕ, List, [], Option, Some, None, String, codes, map, string_bytes}
use Rattle.json.specs.Json.{Json, Members, array, no_members, null, object, string}
use Rattle.json.specs.Value.{items_of}
use Rattle.ira_event.specs.FaultWords.{FaultWords}
use Rattle.ira_event.specs.HeadFault.{head_fault_words}
use Rattle.ira_event.specs.LogFault.{log_fault_words}
use Rattle.ira_node.specs.declared.step_fault.StepFault.{StepFault}
use Rattle.ira_node.specs.StepFault.{step_fault_words}
use Rattle.ira_order.specs.declared.match_fault.MatchFault.{MatchFault}
use Rattle.ira_order.specs.declared.match_fault.MatchFault.TheVariants.{NoSending, Differs}
use Rattle.ira_order.specs.MatchWords.{match_fault_words}
use Rattle.ira_pred.specs.AskFault.{ask_fault_words}
use Rattle.ira_cert_text.specs.CertFault.{cert_fault_words}
use Rattle.ira_cert.specs.declared.section_fault.SectionFault.{SectionFault}
use Rattle.ira_cert.specs.declared.section_fault.SectionFault.TheVariants.{Step, NotSpent}
use Rattle.ira_cert.specs.Unsound.{unsound_words}
use Rattle.ira_audit.specs.declared.answer.Answer.{Answer}
use Rattle.ira_audit.specs.declared.answer.Answer.TheVariants.{Yes, No}
use Rattle.ira_audit.specs.declared.reason.Reason.{Reason}
use Rattle.ira_audit.specs.declared.reason.Reason.TheVariants.{Log, Heads, Match, Circle, Replay, Question}
use Rattle.ira_audit.specs.declared.reason.Reason.TheVariants.{QuestionSize, Certificate, CertificateSize, Sections}
use Rattle.ira_audit.specs.declared.reason.Reason.TheVariants.{Section}
use Rattle.ira_node.specs.declared.node_state.NodeState.{NodeState}
use Rattle.ira_view_page.specs.declared.evidence.Evidence.{Evidence}
use Rattle.ira_view_page.specs.declared.explanation.Explanation.{Explanation}
use Rattle.ira_view_page.specs.declared.ring_counts.RingCounts.{RingCounts}
use Rattle.ira_view_election.specs.Election.{Standing}
use Rattle.ira_view_json.specs.AnswerValue.{answer_members}
use Rattle.ira_view_json.specs.ElectionValue.{with_election}
use Rattle.ira_view_json.specs.EvidenceValue.{evidence_value}
use Rattle.ira_view_json.specs.Members.{put, with_number, with_words}
use Rattle.ira_view_json.specs.StateValue.{with_state}

-- of which kind the reason is, and what is wrong
abbrev pub with_fault : List ℕ → List ℕ → Members → Members
with_fault reason fault members = with_words (codes "fault") fault (with_words (codes "reason") reason members)

-- the same, with a number
abbrev pub with_numbered : List ℕ → List ℕ → List ℕ → ℕ → Members → Members
with_numbered reason fault key n members = with_number key n (with_fault reason fault members)

-- of which kind the reason is, and what is said of a fault; its number, if it has one, by this key
abbrev pub with_counted : List ℕ → List ℕ → List ℕ → Option ℕ → Members → Members
with_counted reason key fault None members = with_fault reason fault members
with_counted reason key fault (Some n) members = with_numbered reason fault key n members

abbrev pub with_said : List ℕ → List ℕ → FaultWords → Members → Members
with_said reason key said members = with_counted reason key said.words said.number members

-- what is wrong with a receipt, and on which link
abbrev pub with_receipt : ℕ → ℕ → List ℕ → Members → Members
with_receipt link k fault members =
    with_numbered (codes "link") fault (codes "receipt") k (with_number (codes "link") link members)

abbrev pub with_match_fault : MatchFault → Members → Members
with_match_fault (NoSending link k) members = with_receipt link k (match_fault_words (NoSending link k)) members
with_match_fault (Differs link k) members = with_receipt link k (match_fault_words (Differs link k)) members

-- why an event of a node has no step
abbrev pub with_step_fault : ℕ → ℕ → StepFault → Members → Members
with_step_fault place position fault members =
    with_numbered (codes "node") (step_fault_words fault) (codes "event") position
    (with_number (codes "node") place members)

-- why a section isn't sound
abbrev pub with_section_fault : SectionFault → Members → Members
with_section_fault (Step k why) members = with_numbered (codes "case") (unsound_words why) (codes "step") k members
with_section_fault (NotSpent node) members =
    with_numbered (codes "case") (codes "not spent") (codes "node") node members

-- that there are so many sections, and how many are wanted
abbrev pub with_sections : ℕ → ℕ → Members → Members
with_sections wanted found members =
    with_words (codes "reason") (codes "sections")
    (with_number (codes "found") found (with_number (codes "wanted") wanted members))

-- the reason
abbrev pub with_reason : Reason → Members → Members
with_reason (Log number fault) members =
    with_said (codes "log") (codes "line") (log_fault_words fault) (with_number (codes "log") number members)
with_reason (Heads fault) members = with_said (codes "heads") (codes "log") (head_fault_words fault) members
with_reason (Match fault) members = with_match_fault fault members
with_reason Circle members = with_fault (codes "circle") (codes "circle") members
with_reason (Replay place position fault) members = with_step_fault place position fault members
with_reason (Question fault) members = with_said (codes "question") (codes "line") (ask_fault_words fault) members
with_reason QuestionSize members = with_fault (codes "question") (codes "other ring size") members
with_reason (Certificate fault) members =
    with_said (codes "certificate") (codes "line") (cert_fault_words fault) members
with_reason CertificateSize members = with_fault (codes "certificate") (codes "other ring size") members
with_reason (Sections wanted found) members = with_sections wanted found members
with_reason (Section case fault) members = with_section_fault fault (with_number (codes "case") case members)

-- the reason of an answer, which a yes has not
abbrev pub with_reason_of : Answer → Members → Members
with_reason_of Yes members = put (codes "reason") null members
with_reason_of (No reason) members = with_reason reason members

-- how many nodes the ring has, and how many events its logs, where the texts are those of a ring's logs
abbrev pub with_ring : Option RingCounts → Members → Members
with_ring None members = members
with_ring (Some ring) members =
    with_number (codes "events") ring.events (with_number (codes "nodes") ring.nodes members)

-- the state in which the event that is named has no step, where one is
abbrev pub with_state_before : Option NodeState → Members → Members
with_state_before None members = members
with_state_before (Some state) members = put (codes "state_before") (object (with_state state no_members)) members

-- the evidence, where there is some
abbrev pub with_evidence : {A : Type 0} → List (Evidence A) → Members → Members
with_evidence [] members = members
with_evidence evidence members = put (codes "evidence") (array (items_of (map evidence_value evidence))) members

-- usual causes, each as words
abbrev pub hint_value : {A : Type 0} → String A → Json
hint_value hint = string (string_bytes hint)

abbrev pub with_hints : {A : Type 0} → List (String A) → Members → Members
with_hints hints members = put (codes "hints") (array (items_of (map hint_value hints))) members

-- what an answer rests on
abbrev pub with_explanation : {A : Type 0} → Explanation A → Members → Members
with_explanation explanation members =
    with_hints explanation.hints.items
    (with_evidence explanation.evidence.items
    (with_state_before explanation.state_before
    (with_ring explanation.ring members)))

-- an answer with its reason, what it rests on and its status, and how the election stands, where that is known
abbrev pub explained_value : {A : Type 0} → ℕ → Answer → Explanation A → Option Standing → Json
explained_value status answer explanation standing =
    object (with_election standing
    (with_explanation explanation (with_reason_of answer (answer_members status answer))))
