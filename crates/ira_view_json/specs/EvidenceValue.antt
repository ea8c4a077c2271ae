-- What the evidence of an answer is as JSON: objects, each with a role.
use Rattle.std.specs.Prelude.{ℕ, ◌+◌, Bool, List, Option, Some, None, codes, string_bytes}
use Rattle.json.specs.Json.{Json, Members, boolean, member, no_members, object, string}
use Rattle.ira_cert_text.specs.declared.cert_step.CertStep.{CertStep}
use Rattle.ira_node.specs.declared.node_state.NodeState.{NodeState}
use Rattle.ira_node.specs.declared.step_fault.StepFault.{StepFault}
use Rattle.ira_node.specs.StepFault.{step_fault_words}
use Rattle.ira_view_page.specs.Words.{event_text}
use Rattle.ira_view_page.specs.declared.evidence.Evidence.{Evidence}
use Rattle.ira_view_page.specs.declared.evidence.Evidence.TheVariants.{Text, Line, Head, Sent, Received, Faulty}
use Rattle.ira_view_page.specs.declared.evidence.Evidence.TheVariants.{OtherFaulty}
use Rattle.ira_view_page.specs.declared.evidence.Evidence.TheVariants.{Step, Spent, Front as FrontOf}
use Rattle.ira_view_page.specs.declared.front.Front.{Front}
use Rattle.ira_view_page.specs.declared.head_row.HeadRow.{HeadRow}
use Rattle.ira_view_page.specs.declared.quoted_line.Carets.{Carets}
use Rattle.ira_view_page.specs.declared.quoted_line.QuotedLine.{QuotedLine}
use Rattle.ira_view_page.specs.declared.record_at.RecordAt.{RecordAt}
use Rattle.ira_view_page.specs.declared.remark.Remark.{Remark}
use Rattle.ira_view_page.specs.declared.remark.Remark.TheVariants.{Due, Note}
use Rattle.ira_view_json.specs.Members.{put, with_number, with_words}
use Rattle.ira_view_json.specs.StateValue.{with_state}

-- an event: its node and its number, and its record, which stands four lines further on in its file
abbrev pub with_record : {A : Type 0} → RecordAt A → Members → Members
with_record at members =
    with_words (codes "record") (event_text at.event)
    (with_number (codes "line") (at.at.position + 4)
    (with_words (codes "file") (string_bytes at.file)
    (with_number (codes "event") at.at.position
    (with_number (codes "node") at.at.place members))))

-- what stands beside carets is what is due there, or a note
abbrev pub remark_key : Remark → List ℕ
remark_key Due = codes "due"
remark_key Note = codes "note"

abbrev pub with_carets : {A : Type 0} → Option (Carets A) → Members → Members
with_carets None members = members
with_carets (Some carets) members =
    with_words (remark_key carets.remark) (string_bytes carets.words)
    (with_number (codes "byte") carets.byte members)

-- a line of a file, as a page shows it
abbrev pub with_line : {A : Type 0} → QuotedLine A → Members → Members
with_line line members =
    with_carets line.carets
    (with_words (codes "text") (string_bytes line.text)
    (with_number (codes "line") line.number
    (with_words (codes "file") (string_bytes line.file) members)))

-- what the head of a log says
abbrev pub with_head : {A : Type 0} → HeadRow A → Members → Members
with_head row members =
    with_number (codes "version") row.version
    (with_number (codes "place") row.place
    (with_number (codes "nodes") row.nodes
    (with_words (codes "file") (string_bytes row.file)
    (with_number (codes "log") row.log members))))

-- another node's event, why it has no step, and whether it came first
abbrev pub with_other : {A : Type 0} → RecordAt A → StepFault → Bool → Members → Members
with_other at fault happened_before members =
    put (codes "happened_before") (boolean happened_before)
    (with_words (codes "fault") (step_fault_words fault) (with_record at members))

-- a line of a certificate, and the node that it is about
abbrev pub with_place : List ℕ → ℕ → ℕ → Members → Members
with_place file line node members =
    with_number (codes "node") node (with_number (codes "line") line (with_words (codes "file") file members))

-- which state a step rules out, and by which
abbrev pub with_step : CertStep → Members → Members
with_step step members =
    with_number (codes "other_pos") step.other_pos
    (with_number (codes "other") step.other
    (with_number (codes "pos") step.pos members))

-- a number of events, and the state after them
abbrev pub with_first : Option (ℕ × NodeState) → Members → Members
with_first None members = members
with_first (Some first) members = with_state first.1 (with_number (codes "pos") first.0 members)

-- what is left of a node's candidates
abbrev pub with_front : Front → Members → Members
with_front front members =
    with_first front.first
    (with_number (codes "left") front.left
    (with_number (codes "node") front.node members))

-- what kind of thing it is that an answer rests on
abbrev pub role_of : {A : Type 0} → Evidence A → List ℕ
role_of (Text file) = codes "line"
role_of (Line line) = codes "line"
role_of (Head row) = codes "head"
role_of (Sent at) = codes "sent"
role_of (Received at) = codes "received"
role_of (Faulty at) = codes "event"
role_of (OtherFaulty at fault happened_before) = codes "other"
role_of (Step file line step) = codes "step"
role_of (Spent file line node) = codes "spent"
role_of (FrontOf front) = codes "front"

-- what is told of it
abbrev pub with_told : {A : Type 0} → Evidence A → Members → Members
with_told (Text file) members = with_words (codes "file") (string_bytes file) members
with_told (Line line) members = with_line line members
with_told (Head row) members = with_head row members
with_told (Sent at) members = with_record at members
with_told (Received at) members = with_record at members
with_told (Faulty at) members = with_record at members
with_told (OtherFaulty at fault happened_before) members = with_other at fault happened_before members
with_told (Step file line step) members = with_step step (with_place (string_bytes file) line step.node members)
with_told (Spent file line node) members = with_place (string_bytes file) line node members
with_told (FrontOf front) members = with_front front members

-- one thing that an answer rests on
abbrev pub evidence_value : {A : Type 0} → Evidence A → Json
evidence_value evidence =
    object (with_told evidence (member (codes "role") (string (role_of evidence)) no_members))
