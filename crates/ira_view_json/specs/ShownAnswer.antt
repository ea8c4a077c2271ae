-- What is written of good logs: an answer, and lines after it.
use Rattle.std.specs.Prelude.{◌≡◌, ◌⊎◌, ℕ, Bool, true, false, List, [], ◌∷◌, Option, Some, None, Result, Ok, Err, ⊤}
use Rattle.std.specs.Prelude.{◌==◌, codes, length, not}
use Rattle.json.specs.Json.{Json, Members, no_members, null, object}
use Rattle.ira_event.specs.Log.{Log}
use Rattle.ira_event.specs.Sink.{SinkState, StopsIn, Takes}
use Rattle.ira_view_page.specs.declared.show_fault.ShowFault.{ShowFault}
use Rattle.ira_view_page.specs.declared.show_fault.ShowFault.TheVariants.{OutOfMemory, WrongColumns, Write}
use Rattle.ira_view_moment.specs.Moment.{IsMoment, LeadsAt, Moment, whole_cut}
use Rattle.ira_view_moment.specs.Those.{AreThosePlaces}
use Rattle.ira_view_moment.specs.Told.{Told, at_cut, at_end, of_case, unmet}
use Rattle.ira_view_moment.specs.Totals.{totals_of}
use Rattle.ira_view_json.specs.ElectionValue.{with_over}
use Rattle.ira_view_json.specs.EventValue.{AreEventValues}
use Rattle.ira_view_json.specs.Line.{AreLinesOf}
use Rattle.ira_view_json.specs.Members.{naturals, put, with_number, with_words}

-- members, and what all events come to, at whose end these nodes lead, and whether the election is over then, which it is
-- where one does
abbrev pub with_totals : Moment → List ℕ → Members → Members
with_totals end leaders members =
    with_over (not (length leaders == 0))
    (put (codes "leaders") (naturals leaders)
    (with_number (codes "received") (totals_of end).received
    (with_number (codes "sent") (totals_of end).sent
    (with_number (codes "events") (totals_of end).events members))))

-- members, and the places that are to lead, where some are named
abbrev pub with_named : Option (List ℕ) → Members → Members
with_named (Some places) members = put (codes "named") (naturals places) members
with_named None members = members

-- members, and how many events each node has made; null where there is no such moment
abbrev pub with_cut : Option (List ℕ) → Members → Members
with_cut (Some cut) members = put (codes "cut") (naturals cut) members
with_cut None members = put (codes "cut") null members

-- members, and which moment is told: its cut, of the first of a case its number too; nothing of the end of the logs
abbrev pub with_moment : Told → Option (List ℕ) → Members → Members
with_moment at_end cut members = members
with_moment (at_cut events) cut members = with_cut cut members
with_moment (of_case number case) cut members = with_cut cut (with_number (codes "case") number members)
with_moment (unmet number) cut members = with_cut cut members

-- the value is an object that says yes of logs, with this status: what their events come to, who leads when they end,
-- who is to lead, and which moment is told; the version is that of what members mean
pub record IsYes (logs : List Log) (named : Option (List ℕ)) (status : ℕ) (told : Told) (cut : Option (List ℕ))
    (value : Json) : Type 0 where
  pub end : Moment
  pub is_end : IsMoment logs (whole_cut logs) end
  pub leaders : List ℕ
  pub are_leaders : AreThosePlaces (LeadsAt end) leaders
  pub is : value
      ≡ object (with_words (codes "answer") (codes "yes") (with_number (codes "status") status (with_moment told cut
      (with_named named (with_totals end leaders (with_number (codes "nodes") (length logs)
      (with_number (codes "version") 1 (with_words (codes "type") (codes "answer") no_members))))))))

-- what is told after it: all events, where these are asked for; of the ring at the moment nothing is said here; nothing
-- where there is no moment
abbrev pub AreTold : Bool → List Log → Option (List ℕ) → List Json → Type 0
AreTold has_events logs None values = values ≡ []
AreTold true logs (Some cut) values = AreEventValues logs cut values
AreTold false logs (Some cut) values = ⊤

-- any values
abbrev pub AreAny : List Json → Type 0
AreAny values = ⊤

-- the text is that line of a yes, and then lines of such values
pub record IsRingText (logs : List Log) (named : Option (List ℕ)) (status : ℕ) (told : Told) (cut : Option (List ℕ))
    (Are : List Json → Type 0) (text : List ℕ) : Type 0 where
  pub first : Json
  pub rest : List Json
  pub answer : IsYes logs named status told cut first
  pub are : Are rest
  pub lines : AreLinesOf (first ∷ rest) text

-- this holds of some such text
abbrev pub OfRingText : List Log → Option (List ℕ) → ℕ → Told → Option (List ℕ) → (List Json → Type 0)
    → (List ℕ → Type 0) → Type 0
OfRingText logs named status told cut Are P = (text : List ℕ) × IsRingText logs named status told cut Are text × P text

-- the sink took such a text; where memory ran out, and not before its first line, or columns are wrong, that line and any
-- others; where the sink failed, a first part of them
abbrev pub WroteRing : {T : Type 0} → List Log → Option (List ℕ) → ℕ → Told → Option (List ℕ) → (List Json → Type 0)
    → Result T ShowFault → SinkState → SinkState → Type 0
WroteRing logs named status told cut Are (Ok v) old new =
    OfRingText logs named status told cut Are (λ text. Takes text old new)
WroteRing logs named status told cut Are (Err OutOfMemory) old new =
    (new ≡ old) ⊎ OfRingText logs named status told cut AreAny (λ text. Takes text old new)
WroteRing logs named status told cut Are (Err WrongColumns) old new =
    OfRingText logs named status told cut AreAny (λ text. Takes text old new)
WroteRing logs named status told cut Are (Err Write) old new =
    OfRingText logs named status told cut AreAny (λ text. StopsIn text old new)
