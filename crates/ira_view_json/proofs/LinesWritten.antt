-- Lines that are written one after the other.
use Rattle.std.proofs.Common.{◌≡◌, ℕ, List, [], ◌∷◌, ◌++◌, Option, Result, Ok, Err, inl, inr, refl, subst}
use Rattle.std.specs.Prelude.{OnOk}
use Rattle.json.specs.Json.{Json}
use Rattle.ira_event.specs.Log.{Log}
use Rattle.ira_event.specs.Sink.{SinkState, StopsIn, Takes}
use Rattle.ira_event.proofs.Writing.{Appends-nothing, Takes-append, Takes-StopsIn}
use Rattle.ira_view_page.specs.declared.show_fault.ShowFault.{ShowFault}
use Rattle.ira_view_page.specs.declared.show_fault.ShowFault.TheVariants.{OutOfMemory, WrongColumns, Write}
use Rattle.ira_view_json.specs.Line.{AreLines, AreLinesOf, IsLineOf, OfLines, TookLines, WroteLine, WroteLines}
use Rattle.ira_view_moment.specs.declared.chosen_moment.ChosenMoment.{ChosenMoment}
use Rattle.ira_view_moment.specs.declared.chosen_moment.ChosenMoment.TheVariants.{AtEnd, AtCut, OfCase, Unmet}
use Rattle.ira_view_moment.specs.ChosenMoment.{cut_of, numbers_of}
use Rattle.ira_view_moment.specs.Told.{Told, told_of}
use Rattle.ira_view_json.specs.ShownAnswer.{AreAny, IsRingText, IsYes, OfRingText, WroteRing}
use Rattle.ira_view_json.proofs.LineTexts.{lines_append, no_lines, one_line}

pub none_are_lines : AreLines []
none_are_lines = ([], no_lines)

-- a line more
pub add_line : (text line : List ℕ) (value : Json) → AreLines text → IsLineOf value line → AreLines (text ++ line)
add_line text line value are is =
    (are.0 ++ value ∷ [], lines_append are.0 (value ∷ []) text line are.1 (one_line value line is))

-- nothing was taken yet
pub none_taken : (s : SinkState) → OfLines (λ text. Takes text s s)
none_taken s = ([], none_are_lines, record { took = Appends-nothing s.taken; same = refl })

pub none_wrote : {T : Type 0} (r : Result T ShowFault) (s : SinkState) → r ≡ Err OutOfMemory → WroteLines r s s
none_wrote r s is = rw is (none_taken s)

-- further lines were taken
pub more_taken : (s t u : SinkState) → OfLines (λ text. Takes text s t) → OfLines (λ text. Takes text t u)
    → OfLines (λ text. Takes text s u)
more_taken s t u so_far more = (
  so_far.0 ++ more.0,
  (so_far.1.0 ++ more.1.0, lines_append so_far.1.0 more.1.0 so_far.0 more.0 so_far.1.1 more.1.1),
  Takes-append s t u so_far.0 more.0 so_far.2 more.2,
)

-- and where the sink failed a first part of some
pub part_taken : (s t u : SinkState) → OfLines (λ text. Takes text s t) → OfLines (λ text. StopsIn text t u)
    → OfLines (λ text. StopsIn text s u)
part_taken s t u so_far more = (
  so_far.0 ++ more.0,
  (so_far.1.0 ++ more.1.0, lines_append so_far.1.0 more.1.0 so_far.0 more.0 so_far.1.1 more.1.1),
  Takes-StopsIn s t u so_far.0 more.0 so_far.2 more.2,
)

-- after lines, whatever came of the next ones
pub wrote_then : {T : Type 0} (r : Result T ShowFault) (s t u : SinkState) → OfLines (λ text. Takes text s t)
    → WroteLines r t u → WroteLines r s u
wrote_then (Ok v) s t u so_far more = more_taken s t u so_far more
wrote_then (Err OutOfMemory) s t u so_far more = more_taken s t u so_far more
wrote_then (Err WrongColumns) s t u so_far more = more_taken s t u so_far more
wrote_then (Err Write) s t u so_far more = part_taken s t u so_far more

pub failed_then : {T : Type 0} (r : Result T ShowFault) (f : ShowFault) (s t u : SinkState) → r ≡ Err f
    → OfLines (λ text. Takes text s t) → WroteLines {T = T} (Err f) t u → WroteLines r s u
failed_then {T} r f s t u is so_far more = rw is (wrote_then {T = T} (Err f) s t u so_far more)

-- of the end of the logs no numbers are told, so they may be those of all events
pub at_cut_of : {A : Type 0} (logs : List Log) (moment : ChosenMoment A) (named : Option (List ℕ)) (status : ℕ)
    (value : Json) → IsYes logs named status (told_of moment) (numbers_of moment) value
    → IsYes logs named status (told_of moment) (cut_of logs moment) value
at_cut_of logs AtEnd named status value h =
    record { end = h.end; is_end = h.is_end; leaders = h.leaders; are_leaders = h.are_leaders; is = h.is }
at_cut_of logs (AtCut cut) named status value h = h
at_cut_of logs (OfCase question number cut) named status value h = h
at_cut_of logs (Unmet number) named status value h = h

module _ (logs : List Log) (named : Option (List ℕ)) (status : ℕ) (told : Told) (cut : Option (List ℕ)) where
  -- the answer alone
  answer_text : (Are : List Json → Type 0) (value : Json) (line : List ℕ) → Are []
      → IsYes logs named status told cut value
      → IsLineOf value line → IsRingText logs named status told cut Are line
  answer_text Are value line none says is =
      record { first = value; rest = []; answer = says; are = none; lines = one_line value line is }

  pub answered : {T : Type 0} (r : Result T ShowFault) (value : Json) (s t : SinkState)
      → IsYes logs named status told cut value → WroteLine r value s t
      → WroteRing logs named status told cut (λ others. others ≡ []) r s t
  answered (Ok v) value s t says is =
      (is.0, answer_text (λ others. others ≡ []) value is.0 refl says is.1, is.2)
  answered (Err OutOfMemory) value s t says is = inl is
  answered (Err WrongColumns) value s t says is = absurd is
  answered (Err Write) value s t says is = (is.0, answer_text AreAny value is.0 tt says is.1, is.2)

  -- the answer, and lines after it
  ring_text : (Are : List Json → Type 0) (text rest : List ℕ) (values : List Json) → Are values
      → IsRingText logs named status told cut (λ others. others ≡ []) text → AreLinesOf values rest
      → IsRingText logs named status told cut Are (text ++ rest)
  ring_text Are text rest values are is more =
      let lines = subst (λ (others : List Json). AreLinesOf (is.first ∷ others) text) is.are is.lines in
      record {
        first = is.first;
        rest = values;
        answer = is.answer;
        are = are;
        lines = lines_append (is.first ∷ []) values text rest lines more;
      }

  pub ring_then : {T : Type 0} (Are : List Json → Type 0) (r : Result T ShowFault) (s t u : SinkState)
      → OfRingText logs named status told cut (λ others. others ≡ []) (λ text. Takes text s t) → WroteLines r t u
      → OnOk r (TookLines Are t u) → WroteRing logs named status told cut Are r s u
  ring_then Are (Ok v) s t u so_far more all = (
    so_far.0 ++ all.text,
    ring_text Are so_far.0 all.text all.values all.are so_far.1 all.lines,
    Takes-append s t u so_far.0 all.text so_far.2 all.took,
  )
  ring_then Are (Err OutOfMemory) s t u so_far more all =
      inr (
        so_far.0 ++ more.0,
        ring_text AreAny so_far.0 more.0 more.1.0 tt so_far.1 more.1.1,
        Takes-append s t u so_far.0 more.0 so_far.2 more.2,
      )
  ring_then Are (Err WrongColumns) s t u so_far more all = (
    so_far.0 ++ more.0,
    ring_text AreAny so_far.0 more.0 more.1.0 tt so_far.1 more.1.1,
    Takes-append s t u so_far.0 more.0 so_far.2 more.2,
  )
  ring_then Are (Err Write) s t u so_far more all = (
    so_far.0 ++ more.0,
    ring_text AreAny so_far.0 more.0 more.1.0 tt so_far.1 more.1.1,
    Takes-StopsIn s t u so_far.0 more.0 so_far.2 more.2,
  )
