-- The records of a log are lines of its text, from the fifth on.
use Rattle.std.proofs.Common.{◌≡◌, ℕ, zero, suc, ◌+◌, Bool, true, false, List, [], ◌∷◌, ◌++◌, Some, refl, sym, ap}
use Rattle.std.proofs.Common.{subst, ◌∙◌, arith, inr, append_assoc, slice_get}
use Rattle.std.specs.Prelude.{codes}
use Rattle.ira_event.specs.declared.event.Event.{Event}
use Rattle.ira_event.specs.declared.log_head.LogHead.{LogHead}
use Rattle.ira_event.specs.LogText.{IsHead, IsRecord, AreRecords, start_word}
use Rattle.ira_event.specs.NextLine.{HasNoLineFeed}
use Rattle.ira_event.specs.Numeral.{IsNumeral}
use Rattle.ira_event.proofs.Numerals.{Lacks-numeral}
use Rattle.ira_event.proofs.Pieces.{Lacks, Lacks-append}
use Rattle.ira_event.proofs.RecordLines.{record_is_one_line}
use Rattle.ira_view_page.specs.Lines.{IsFromLine, IsLine, first, next_line}
use Rattle.ira_view_page.specs.Places.{IsLineOfEvent}

-- a word and a number are one line
number_line : (word text : List ℕ) (n : ℕ) → Lacks 10 word → IsNumeral text n → HasNoLineFeed (word ++ text)
number_line word text n h is = Lacks-append 10 word text h (Lacks-numeral 10 text n (omega arith) is)

start_line : (initiator : Bool) → HasNoLineFeed (codes "start " ++ start_word initiator)
start_line true = refl
start_line false = refl

line_parts : (word text more : List ℕ) → word ++ text ++ codes "\n" ++ more ≡ word ++ (text ++ (codes "\n" ++ more))
line_parts word text more = simp append_assoc

-- a head is four lines
after_head : (text front rest : List ℕ) (head : LogHead) → IsHead front head → text ≡ front ++ rest
    → IsFromLine text 5 rest
after_head text front rest head is e =
    let version = codes "irlog " ++ is.version_text in
    let nodes = codes "nodes " ++ is.nodes_text in
    let place = codes "place " ++ is.place_text in
    let start = codes "start " ++ start_word head.initiator in
    let after_place = start ++ codes "\n" ++ rest in
    let after_nodes = place ++ codes "\n" ++ after_place in
    let after_version = nodes ++ codes "\n" ++ after_nodes in
    let word = start_word head.initiator in
    let parts : text ≡ codes "irlog " ++ (is.version_text ++ (codes "\nnodes " ++ (is.nodes_text ++ (codes "\nplace "
    ++ (is.place_text ++ (codes "\nstart " ++ (word ++ (codes "\n" ++ rest)))))))) =
    e ∙ ap (λ w. w ++ rest) is.parts ∙ simp append_assoc in
    let fourth = line_parts (codes "start ") word rest in
    let third = line_parts (codes "place ") is.place_text after_place
    ∙ ap (λ w. codes "place " ++ (is.place_text ++ (codes "\n" ++ w))) fourth in
    let second = line_parts (codes "nodes ") is.nodes_text after_nodes
    ∙ ap (λ w. codes "nodes " ++ (is.nodes_text ++ (codes "\n" ++ w))) third in
    let lines = line_parts (codes "irlog ") is.version_text after_version
    ∙ ap (λ w. codes "irlog " ++ (is.version_text ++ (codes "\n" ++ w))) second in
    let whole : text ≡ version ++ codes "\n" ++ after_version = parts ∙ sym lines in
    let one : IsFromLine text 1 (version ++ codes "\n" ++ after_version) = subst (IsFromLine text 1) whole first in
    let two = next_line 1 version after_version one
    (number_line (codes "irlog ") is.version_text head.version refl is.version_is) in
    let three = next_line 2 nodes after_nodes two
    (number_line (codes "nodes ") is.nodes_text head.nodes refl is.nodes_is) in
    let four = next_line 3 place after_place three
    (number_line (codes "place ") is.place_text head.place refl is.place_is) in
    next_line 4 start rest four (start_line head.initiator)

-- a record is a line
record_line : (text : List ℕ) (number k : ℕ) (records more : List ℕ) (events : List Event) (event : Event)
    → AreRecords records events → IsFromLine text number (records ++ more) → slice_get events k ≡ Some event
    → (line : List ℕ) × IsLine text (number + k) line × IsRecord line event
record_line text number k records more [] event are from at = absurd cc
record_line text number zero records more (e ∷ es) event (line, rest, parts, spelled, others) from at =
    let after = codes "\n" ++ (rest ++ more) in
    let regrouped : records ++ more ≡ line ++ after = ap (λ w. w ++ more) parts ∙ simp append_assoc in
    let whole = record_is_one_line line e spelled in
    let same : e ≡ event = cc in (
      line,
      record {
        rest = line ++ after;
        from = subst (λ n. IsFromLine text n (line ++ after)) (omega arith)
            (subst (IsFromLine text number) regrouped from);
        is_first = record { more = after; begins = (refl, whole); ends = inr (rest ++ more, refl) };
      },
      subst (IsRecord line) same spelled,
    )
record_line text number (suc k) records more (e ∷ es) event (line, rest, parts, spelled, others) from at =
    let regrouped : records ++ more ≡ line ++ codes "\n" ++ (rest ++ more) =
    ap (λ w. w ++ more) parts ∙ simp append_assoc in
    let whole = record_is_one_line line e spelled in
    let next = next_line number line (rest ++ more) (subst (IsFromLine text number) regrouped from) whole in
    let found = record_line text (number + 1) k rest more es event others next at in
    subst (λ n. (l : List ℕ) × IsLine text n l × IsRecord l event) (omega arith) found

-- an event stands four lines further on than its number says
pub event_line : (position : ℕ) → IsLineOfEvent position (position + 4)
event_line zero text log event is at = absurd cc
event_line (suc k) text log event is at =
    let after : text ≡ is.head ++ (is.records ++ (is.end ++ codes "\n")) = is.parts ∙ simp append_assoc in
    let from = after_head text is.head (is.records ++ (is.end ++ codes "\n")) _ is.head_is after in
    let found = record_line text 5 k is.records (is.end ++ codes "\n") log.events event is.records_are from at in
    subst (λ n. (l : List ℕ) × IsLine text n l × IsRecord l event) (omega arith) found
