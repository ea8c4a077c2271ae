-- A line, read by the word that it begins with, or else a yield.
use Rattle.std.proofs.Common.{◌≡◌, ◌∙◌, ℕ, List, Option, Some, None, refl}
use Rattle.std.specs.Option.{option_map}
use Rattle.std.specs.Prelude.{codes}
use Rattle.ira_event.specs.declared.event.Event.TheVariants.{Draw, Sent, Got}
use Rattle.ira_event.specs.declared.log_line.LineWord.{LineWord}
use Rattle.ira_event.specs.declared.log_line.LineWord.TheVariants as word
use Rattle.ira_event.specs.declared.log_line.LogLine.{LogLine}
use Rattle.ira_event.specs.declared.log_line.LogLine.TheVariants.{Record, End}
use Rattle.ira_event.specs.LogScan.{load_at, number_line, word_at, yield_at, line_at}
use Rattle.ira_event.specs.Scan.{after_word, then_or}

-- what stands after the word, to its line's end
abbrev pub line_after : LineWord → List ℕ → Option (LogLine × List ℕ)
line_after word.Draw r = option_map (λ p. (Record (Draw p.0), p.1)) (number_line r)
line_after word.Send r = option_map (λ p. (Record (Sent p.0), p.1)) (load_at r)
line_after word.Recv r = option_map (λ p. (Record (Got p.0), p.1)) (load_at r)
line_after word.End r = option_map (λ p. (End p.0, p.1)) (number_line r)

-- the word, of what stands after each of the four where the text begins with it
abbrev first_word : Option (List ℕ) → Option (List ℕ) → Option (List ℕ) → Option (List ℕ) → Option (LineWord × List ℕ)
first_word d s r e =
    then_or d (λ x. Some (word.Draw, x))
    (then_or s (λ x. Some (word.Send, x))
    (then_or r (λ x. Some (word.Recv, x)) (then_or e (λ x. Some (word.End, x)) None)))

-- the line after its word, or else a yield
abbrev pub line_of : Option (LineWord × List ℕ) → List ℕ → Option (LogLine × List ℕ)
line_of None text = yield_at text
line_of (Some p) text = line_after p.0 p.1

abbrev ByWord : List ℕ → Option (List ℕ) → Option (List ℕ) → Option (List ℕ) → Option (List ℕ) → Type 0
ByWord text d s r e =
    then_or d (line_after word.Draw)
    (then_or s (line_after word.Send)
    (then_or r (line_after word.Recv) (then_or e (line_after word.End) (yield_at text))))
    ≡ line_of (first_word d s r e) text

by_word : (text : List ℕ) (d s r e : Option (List ℕ)) → ByWord text d s r e
by_word text (Some x) s r e = refl
by_word text None (Some x) r e = refl
by_word text None None (Some x) e = refl
by_word text None None None (Some x) = refl
by_word text None None None None = refl

pub line_by_word : (text : List ℕ) → line_at text ≡ line_of (word_at text) text
unfolding line_at
line_by_word text = by_word text (after_word (codes "draw ") text) (after_word (codes "send ") text)
    (after_word (codes "recv ") text) (after_word (codes "end ") text)

pub line-of-word : (text rest : List ℕ) (w : LineWord) → word_at text ≡ Some (w, rest)
    → line_at text ≡ line_after w rest
line-of-word text rest w e = line_by_word text ∙ rw e refl
