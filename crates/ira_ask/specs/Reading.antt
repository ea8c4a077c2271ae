-- Helpers, no definitions: how a sentence is read part by part, as the reader's contracts say.
use Rattle.std.specs.Prelude.{◌≡◌, ◌≢◌, ℕ, ◌≤◌, ◌⊎◌, ⊤, false, List, [], ◌++◌, ◌==◌, length, codes, Option, Some, None}
use Rattle.std.specs.Prelude.{Result, Ok, Err}
use Rattle.std.specs.Borrow.{Bor}
use Rattle.std.specs.List.{list_any}
use Rattle.std.specs.Option.{option_map}
use Rattle.ira_event.specs.Scan.{◌>>=◌, after_word, kept_at}
use Rattle.ira_pred.specs.Formula.{Formula}
use Rattle.ira_pred.specs.QuestionText.{clause_text}
use Rattle.ira_ask.specs.declared.sentence.Sentence.{Sentence as Spelled}
use Rattle.ira_ask.specs.declared.sentence_fault.SentenceFault.{SentenceFault}
use Rattle.ira_ask.specs.declared.sentence_fault.SentenceFault.TheVariants.{NoClause, TooDeep, OutOfMemory}
use Rattle.ira_ask.specs.declared.sentence_part.SentencePart.{SentencePart}
use Rattle.ira_ask.specs.declared.sentence_part.SentencePart.TheVariants.{All}
use Rattle.ira_ask.specs.declared.picks.Picks.{Picks}
use Rattle.ira_ask.specs.Asked.{together}
use Rattle.ira_ask.specs.Choices.{PicksOf}
use Rattle.ira_ask.specs.Sentence.{Parts}
use Rattle.ira_ask.specs.SentenceText.{ArePartsOfSentence, BeginsWith, HasWord, IsClause, IsTextOfParts, MayBeClause}
use Rattle.ira_ask.specs.SentenceText.{MayFollow, StopsAt, part_text, sentence_text, word_of}

-- the place in front, with the space after it, and what follows them
abbrev pub place_at : List ℕ → Option (ℕ × List ℕ)
place_at text = kept_at text >>= (λ n. option_map (λ r. (n.0, r)) (after_word (codes " ") n.1))

-- the text is that of a clause
abbrev pub IsClauseText : List ℕ → Type 0
IsClauseText text = (f : Formula) × IsClause f × (text ≡ clause_text f)

-- the text, if there is one, is that of the formula, if there is one
abbrev pub Spells : Option (List ℕ) → Option Formula → Type 0
Spells None None = ⊤
Spells (Some text) (Some f) = IsClause f × (text ≡ clause_text f)
Spells text f = ⊥

-- what is left, with a comma and a space after it; nothing where no part is due
abbrev pub left_text : Option (List ℕ) → List ℕ
left_text None = []
left_text (Some text) = text ++ codes ", "

-- it isn't too long
abbrev pub fits : Option (List ℕ) → Type 0
fits None = ⊤
fits (Some text) = length text ≤ 65536

abbrev pub HasNoComma : List ℕ → Type 0
HasNoComma text = list_any (λ c. c == 44) text ≡ false

-- what stands in front of the first comma and the space after it, and what is left
abbrev pub SplitsPart : List ℕ → List ℕ → Option (List ℕ) → Type 0
SplitsPart text clause left = HasNoComma clause × (text ++ codes ", " ≡ clause ++ codes ", " ++ left_text left)

-- there is no such part
abbrev pub HasNoPart : List ℕ → Type 0
HasNoPart text = (clause more : List ℕ) → HasNoComma clause → text ++ codes ", " ≢ clause ++ codes ", " ++ more

-- the word of this part comes next
abbrev pub Comes : SentencePart → Option (List ℕ) → Type 0
Comes part None = ⊥
Comes part (Some left) = HasWord part left

-- it does, and yet no such part
abbrev pub LacksClause : SentencePart → Option (List ℕ) → Type 0
LacksClause part left = Comes part left × ¬ (BeginsWith (word_of part) (left_text left))

-- the part is taken, or its word doesn't come next and nothing is
abbrev pub TakesPart : SentencePart → Option (List ℕ) → Option (List ℕ) → Option (List ℕ) → Type 0
TakesPart part old new None = (new ≡ old) × ¬ (Comes part old)
TakesPart part old new (Some clause) =
    (f : Formula) × IsClause f × (clause ≡ clause_text f) × (left_text old ≡ part_text (word_of part) f ++ left_text new)
    × fits (Some clause) × fits new

abbrev pub texts : Option (Bor (List ℕ)) → Option (List ℕ)
texts text = option_map (λ t. t.now) text

-- so it is, or no clause follows its word, or memory ran out
abbrev pub Takes : SentencePart → Option (List ℕ) → Option (List ℕ) → Result (Option (Bor (List ℕ))) SentenceFault
    → Type 0
Takes part old new (Ok clause) = TakesPart part old new (texts clause)
Takes part old new (Err f) = (f ≡ OutOfMemory) ⊎ ((f ≡ NoClause part) × LacksClause part old)

-- no clause is too long
pub record AreShort (spelled : Spelled) : Type 0 where
  pub any : fits (texts spelled.any)
  pub other : fits (texts spelled.other)
  pub each_other : fits (texts spelled.each_other)
  pub all : fits (texts spelled.all)

-- the text begins with these parts, what is left follows them, and of what may follow only a part with `all` may
pub record HasRead (text : List ℕ) (left any other each_other : Option (List ℕ)) : Type 0 where
  pub sentence : Parts
  pub any_is : Spells any sentence.any
  pub other_is : Spells other sentence.other
  pub each_other_is : Spells each_other sentence.each_other
  pub all_is : sentence.all ≡ None
  pub parts : ArePartsOfSentence sentence
  pub text_is : text ++ codes ", " ≡ sentence_text sentence ++ left_text left
  pub short : fits left
  pub any_fits : fits any
  pub other_fits : fits other
  pub each_other_fits : fits each_other
  pub last : (part : SentencePart) → MayFollow sentence part → Comes part left → part ≡ All

-- these are the clauses of the sentence
pub record AreSpelled (spelled : Spelled) (s : Parts) : Type 0 where
  pub any : Spells (texts spelled.any) s.any
  pub other : Spells (texts spelled.other) s.other
  pub each_other : Spells (texts spelled.each_other) s.each_other
  pub all : Spells (texts spelled.all) s.all

-- so many nodes are picked by these clauses
abbrev pub Picked : Spelled → Picks → Type 0
Picked spelled picks = (s : Parts) → AreSpelled spelled s → ArePartsOfSentence s → PicksOf s.any s.other picks

-- the text was read, or where it stops, or memory ran out
abbrev pub Reads : List ℕ → Result Spelled SentenceFault → Type 0
Reads text (Ok spelled) = (s : Parts) × IsTextOfParts text s × AreSpelled spelled s × AreShort spelled
Reads text (Err f) = (f ≡ OutOfMemory) ⊎ StopsAt text f

-- the clause of both was made, where there is something to ask, or why not
abbrev pub Joins : {X : Type 0} → (X → Option (List ℕ)) → Option (List ℕ) → Option (List ℕ)
    → Result X SentenceFault → Type 0
Joins texts_of own all (Ok x) = (f g : Option Formula) → Spells own f → Spells all g → Spells (texts_of x)
    (together f g)
Joins texts_of own all (Err e) =
    (e ≡ OutOfMemory)
    ⊎ ((e ≡ TooDeep) × ((f g : Option Formula) → Spells own f → Spells all g → ¬ (MayBeClause (together f g))))

-- the same of two clauses
abbrev pub JoinsBoth : {X : Type 0} → (X → Option (List ℕ)) → List ℕ → List ℕ → Result X SentenceFault → Type 0
JoinsBoth texts_of own all (Ok x) =
    (texts_of x ≡ Some (codes "(" ++ own ++ codes " and " ++ all ++ codes ")"))
    × IsClauseText (codes "(" ++ own ++ codes " and " ++ all ++ codes ")")
JoinsBoth texts_of own all (Err e) =
    (e ≡ OutOfMemory) ⊎ ((e ≡ TooDeep) × ¬ (IsClauseText (codes "(" ++ own ++ codes " and " ++ all ++ codes ")")))
