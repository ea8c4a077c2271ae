-- How a sentence is spelled.
use Rattle.std.specs.Prelude.{◌≡◌, ◌≢◌, ℕ, ◌≤◌, ⊤, List, [], ◌++◌, codes, if◌then◌else◌, is_some, Option, Some, None}
use Rattle.ira_event.specs.Numeral.{IsNumeral}
use Rattle.ira_pred.specs.Limits.{MAX_DEPTH}
use Rattle.ira_pred.specs.Formula.{Formula, depth, HasNumbersInRange}
use Rattle.ira_pred.specs.QuestionText.{clause_text}
use Rattle.ira_ask.specs.declared.sentence_fault.SentenceFault.{SentenceFault}
use Rattle.ira_ask.specs.declared.sentence_fault.SentenceFault.TheVariants.{NoClause, NoPart}
use Rattle.ira_ask.specs.declared.sentence_part.SentencePart.{SentencePart}
use Rattle.ira_ask.specs.declared.sentence_part.SentencePart.TheVariants.{Any, Other, EachOther, All}
use Rattle.ira_ask.specs.Sentence.{Parts, Sentence, of_node, of_parts}

-- the most bytes that a sentence has
abbrev pub MAX_SENTENCE : ℕ
MAX_SENTENCE = 65536

-- a clause of a question may say it
abbrev pub IsClause : Formula → Type 0
IsClause f = HasNumbersInRange f × (depth f ≤ MAX_DEPTH)

abbrev pub MayBeClause : Option Formula → Type 0
MayBeClause None = ⊤
MayBeClause (Some f) = IsClause f

-- a part, with a comma and a space after it: its word and its clause
abbrev pub part_text : List ℕ → Formula → List ℕ
part_text word f = word ++ clause_text f ++ codes ", "

-- the part, if there is one
abbrev pub parts_text : List ℕ → Option Formula → List ℕ
parts_text word None = []
parts_text word (Some f) = part_text word f

-- all parts, each with a comma and a space after it
abbrev pub sentence_text : Parts → List ℕ
sentence_text s =
    parts_text (codes "any ") s.any ++ parts_text (codes "other ") s.other
    ++ parts_text (codes "each other ") s.each_other ++ parts_text (codes "all ") s.all

-- these parts may stand together: another node, and each other one, is spoken of where some node is
pub record ArePartsOfSentence (s : Parts) : Type 0 where
  pub others : s.any ≡ None → (s.other ≡ None) × (s.each_other ≡ None)
  pub any_is : MayBeClause s.any
  pub other_is : MayBeClause s.other
  pub each_other_is : MayBeClause s.each_other
  pub all_is : MayBeClause s.all

-- the text of these parts, which has a comma and a space between them
pub record IsTextOfParts (text : List ℕ) (s : Parts) : Type 0 where
  pub parts : ArePartsOfSentence s
  pub spelled : text ++ codes ", " ≡ sentence_text s

-- the text of the sentence: on one node, its word, the place and the clause
abbrev pub IsSentenceText : List ℕ → Sentence → Type 0
IsSentenceText text (of_parts s) = IsTextOfParts text s
IsSentenceText text (of_node p f) =
    (number : List ℕ) × IsNumeral number p × IsClause f
    × (text ≡ codes "node " ++ (number ++ (codes " " ++ clause_text f)))

-- the text begins with the word of a sentence on one node
abbrev pub SpeaksOfNode : List ℕ → Type 0
SpeaksOfNode text = (more : List ℕ) × (text ≡ codes "node " ++ more)

-- the word of a part, and a space
abbrev pub word_of : SentencePart → List ℕ
word_of Any = codes "any "
word_of Other = codes "other "
word_of EachOther = codes "each other "
word_of All = codes "all "

-- this part may follow these
abbrev pub MayFollow : Parts → SentencePart → Type 0
MayFollow s Any = (s.all ≡ None) × (s.any ≡ None)
MayFollow s Other = (s.all ≡ None) × (s.any ≢ None) × (s.other ≡ None) × (s.each_other ≡ None)
MayFollow s EachOther = (s.all ≡ None) × (s.any ≢ None) × (s.each_other ≡ None)
MayFollow s All = s.all ≡ None

-- a text begins with a part of this word
abbrev pub BeginsWith : List ℕ → List ℕ → Type 0
BeginsWith word text = (f : Formula) × (more : List ℕ) × IsClause f × (text ≡ part_text word f ++ more)

-- it begins with the word of this part
abbrev pub HasWord : SentencePart → List ℕ → Type 0
HasWord part text = (more : List ℕ) × (text ≡ word_of part ++ more)

-- the last of these parts, if there is one
abbrev pub last_part : Parts → Option SentencePart
last_part s =
    if is_some s.all then Some All
    else if is_some s.each_other then Some EachOther
    else if is_some s.other then Some Other
    else if is_some s.any then Some Any
    else None

-- after these parts the rest of a text is that of no parts: it begins with the word of a part that may follow, but with no
-- such part; or with no such word
pub data IsStop (before : Parts) (rest : List ℕ) (fault : SentenceFault) : Type 0 where
  no_clause : (part : SentencePart) → MayFollow before part → HasWord part rest
      → ¬ (BeginsWith (word_of part) (rest ++ codes ", ")) → fault ≡ NoClause part → IsStop before rest fault
  no_part : ((part : SentencePart) → MayFollow before part → ¬ (HasWord part rest)) → fault ≡ NoPart (last_part before)
      → IsStop before rest fault

-- the text is that of no parts: it begins with these, maybe with none, and goes on as no parts do
pub record StopsAt (text : List ℕ) (fault : SentenceFault) : Type 0 where
  pub before : Parts
  pub rest : List ℕ
  pub parts : ArePartsOfSentence before
  pub text_is : text ≡ sentence_text before ++ rest
  pub stop : IsStop before rest fault
