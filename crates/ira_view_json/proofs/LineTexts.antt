-- Lines that are put together one after another.
use Rattle.std.proofs.Common.{◌≡◌, ◌∙◌, ◌++◌, ℕ, List, [], ◌∷◌, Err, IfOk, Ok, Result, ap, append-nil, append_assoc}
use Rattle.std.proofs.Common.{option_and_then, refl, subst, sym}
use Rattle.std.specs.List.{AllZip, concat}
use Rattle.std.specs.Prelude.{codes}
use Rattle.json.specs.Json.{Json, if_last, max_depth, value as value_within}
use Rattle.json.specs.Lex.{tokens}
use Rattle.json.specs.Print.{print}
use Rattle.json.specs.Token.{Token}
use Rattle.json.specs.Tree.{json_tokens}
use Rattle.json.proofs.Printed.Trees.{value-json_tokens}
use Rattle.ira_view_json.specs.Line.{AreLinesOf, IsLineOf}

-- with the lines of what is left, the text is the lines of all
abbrev pub Begins : List Json → List Json → List ℕ → Type 0
Begins all left text = (rest : List ℕ) → AreLinesOf left rest → AreLinesOf all (text ++ rest)

pub no_lines : AreLinesOf [] []
no_lines = record { lines = []; each = tt; whole = refl }

-- a line in front
pub line_before : (value : Json) (values : List Json) (line rest : List ℕ) → IsLineOf value line
    → AreLinesOf values rest → AreLinesOf (value ∷ values) (line ++ rest)
line_before value values line rest is more = record {
  lines = line ∷ more.lines;
  each = (is, more.each);
  whole = ap (λ t. line ++ t) more.whole;
}

-- the lines of some values, and then those of others
append_lines : (values more : List Json) (lines : List (List ℕ)) (rest : List ℕ) → AllZip IsLineOf values lines
    → AreLinesOf more rest → AreLinesOf (values ++ more) (concat lines ++ rest)
append_lines [] more [] rest each is = is
append_lines [] more (line ∷ lines) rest each is = absurd each
append_lines (value ∷ values) more [] rest each is = absurd each
append_lines (value ∷ values) more (line ∷ lines) rest each is =
    let added = append_lines values more lines rest each.1 is in
    subst (AreLinesOf (value ∷ (values ++ more))) (sym (append_assoc line (concat lines) rest))
    (line_before value (values ++ more) line (concat lines ++ rest) each.0 added)

pub lines_append : (values more : List Json) (text rest : List ℕ) → AreLinesOf values text → AreLinesOf more rest
    → AreLinesOf (values ++ more) (text ++ rest)
lines_append values more text rest are is =
    subst (λ t. AreLinesOf (values ++ more) (t ++ rest)) (sym are.whole)
    (append_lines values more are.lines rest are.each is)

-- one line is the lines of one value
pub one_line : (value : Json) (line : List ℕ) → IsLineOf value line → AreLinesOf (value ∷ []) line
one_line value line is = subst (AreLinesOf (value ∷ [])) (append-nil line) (line_before value [] line [] is no_lines)

-- what gives the line of a value gives the lines of it alone
pub one_line_of : {T E : Type 0} (r : Result T E) (bytes : T → List ℕ) (value : Json)
    → IfOk r (λ t. IsLineOf value (bytes t)) → IfOk r (λ t. AreLinesOf (value ∷ []) (bytes t))
one_line_of (Ok t) bytes value is = one_line value (bytes t) is
one_line_of (Err e) bytes value is = is

-- the text with one line more
pub begins_more : (all left more : List Json) (value : Json) (text line : List ℕ) → left ≡ value ∷ more
    → IsLineOf value line → Begins all left text → Begins all more (text ++ line)
begins_more all left more value text line parts is begins rest lines =
    let added = line_before value more line rest is lines in
    subst (AreLinesOf all) (sym (append_assoc text line rest))
    (begins (line ++ rest) (subst (λ values. AreLinesOf values (line ++ rest)) (sym parts) added))

-- nothing is left
pub begins_all : (all left : List Json) (text : List ℕ) → left ≡ [] → Begins all left text → AreLinesOf all text
begins_all all left text none begins =
    let whole = begins [] (subst (λ values. AreLinesOf values []) (sym none) no_lines) in
    subst (AreLinesOf all) (append-nil text) whole

-- what was written of a value, and a line feed, is its line
pub written_line : (value : Json) (ts : List Token) (text : List ℕ) → ts ≡ json_tokens value
    → tokens (print ts) ≡ ts → text ≡ print ts ++ codes "\n" → IsLineOf value text
written_line value ts text are reads is = record {
  line = print ts;
  ends = is;
  reads = λ shallow.
      ap (option_and_then (λ p. if_last p.0 p.1))
      (ap (value_within max_depth) (reads ∙ are ∙ sym (append-nil (json_tokens value)))
      ∙ value-json_tokens value max_depth [] shallow);
  compact = ap print are;
}
