-- The lines of JSON on logs.
use Rattle.std.proofs.Common.{◌≡◌, ◌∙◌, ℕ, ◌+◌, ◌<◌, List, [], ◌∷◌, ◌++◌, Some, ap, get_or, length, subst, sym, take}
use Rattle.std.specs.Prelude.{map, slice_get}
use Rattle.std.specs.List.{zip}
use Rattle.std.specs.Option.{option_map}
use Rattle.std.proofs.lemmas.List.{map-append}
use Rattle.std.proofs.lemmas.Option.{slice_get-get_or, slice_get-map}
use Rattle.ira_event.specs.Log.{Log}
use Rattle.ira_view_json.proofs.LineTexts.{lines_append, one_line}
use Rattle.ira_view_json.specs.Line.{AreLinesOf, IsLineOf}
use Rattle.ira_view_json.specs.LogValue.{log_value}
use Rattle.ira_audit.proofs.LogTexts.{next_taken}
use Rattle.ira_view_show.proofs.Lines.{both_at}
use Rattle.ira_view.specs.Html.{AreLogLines}

-- the name at an index
pub name_at : {F : Type 0} (name : F → List ℕ) (files : List F) (i k : ℕ) (d : F) → k ≡ i → i < length files
    → slice_get (map name files) i ≡ Some (name (get_or files k d))
name_at name files i k d same within =
    subst (λ j. slice_get (map name files) i ≡ Some (name (get_or files j d))) (sym same)
    (slice_get-map name files i ∙ ap (option_map name) (slice_get-get_or files i d within))

-- those up to an index, and the one there
pub log_lines_next : (names : List (List ℕ)) (logs : List Log) (i : ℕ) (name : List ℕ) (log : Log) (text line : List ℕ)
    → slice_get names i ≡ Some name → slice_get logs i ≡ Some log → AreLogLines (take i (zip names logs)) text
    → IsLineOf (log_value name log.place log.initiator) line
    → AreLogLines (take (i + 1) (zip names logs)) (text ++ line)
log_lines_next names logs i name log text line at at' before is =
    let value = λ (file : List ℕ × Log). log_value file.0 file.1.place file.1.initiator in
    let files = take i (zip names logs) in
    let more = lines_append (map value files) (value (name, log) ∷ []) text line before
    (one_line (value (name, log)) line is) in
    let all = ap (map value) (sym (next_taken (zip names logs) i (name, log) (both_at names logs i name log at at')))
    ∙ map-append value files ((name, log) ∷ []) in
    subst (λ values. AreLinesOf values (text ++ line)) (sym all) more
