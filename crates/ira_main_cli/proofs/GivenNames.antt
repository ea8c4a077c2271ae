-- The files that words after `logs` name: those up to `--`, where none of them begins with a dash, and
-- each after it.
use Rattle.std.proofs.Common.{◌≡◌, ◌≢◌, ℕ, true, false, List, [], ◌∷◌, ◌++◌, None, Some, All, refl, sym, ap}
use Rattle.std.proofs.Common.{subst, ◌∙◌, codes, append_assoc, arith, suc}
use Rattle.std.specs.Prelude.{fold, if◌then◌else◌, map}
use Rattle.std.proofs.lemmas.Bool.{ne_eqb}
use Rattle.std.proofs.lemmas.List.{append-nil}
use Rattle.clap.specs.Lexer.{strip_byte}
use Rattle.clap.specs.Simple.{built_leaf}
use Rattle.clap.specs.Walk.{Row, Rule, Text, Walk, finished, positional, rows_after, walk_from, nothing_held, walked}
use Rattle.ira_main_cli.specs.CommandLine.{logs_app}
use Rattle.ira_main_cli.specs.Asked.{HasLogs, IsOfFiles}
use Rattle.ira_main_cli.specs.Request.{IsFileName}
use Rattle.ira_main_cli.specs.declared.log_source.LogSource.{LogSource}
use Rattle.ira_main_cli.specs.declared.log_source.LogSource.TheVariants.{Files, Folder}

-- what a parse reads of `logs`
abbrev rules : List Rule
rules = (built_leaf logs_app.top).rules

-- the walk after some file names
abbrev named : List Text → Walk
named ws = record {
  held = record { rows = []; pending = Some (codes "LOG", ws); skip = 0 };
  waiting = positional;
  position = 1;
  is_trailing = false;
  stopped = None;
}

no_dash : (b : ℕ) (bs : Text) → b ≢ 45 → strip_byte 45 (b ∷ bs) ≡ None
no_dash b bs other = subst (λ t. (if t then Some bs else None) ≡ None) (sym (ne_eqb b 45 other)) refl

first_name : (w : Text) → IsFileName w → walked rules [] (walk_from nothing_held) w ≡ named (w ∷ [])
unfolding walked
first_name [] is = refl
first_name (b ∷ bs) is = rw (no_dash b bs is, ne_eqb b 45 is) refl

next_name : (ws : List Text) (w : Text) → IsFileName w → walked rules [] (named ws) w ≡ named (ws ++ w ∷ [])
unfolding walked
next_name ws [] is = refl
next_name ws (b ∷ bs) is = rw (no_dash b bs is, ne_eqb b 45 is) refl

next_names : (ws rest : List Text) → All IsFileName rest → fold (walked rules []) (named ws) rest ≡ named (ws ++ rest)
next_names ws [] are = ap named (sym (append-nil ws))
next_names ws (w ∷ rest) are =
    ap (λ x. fold (walked rules []) x rest) (next_name ws w (are 0 w (omega arith)))
    ∙ next_names (ws ++ w ∷ []) rest (λ k d lt. are (suc k) d (omega (arith, lt)))
    ∙ ap named (append_assoc ws (w ∷ []) rest)

all_names : (w : Text) (rest : List Text) → All IsFileName (w ∷ rest)
    → fold (walked rules []) (walk_from nothing_held) (w ∷ rest) ≡ named (w ∷ rest)
all_names w rest are =
    ap (λ x. fold (walked rules []) x rest) (first_name w (are 0 w (omega arith)))
    ∙ next_names (w ∷ []) rest (λ k d lt. are (suc k) d (omega (arith, lt)))

-- what is found where these names are read
abbrev pub rows_named : List Text → List Row
rows_named [] = finished rules nothing_held
rows_named (w ∷ ws) = finished rules (named (w ∷ ws)).held

pub words_rows : (words : List Text) → All IsFileName words → rows_after rules [] words ≡ rows_named words
words_rows [] are = refl
words_rows (w ∷ rest) are = ap (λ x. finished rules x.held) (all_names w rest are)

-- the walk after `--`, after some names
abbrev marked : List Text → Walk
marked ws = record (named ws) { is_trailing = true }

next_marked : (ws : List Text) (w : Text) → walked rules [] (marked ws) w ≡ marked (ws ++ w ∷ [])
unfolding walked
next_marked ws w = refl

all_marked : (ws rest : List Text) → fold (walked rules []) (marked ws) rest ≡ marked (ws ++ rest)
all_marked ws [] = ap marked (sym (append-nil ws))
all_marked ws (w ∷ rest) =
    ap (λ x. fold (walked rules []) x rest) (next_marked ws w) ∙ all_marked (ws ++ w ∷ []) rest
    ∙ ap marked (append_assoc ws (w ∷ []) rest)

walk_on : (x : Walk) (ws rest : List Text)
    → fold (walked rules []) x (ws ++ rest) ≡ fold (walked rules []) (fold (walked rules []) x ws) rest
walk_on x [] rest = refl
walk_on x (w ∷ ws) rest = walk_on (walked rules [] x w) ws rest

dashes_first : (w : Text) → walked rules [] (walked rules [] (walk_from nothing_held) (codes "--")) w ≡ marked (w ∷ [])
unfolding walked
dashes_first w = refl

dashes_next : (ws : List Text) → walked rules [] (named ws) (codes "--") ≡ marked ws
unfolding walked
dashes_next ws = refl

dashes_alone : rows_after rules [] (codes "--" ∷ []) ≡ rows_named []
unfolding walked
dashes_alone = refl

pub dashes_rows : (front back : List Text) → All IsFileName front
    → rows_after rules [] (front ++ codes "--" ∷ back) ≡ rows_named (front ++ back)
dashes_rows [] [] are = dashes_alone
dashes_rows [] (w ∷ back) are =
    ap (λ x. finished rules x.held) (ap (λ x. fold (walked rules []) x back) (dashes_first w)
    ∙ all_marked (w ∷ []) back)
dashes_rows (w ∷ front) back are =
    ap (λ x. finished rules x.held) (walk_on (walk_from nothing_held) (w ∷ front) (codes "--" ∷ back)
    ∙ ap (λ x. fold (walked rules []) x (codes "--" ∷ back)) (all_names w front are)
    ∙ ap (λ x. fold (walked rules []) x back) (dashes_next (w ∷ front)) ∙ all_marked (w ∷ front) back)

-- they are names of files
pub of_files : (source : LogSource) (ws : List Text) → HasLogs (rows_named ws) source → IsOfFiles source ws
of_files (Files names) [] has =
    let none = has.0 in
    cc
of_files (Files names) (w ∷ ws) has =
    let all : Some (w ∷ ws) ≡ Some (map (λ name. name.now) names.items) = has.0 in
    cc
of_files (Folder folder) [] has =
    let none = has.0 in
    cc
of_files (Folder folder) (w ∷ ws) has =
    let none : None ≡ Some folder.now = has.0 in
    cc
