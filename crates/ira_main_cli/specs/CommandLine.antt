-- The program's command line, as the parser of words reads it.
use Rattle.std.specs.Prelude.{◌≡◌, ◌⊎◌, List, [], ◌∷◌, ◌++◌, Some, codes, find, fold, true}
use Rattle.std.specs.Option.{option_map_or}
use Rattle.std.specs.Str.{bytes_eq}
use Rattle.clap.specs.Lexer.{usize_max}
use Rattle.clap.specs.Simple.{built_leaf, on_top}
use Rattle.clap.specs.Words.{App, Rule, Text, new_app, new_rule, with_subcommand}
use Rattle.clap.specs.declared.builder.action.ArgAction.TheVariants.{Append, SetTrue}
use Rattle.clap.specs.declared.builder.value_parser.ValueParser.{ValueParser}
use Rattle.clap.specs.declared.builder.value_parser.ValueParser.TheVariants.{NonEmptyString, String, Unsigned}

-- ---- options

-- an option whose value this parser takes
abbrev pub option_rule : ValueParser → Text → Rule
option_rule parser name = record (new_rule name) { long = Some name; value_names = 1; parser = Some parser }

-- that takes any text
abbrev pub text_rule : Text → Rule
text_rule = option_rule String

-- that takes the name of a folder
abbrev pub folder_rule : Text → Rule
folder_rule = option_rule NonEmptyString

-- that takes a number below 2^64
abbrev pub number_rule : Text → Rule
number_rule = option_rule (Unsigned 0 18446744073709551615)

-- an option that is given or not
abbrev pub flag_rule : Text → Rule
flag_rule name = record (new_rule name) { long = Some name; action = Some SetTrue }

-- a word that this parser takes, with no option before it
abbrev pub word_rule : ValueParser → Text → Rule
word_rule parser name = record (new_rule name) { parser = Some parser }

-- names of files, one at least, with no option before them
abbrev pub files_rule : Text → Rule
files_rule name = record (new_rule name) {
  action = Some Append;
  range = Some (record { start_inclusive = 1; end_inclusive = usize_max });
}

-- what must be given
abbrev pub required : Rule → Rule
required rule = record rule { required = true }

-- what has this value where it isn't given
abbrev pub default_to : Text → Rule → Rule
default_to value rule = record rule { defaults = value ∷ [] }

-- whether the answer is wanted as JSON
abbrev pub json_rule : Rule
json_rule = flag_rule (codes "json")

-- where logs come from: the folder that has them, or their files
abbrev pub source_rules : List Rule
source_rules = folder_rule (codes "dir") ∷ files_rule (codes "LOG") ∷ []

-- a moment of the logged run
abbrev pub moment_rules : List Rule
moment_rules =
    text_rule (codes "at") ∷ text_rule (codes "question") ∷ text_rule (codes "ask") ∷ number_rule (codes "case") ∷ []

-- ---- commands

-- the command of this name with these options and names
abbrev pub command_app : Text → List Rule → App
command_app name rules = on_top (λ s. record s { rules = rules }) (new_app name)

abbrev pub logs_app : App
logs_app =
    command_app (codes "logs")
    (flag_rule (codes "each") ∷ flag_rule (codes "sum") ∷ flag_rule (codes "over") ∷ text_rule (codes "leads") ∷ json_rule
    ∷ source_rules)

abbrev pub explain_app : App
explain_app =
    command_app (codes "explain")
    (flag_rule (codes "each") ∷ flag_rule (codes "over") ∷ text_rule (codes "leads") ∷ text_rule (codes "question")
    ∷ text_rule (codes "ask") ∷ number_rule (codes "case") ∷ text_rule (codes "cert") ∷ json_rule ∷ source_rules)

abbrev pub show_app : App
show_app =
    command_app (codes "show")
    (text_rule (codes "leads") ∷ moment_rules ++ flag_rule (codes "events") ∷ json_rule ∷ source_rules)

abbrev pub draw_app : App
draw_app =
    command_app (codes "draw")
    (required (text_rule (codes "out")) ∷ moment_rules ++ number_rule (codes "from") ∷ number_rule (codes "to")
    ∷ source_rules)

abbrev pub check_app : App
check_app =
    command_app (codes "check")
    (required (text_rule (codes "question")) ∷ required (text_rule (codes "cert"))
    ∷ default_to (codes "2") (option_rule (Unsigned 0 4) (codes "depth")) ∷ json_rule ∷ source_rules)

abbrev pub decide_app : App
decide_app =
    command_app (codes "decide")
    (text_rule (codes "question") ∷ text_rule (codes "ask") ∷ text_rule (codes "out") ∷ json_rule ∷ source_rules)

abbrev pub pairs_app : App
pairs_app = command_app (codes "pairs") (required (word_rule (Unsigned 0 18446744073709551615) (codes "N")) ∷ [])

abbrev pub ask_app : App
ask_app =
    command_app (codes "ask")
    (number_rule (codes "nodes") ∷ folder_rule (codes "dir") ∷ required (word_rule String (codes "SENTENCE")) ∷ [])

abbrev pub run_app : App
run_app =
    command_app (codes "run")
    (required (number_rule (codes "nodes")) ∷ required (number_rule (codes "seed"))
    ∷ required (folder_rule (codes "out")) ∷ number_rule (codes "initiators")
    ∷ default_to (codes "64") (option_rule (Unsigned 0 100000) (codes "draws"))
    ∷ default_to (codes "10000") (number_rule (codes "cap")) ∷ default_to (codes "1") (number_rule (codes "terms"))
    ∷ flag_rule (codes "alone") ∷ [])

abbrev pub upgrade_app : App
upgrade_app = command_app (codes "upgrade") (required (folder_rule (codes "out")) ∷ source_rules)

abbrev pub mend_app : App
mend_app =
    command_app (codes "mend")
    (required (folder_rule (codes "out")) ∷ text_rule (codes "start") ∷ text_rule (codes "lost") ∷ source_rules)

abbrev pub guide_app : App
guide_app = command_app (codes "guide") (word_rule String (codes "TOPIC") ∷ [])

abbrev pub version_app : App
version_app = command_app (codes "version") []

abbrev pub commands : List App
commands =
    logs_app ∷ explain_app ∷ show_app ∷ draw_app ∷ check_app ∷ decide_app ∷ pairs_app ∷ ask_app ∷ run_app
    ∷ upgrade_app ∷ mend_app ∷ guide_app ∷ version_app ∷ []

-- what the parser reads of the command of this name
abbrev pub rules_named : Text → List Rule
rules_named name = option_map_or (λ a. (built_leaf a.top).rules) (find (λ a. bytes_eq a.top.name name) commands) []

-- one of these commands has this name
abbrev pub IsOneOf : Text → List App → Type 0
IsOneOf name [] = ⊥
IsOneOf name (command ∷ rest) = (name ≡ command.top.name) ⊎ IsOneOf name rest

-- ---- the program

-- the program's command line without its commands
abbrev pub ira_top : App
ira_top = on_top (λ s. record s { no_binary_name = true; subcommand_required = true }) (new_app (codes "ira"))

abbrev pub ira_app : App
ira_app = fold (λ app command. with_subcommand app command.top) ira_top commands
